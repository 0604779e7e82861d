use Rattle.ww_plain.proofs.FootprintFacts.{room_for_stop}
use Rattle.ww_plain.proofs.footprints.walk_footprint.Goals as goal

pub join_target-requires : goal.join_target-requires
join_target-requires c = room_for_stop _ _ _ _ _ _ c.requires.graph c.requires.course
    c.walk_from-nodes.ensures.nodes c.walk_from-nodes.ensures.stop

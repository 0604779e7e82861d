use Rattle.ww_loops.proofs.Applied as kept
use Rattle.ww_loops.proofs.uses.callers_rely_on.Goals as goal

pub returns : goal.returns
returns c = record {
  deadlocks = kept.deadlocks_give_way c.no_deadlock_lasts_in_drives.ensures;
  scenes = kept.deadlock_of_scenes_gives_way c.no_deadlock_lasts.ensures;
  sleepers = kept.sleepers_wait c.no_wake_is_lost_in_drives.ensures;
  looks = kept.looks_saw c.looks_are_true.ensures;
  deadlk = kept.deadlk_had_a_reason c.deadlk_was_met.ensures;
}

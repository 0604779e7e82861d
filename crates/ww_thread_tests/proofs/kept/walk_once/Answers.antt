use Rattle.std.proofs.Common.{sym, subst}
use Rattle.ww_plain.proofs.GraphFacts.{all_item}
use Rattle.ww_lock.specs.Holding.{Holding, IsAtHome}
use Rattle.ww_thread_tests.proofs.kept.walk_once.Goals as goal

pub map_vec-requires-after_bounds : goal.map_vec-requires-after_bounds
map_vec-requires-after_bounds g c = λ κs live i x lt is.
    subst (λ (s : Holding). IsAtHome s c.in-Ok.world) (sym is)
    (all_item (λ s. IsAtHome s c.in-Ok.world) c.in-Ok.passes.items i x lt c.in-Ok.ensures.ok.home)

use Rattle.std.proofs.Common.{◌<◌, length, sym, subst, arith}
use Rattle.std.proofs.lemmas.List.Elements.{recursion_from_All}
use Rattle.ww_plain.proofs.GraphFacts.{all_item}
use Rattle.ww_lock.specs.Holding.{Holding, IsAtHome}
use Rattle.ww_thread_tests.proofs.storms.storm.Goals as goal

pub map_vec-requires-after_bounds : goal.map_vec-requires-after_bounds
map_vec-requires-after_bounds g c = λ κs live i x lt is.
    subst (λ (s : Holding). IsAtHome s c.in-Ok.world) (sym is)
    (all_item (λ s. IsAtHome s c.in-Ok.world) c.in-Ok.passes.items i x lt c.in-Ok.ensures.ok.home)

pub passes_of-requires : goal.passes_of-requires
passes_of-requires g c = recursion_from_All _ c.in_ok-works.works.items (λ i d lt.
    let count : i < length c.in-Ok.passes.items = omega (arith, lt, c.in_ok-works.ensures.len) in
    let job = (c.in_ok-works.ensures.each i d count).1 in
    job.call.met)

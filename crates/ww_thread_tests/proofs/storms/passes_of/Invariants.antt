use Rattle.std.specs.Vec.Iter.{into_iter_items}
use Rattle.std.specs.List.{AllByRecursion}
use Rattle.ww_lock.specs.Holding.{IsAtHome}
use Rattle.ww_lock.specs.Holding.{AreAtHome}
use Rattle.ww_thread_tests.proofs.storms.passes_of.Given as goal

abbrev pub invariant-loop-pass : goal.invariant-loop-pass
invariant-loop-pass l = AreAtHome l.passes.items l._world × AllByRecursion (λ w. IsAtHome w.pass l._world) (into_iter_items l.pass-iterator)

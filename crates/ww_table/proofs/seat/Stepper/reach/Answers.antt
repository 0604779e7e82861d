use Rattle.std.proofs.Common.{ℕ, ◌<◌, List, sym, subst}
use Rattle.std.specs.List.{AllByRecursion}
use Rattle.ww_plain.specs.declared.history.Record.{Record}
use Rattle.ww_table.proofs.seat.Stepper.reach.Goals as goal

pub returns-clause-exact : goal.returns-clause-exact
returns-clause-exact c = λ n low all. c.reach_of.ensures.exact n low
    (subst (λ (own : List (ℕ × Record)). AllByRecursion (λ (p : ℕ × Record). p.0 < n) own)
    (sym c.deref.ensures.value) all)

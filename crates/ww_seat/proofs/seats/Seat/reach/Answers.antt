use Rattle.std.proofs.Common.{ℕ, ◌<◌, List, sym, subst, ap, ◌∙◌}
use Rattle.std.specs.List.{AllByRecursion}
use Rattle.ww_plain.specs.declared.history.Record.{Record}
use Rattle.ww_seat.specs.Standings.{Standing}
use Rattle.ww_seat.proofs.seats.Seat.reach.Goals as goal

pub returns-clause-exact : goal.returns-clause-exact
returns-clause-exact c = λ n most all. c.reach.ensures.exact n most
    (subst (λ (l : List (ℕ × Record)). AllByRecursion (λ p. p.0 < n) l)
    (sym (c.self.invariant.seated.records ∙ ap (λ (s : Standing). s.me.0.part.own) c.self.view_is)) all)

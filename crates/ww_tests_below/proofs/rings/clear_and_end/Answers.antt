use Rattle.std.proofs.Common.{inl, sym, subst}
use Rattle.ww_invariant.specs.Rule.{Sat}
use Rattle.ww_invariant.specs.Steps.{MayEnd}
use Rattle.ww_seat.specs.Standings.{Standing, view_in}
use Rattle.ww_tests_below.proofs.Holding.{may_end}
use Rattle.ww_tests_below.proofs.rings.clear_and_end.Goals as goal

pub clear-requires-clause-may : goal.clear-requires-clause-may
clear-requires-clause-may g c = let m = subst (λ (s : Standing). MayEnd (view_in s)) (sym c.into_inner-seat.ensures.is)
    (may_end c.args.board.now c.args.seat c.requires.holds) in record { context = m.context; why = inl (m.away, m.bare) }

pub end-requires-clause-may : goal.end-requires-clause-may
end-requires-clause-may g c = let m = subst (λ (s : Standing). MayEnd (view_in s)) (sym c.into_inner-seat.ensures.is)
    (may_end c.args.board.now c.args.seat c.requires.holds) in
    subst (λ (m : Sat). MayEnd m.0.part.core) (sym c.clear.ensures.now)
    (record { away = m.away; context = m.context; bare = m.bare })

use Rattle.std.proofs.Common.{ℕ, ◌++◌, ◌∷◌, [], List, Some, take, get_or, sym, ap, ◌∙◌, subst, true≢false}
use Rattle.std.proofs.lemmas.List.{take_more, take_all}
use Rattle.ww_model.specs.Run.{Reached}
use Rattle.ww_model.specs.Waits.{CondemnedOf}
use Rattle.ww_model.specs.Snapshot.{Snapshot, state_of}
use Rattle.ww_model.proofs.Condemned.{found_same, found_more, found_some}
use Rattle.ww_model.proofs.waits.condemned_in.Goals as goal
use Rattle.ww_model.proofs.waits.condemned_in.Goals.{then-is_condemned, else-is_condemned}

pub loop-seat-preserved : goal.loop-seat-preserved
loop-seat-preserved c = let now = state_of c.args.core.now in
    let seats = take c.loop-seat.seat-index c.args.ring.now in
    let seat = get_or c.args.ring.now c.loop-seat.seat-index 0 in
    subst (λ (xs : List ℕ). CondemnedOf now xs c.if-is_condemned.least)
    (sym (take_more c.args.ring.now c.loop-seat.seat-index 0 c.loop-seat-test.true))
    (elim c.if-is_condemned.branch [
      | then-is_condemned w ↦ subst (CondemnedOf now (seats ++ seat ∷ []))
          (sym (w.least-is ∙ ap Some w.lesser_of.ensures))
          (found_more now seats seat c.loop-seat.least c.loop-seat.invariant
          (c.is_condemned.ensures.0 w.if-is_condemned.true))
      | else-is_condemned w ↦ subst (CondemnedOf now (seats ++ seat ∷ [])) (sym w.least-is)
          (found_same now seats seat c.loop-seat.least c.loop-seat.invariant
          (λ is. true≢false (sym (c.is_condemned.ensures.1 is) ∙ w.if-is_condemned.false)))
    ])

pub returns-clause-least : goal.returns-clause-least
returns-clause-least c = subst (λ (xs : List ℕ). CondemnedOf (state_of c.args.core.now) xs c.loop-seat.least)
    (take_all c.loop-seat.seat-index c.args.ring.now c.loop-seat-test.false) c.loop-seat.invariant

pub returns-clause-ring : goal.returns-clause-ring
returns-clause-ring c = found_some (state_of c.args.core.now)
    (subst (λ (s : Snapshot). Reached (state_of s)) c.core.view_is c.core.invariant.reached) c.args.ring.now
    c.loop-seat.least
    (subst (λ (xs : List ℕ). CondemnedOf (state_of c.args.core.now) xs c.loop-seat.least)
    (take_all c.loop-seat.seat-index c.args.ring.now c.loop-seat-test.false) c.loop-seat.invariant)

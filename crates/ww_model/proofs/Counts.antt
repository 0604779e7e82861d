-- Each cancel is answered once, or waits.
use Rattle.std.proofs.Common.{◌≡◌, ◌≢◌, ◌+◌, ◌-◌, ◌==◌, ◌&&◌, ℕ, Bool, List, [], ◌∷◌, refl, sym, ap, ◌∙◌, arith}
use Rattle.ww_queue.proofs.Outcomes.{number_other, same_number}
use Rattle.ww_model.specs.declared.event.Event.{Event}
use Rattle.ww_model.specs.declared.event.Event.TheVariants.{Cancel, Heed, Leave}
use Rattle.ww_model.specs.State.{State, start, one_if}
use Rattle.ww_model.specs.Event.{Possible, after, answer}
use Rattle.ww_model.specs.Run.{state_after, IsRun}
use Rattle.ww_model.specs.Interrupts.{cancels_now, interrupts_now, cancels_in, interrupts_in, one_of}
use Rattle.ww_model.specs.Theorem.{CancelsAreCounted}
use Rattle.ww_model.proofs.Puts.{put_cases, puts_cases}
use Rattle.ww_model.proofs.Outcomes.{number_same, same_test}

module _ (from v : ℕ) where
  -- 0 is nobody's, and a seat plus 1 is that seat's
  pub one_of_nobody : one_of from v 0 ≡ 0
  one_of_nobody = ap one_if (number_other 0 (from + 1) (λ is. omega arith))

  one_of_seat : (s : ℕ) → one_of from v (s + 1) ≡ one_if (s == from)
  one_of_seat s = ap one_if (same_test (s + 1 == from + 1) (s == from)
      (λ is. let z = same_number (s + 1) (from + 1) is in number_same s from (omega arith))
      (λ is. let z = same_number s from is in number_same (s + 1) (from + 1) (omega arith)))

  pub one_before : (k : ℕ) → k ≢ 0 → one_if (k - 1 == from) ≡ one_of from v k
  one_before k some = ap one_if (same_test (k - 1 == from) (k == from + 1)
      (λ is. let z = same_number (k - 1) from is in number_same k (from + 1) (omega arith))
      (λ is. let z = same_number k (from + 1) is in number_same (k - 1) from (omega arith)))

  -- what an event of the seat counts, and one of another
  here : (b : Bool) (s : ℕ) → v ≡ s → one_if ((s == v) && b) ≡ one_if b
  here b s is = ap (λ (x : Bool). one_if (x && b)) (number_same s v (sym is))

  other : (b : Bool) (s : ℕ) → v ≢ s → one_if ((s == v) && b) ≡ 0
  other b s isnt = ap (λ (x : Bool). one_if (x && b)) (number_other s v (λ is. isnt (sym is)))

  -- the cancels that are not answered yet
  abbrev waiting_in : State → ℕ
  waiting_in c = one_of from v (c.cancel v) + one_of from v (c.heeded v)

  -- an event sets, answers or moves on what it counts
  counted : (c : State) (e : Event) → Possible c e
      → cancels_now from v e + waiting_in c ≡ interrupts_now from v e (answer c e) + waiting_in (after c e)
  counted c (Cancel s u) can = put_cases c.cancel u (s + 1) v
      (λ x. one_if ((u == v) && (s == from)) + (one_of from v (c.cancel v) + one_of from v (c.heeded v)) ≡ 0
      + (one_of from v x + one_of from v (c.heeded v)))
      (λ is. let a = here (s == from) u is in let b = one_of_seat s in
      let d = ap (one_of from v) (ap c.cancel is ∙ can.base.none) in let e = one_of_nobody in omega arith)
      (λ isnt. let a = other (s == from) u isnt in omega arith)
  counted c (Heed s n) can = puts_cases c.cancel c.heeded s 0 (c.cancel s) v
      (λ x y. 0 + (one_of from v (c.cancel v) + one_of from v (c.heeded v)) ≡ 0 + (one_of from v x + one_of from v y))
      (λ is. let a = ap (one_of from v) (ap c.cancel is) in
      let b = ap (one_of from v) (ap c.heeded is ∙ can.base.unheeded) in let d = one_of_nobody in omega arith)
      (λ _. refl)
  counted c (Leave s n) can = put_cases c.heeded s 0 v
      (λ x. 0 + (one_of from v (c.cancel v) + one_of from v (c.heeded v))
      ≡ one_if ((s == v) && (c.heeded s - 1 == from)) + (one_of from v (c.cancel v) + one_of from v x))
      (λ is. let a = here (c.heeded s - 1 == from) s is in let b = one_before (c.heeded s) can.base.heeded in
      let d = ap (one_of from v) (ap c.heeded is) in let e = one_of_nobody in omega arith)
      (λ isnt. let a = other (c.heeded s - 1 == from) s isnt in omega arith)
  counted c _ can = refl

  counted_all : (c : State) (events : List Event) → IsRun c events →
      cancels_in from v events + waiting_in c ≡ interrupts_in from v c events + waiting_in (state_after c events)
  counted_all c [] run = refl
  counted_all c (e ∷ es) run = let one = counted c e run.0 in let rest = counted_all (after c e) es run.1 in omega arith

pub cancels_are_counted : CancelsAreCounted
cancels_are_counted kind locks seats events run from v = let all =
    counted_all from v (start kind locks seats) events run in let n = one_of_nobody from v in omega arith

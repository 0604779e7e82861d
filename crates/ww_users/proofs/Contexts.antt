-- Contexts of a pass, through their tries.
use Rattle.std.proofs.Common.{◌≡◌, ℕ, [], length, refl, sym, subst, ap, ◌∙◌, arith, length-set, List, Option, Some, IfErr}
use Rattle.ww_plain.proofs.Doubles.{no_double_is_none}
use Rattle.ww_plain.proofs.Members.{different_none}
use Rattle.ww_lock.specs.Holding.{Holding}
use Rattle.ww_lock.specs.Moves.{with_node, taken, backed_off, having_slept, interrupted_by, going_on_or_halted, IsTaken, IsInterrupted, IsAnswer}
use Rattle.ww_lock.specs.Waits.{Waits}
use Rattle.ww_lock.specs.Waits.TheVariants.{ToTheEnd}
use Rattle.ww_lock.specs.declared.interruptible.Interruptible.{Interruptible}
use Rattle.ww_lock.specs.declared.interruptible.Interruptible.TheVariants as answer
use Rattle.ww_users.specs.declared.fault.UserFault.{UserFault}
use Rattle.ww_users.specs.declared.fault.UserFault.TheVariants.{PassSpent, Already, Interrupted}
use Rattle.ww_users.specs.declared.trip.Trip.TheVariants.{Failed}
use Rattle.ww_users.specs.Ways.{IsToldOfEach, IsSameContext, IsReturned, IsContext, IsRefusal, with_locks_of, having_begun}
use Rattle.ww_users.specs.Trips.{IsHalted, IsHalt, IsTrip}

-- ---- the same context

pub same_itself : (s : Holding) → IsSameContext s s
same_itself s = record { rest = refl; told = refl; size = refl }

pub same_later : {s a b : Holding} → IsSameContext s a → IsSameContext a b → IsSameContext s b
same_later {s} {a} {b} h more = record {
  rest = more.rest ∙ ap (with_locks_of b) h.rest;
  told = omega (arith, h.told, more.told);
  size = more.size ∙ h.size;
}

-- a state in which nothing but the locks of a context changed
same_as : (s now a : Holding) → a ≡ now → now ≡ with_locks_of now s → IsToldOfEach s now
    → length now.seen ≡ length s.seen → IsSameContext s a
same_as s now a is rest told size = subst (IsSameContext s) (sym is) (record { rest = rest; told = told; size = size })

pub same_taken : {s a : Holding} {n : ℕ} → IsTaken s n a → IsSameContext s a
same_taken {s} {a} {n} t = same_as s (with_node (taken (having_slept s a.deaf)) n t.contents) a t.added refl (omega arith)
    (length-set s.seen n t.contents)

pub same_backed_off : (s a : Holding) → a ≡ backed_off (having_slept s a.deaf) → IsSameContext s a
same_backed_off s a is = same_as s (backed_off (having_slept s a.deaf)) a is refl (omega arith) refl

-- its wait was called off, before or after it took and gave locks
same_interrupted : {s a : Holding} (n by : ℕ) → IsSameContext s a → IsSameContext (interrupted_by s n by) (interrupted_by a n by)
same_interrupted {s} {a} n by h = record {
  rest = ap (λ (c : Holding). interrupted_by c n by) h.rest;
  told = omega (arith, h.told);
  size = h.size;
}

pub same_told : {s a : Holding} {n by : ℕ} → IsInterrupted s n by a → IsSameContext (interrupted_by s n by) a
same_told {s} {a} {n} {by} h = same_as (interrupted_by s n by) (interrupted_by s n by) a h.told refl refl refl

pub halted_later : (waits : Waits) {s a : Holding} (b : Holding) (by : ℕ) → IsSameContext s a → IsHalted waits a by b → IsHalted waits s by b
halted_later waits b by h halted = (halted.0, (halted.1.0, same_later (same_interrupted halted.1.0 by h) halted.1.1))

-- the answer of a lock call tells why the context doesn't go on
pub one_halted : (waits : Waits) (s : Holding) (n : ℕ) (told : Interruptible) → IsAnswer waits s n told
    → IfErr (going_on_or_halted told) (IsHalt waits s)
one_halted waits s n (answer.Locked a) h = tt
one_halted waits s n (answer.Already a) h = tt
one_halted waits s n (answer.Deadlk b) h = same_backed_off s b.holding h.0.told
one_halted waits s n (answer.Interrupted a by) h = (h.0, (n, same_told h.1))

-- whichever locks it takes, it is a context of the same pass
pub context_later : {s a b : Holding} → IsContext s a → IsSameContext a b → IsContext s b
context_later {s} {a} {b} h more =
    let stamps : b.stamp ≡ a.stamp = ap (λ (c : Holding). c.stamp) more.rest in
    record {
      some = h.some;
      stamped = rw stamps h.stamped;
      same = subst (λ k. IsSameContext (record (having_begun 1 s) { stamp = k }) b) (sym stamps) (same_later h.same more);
    }

-- ---- why it comes back as a pass

-- it released all
comes_back : {s a : Holding} (p : Holding) → IsContext s a → p ≡ record a { held = []; stamp = 0 }
    → IsReturned s 1 p × (p.room ≡ s.room)
comes_back {s} {a} p h is =
    let room : a.room ≡ s.room = ap (λ (d : Holding). d.room) h.same.rest in
    let rest = ap (λ (d : Holding). record d { held = []; stamp = 0 }) h.same.rest in
    subst (λ (d : Holding). IsReturned s 1 d × (d.room ≡ s.room)) (sym is) (
      record { some = h.some; same = record { rest = rest ∙ rw room refl; told = h.same.told; size = h.same.size }; nothing = refl },
      room,
    )

-- its wait was called off
pub halted_refused : (waits : Waits) {s a : Holding} (b p : Holding) (by : ℕ) → IsContext s a → IsHalted waits a by b
    → p ≡ record b { held = []; stamp = 0 } → IsRefusal waits s [] p (Interrupted by)
halted_refused waits {s} {a} b p by h halted is =
    let called : IsContext (interrupted_by s halted.1.0 by) (interrupted_by a halted.1.0 by) =
    record { some = h.some; stamped = h.stamped; same = same_interrupted halted.1.0 by h.same } in
    let back = comes_back p (context_later called halted.1.1) is in ((halted.0, (halted.1.0, back.0)), back.1)

-- a trip through a list failed
pub failed_refused : (waits : Waits) {s a : Holding} (b p : Holding) (list : List ℕ) (kept : Option ℕ) (fault : UserFault)
    → IsContext s a → IsTrip waits a list kept (Failed b fault) → p ≡ record b { held = []; stamp = 0 }
    → IsRefusal waits s list p fault
failed_refused waits b p list kept PassSpent h told is = absurd told
failed_refused waits b p list kept (Already n) h told is =
    let back = comes_back p (context_later h told.0) is in ((told.1, back.0), back.1)
failed_refused waits b p list kept (Interrupted by) h told is = halted_refused waits b p by h told is

-- a walk to the end fails only where the pass was spent
pub spent_walk : (s p : Holding) (fault : UserFault) → IsRefusal ToTheEnd s [] p fault → fault ≡ PassSpent
spent_walk s p PassSpent h = refl
spent_walk s p (Already n) h = absurd (no_double_is_none [] (Some n) h.0.0 refl different_none)
spent_walk s p (Interrupted by) h = absurd cc

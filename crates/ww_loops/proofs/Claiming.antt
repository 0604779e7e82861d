-- A desk that says that it has a lock, though its seat made no step.
use Rattle.std.proofs.Common.{◌≡◌, inl, ℕ, zero, suc, ◌+◌, ◌<◌, ◌≤◌, true, [], ◌∷◌, ◌++◌, None, refl, arith}
use native.Mathlib.Decide.{ℕ_discrete}
use Rattle.ww_queue.specs.declared.kind.Kind.{Kind}
use Rattle.ww_model.specs.State.{put}
use Rattle.ww_invariant.specs.declared.cells.Sight.{Sight}
use Rattle.ww_invariant.specs.Layout.{lock_at}
use Rattle.ww_refines.proofs.Pictures.{seated}
use Rattle.ww_refines.proofs.Small.{small, waiter_1, first_locks}
use Rattle.ww_seat.specs.Calls.{HasStayedOut}
use Rattle.ww_seat.specs.declared.waits.Waits.TheVariants.{ToTheEnd}
use Rattle.ww_steps.specs.declared.turn.Answer.TheVariants.{Done}
use Rattle.ww_steps.specs.Situations.{Situation}
use Rattle.ww_steps.specs.Answers.{IsTryable}
use Rattle.ww_callers.specs.Stages.{Stage}
use Rattle.ww_callers.specs.Deeds.{Deed, calls, answers, halts, lock, Does}
use Rattle.ww_callers.proofs.Shown.{Desks, staged, called, answered, IsAnswer, calls_does, answers_does}
use Rattle.ww_callers.proofs.Starting.{is_of_world, q_3, g_3}
use Rattle.ww_callers.proofs.Turns.{once_locked}
use Rattle.ww_loops.specs.Calls.{LockCall}
use Rattle.ww_loops.specs.Witness.{ClaimsAreFalseWithoutSeats}

-- the answer that it has the lock, of a desk that may want it, by what its seat knows then
pub says_locked : (s : Situation) (v : Sight) (n : ℕ) → IsTryable s n → HasStayedOut s.view v.part.core →
    v.part.core.inside ≡ 0 → s.cancelled ≡ v.part.counts.cancelled →
    IsAnswer s v (lock n ToTheEnd) Done (once_locked s n v.part.core)
says_locked s v n may stays out same = record { done = (may, (stays, refl)); outside = λ _. out; sees = refl; cancelled = same }

abbrev q_4 : Kind → Desks
q_4 kind = called (q_3 kind) 1

-- its seat knows what it knew
abbrev claims : Kind → Situation
claims kind = once_locked ((q_4 kind).desk 1) 1 (waiter_1 kind).part.core

abbrev q_5 : Kind → Desks
q_5 kind = answered (q_4 kind) 1 Done (claims kind)

is_claimed : (kind : Kind) → IsAnswer ((q_4 kind).desk 1) (waiter_1 kind) (lock 1 ToTheEnd) Done (claims kind)
unfolding put ℕ_discrete lock_at
is_claimed kind = says_locked ((q_4 kind).desk 1) (waiter_1 kind) 1
    (record { rests = refl; lacks = refl; there = omega arith; wants = refl })
    (record { attempts = refl; debts = refl; naps = refl; deaf = refl }) refl refl

abbrev deed : ℕ → Deed
deed zero = calls 1
deed (suc zero) = answers 1 (lock 1 ToTheEnd) Done
deed (suc (suc i)) = halts

module _ (kind : Kind) where
  abbrev stage : ℕ → Stage (small kind)
  stage zero = staged (first_locks kind).at.moment (q_3 kind)
  stage (suc zero) = staged (first_locks kind).at.moment (q_4 kind)
  stage (suc (suc i)) = staged (first_locks kind).at.moment (q_5 kind)

  goes_on : (i : ℕ) → Does (stage i) (stage (suc i)) (deed i)
  unfolding put ℕ_discrete lock_at
  goes_on zero = calls_does (first_locks kind).at (q_3 kind) 1 (omega arith) refl refl refl
  goes_on (suc zero) = answers_does (first_locks kind).at (q_4 kind) 0 1 (waiter_1 kind) (seated refl refl refl (omega arith)) refl
      (lock 1 ToTheEnd) Done (claims kind) (is_claimed kind)
  goes_on (suc (suc i)) = refl

  amid : (k : ℕ) → 0 < k → k ≤ 1 → (stage k).calling 1 ≡ true
  unfolding put ℕ_discrete
  amid zero low high = absurd (omega arith)
  amid (suc zero) low high = refl
  amid (suc (suc k)) low high = absurd (omega arith)

  call : LockCall stage deed 1 1 0 1
  call = record {
    begun = refl;
    waits = ToTheEnd;
    first = 1;
    answer = Done;
    after = omega arith;
    amid = amid;
    answers_first = refl;
    ends = inl (refl, refl);
  }

pub claims_are_false_without_seats : ClaimsAreFalseWithoutSeats
claims_are_false_without_seats kind = record {
  key = small kind;
  stage = stage kind;
  deed = deed;
  of_kind = refl;
  world = is_of_world kind;
  endless = record { begins = (g_3 kind).driven; goes_on = goes_on kind };
  call = (1, 1, 0, 1, omega arith, call kind, λ t. let after = t.after in let before = t.before in omega arith);
}

-- A drive of two desks: the second called its own wait off before it came to wait, and the first
-- releases the lock then.
use Rattle.std.proofs.Common.{⊎_elim, inl, ℕ, zero, suc, ◌<◌, true≢false, ◌∷◌, Some, refl, sym, ◌∙◌, arith}
use native.Mathlib.Decide.{ℕ_discrete}
use Rattle.ww_queue.specs.declared.kind.Kind.{Kind}
use Rattle.ww_model.specs.declared.event.Event.TheVariants.{FastGive, Unguard, Leave}
use Rattle.ww_model.specs.State.{put}
use Rattle.ww_view.specs.Made.{without}
use Rattle.ww_invariant.specs.Layout.{lock_at}
use Rattle.ww_laws.specs.Scene.{performs}
use Rattle.ww_refines.proofs.Pictures.{seated}
use Rattle.ww_refines.proofs.Small.{small, waiter_1}
use Rattle.ww_refines.proofs.CalledOff.{off_1, off_5, free, cancels, waits, heeds, leaves_list, comes_out, releases, moment, calm, scheduled}
use Rattle.ww_refines.proofs.CalledOff as run
use Rattle.ww_seat.specs.declared.waits.Waits.TheVariants.{UntilCancelled}
use Rattle.ww_steps.specs.declared.turn.Turn.TheVariants.{Rests}
use Rattle.ww_steps.specs.declared.turn.Answer.TheVariants.{Done, Interrupted}
use Rattle.ww_steps.specs.Situations.{Situation}
use Rattle.ww_steps.proofs.Account.{balances_same, balances_cancel, step_books}
use Rattle.ww_callers.specs.Stages.{Stage}
use Rattle.ww_callers.specs.Deeds.{Deed, Does, go_on, cancel, unlock, steps, answers, halts}
use Rattle.ww_callers.specs.Drives.{IsDueBy, IsServed}
use Rattle.ww_callers.specs.Witness.{WaitsAreInEndlessDrives}
use Rattle.ww_callers.proofs.Shown.{Desks, staged, Shown, called, answered, calls_then, steps_then, steps_does, answers_does, IsAnswer, OwesNobody, nothing_due}
use Rattle.ww_callers.proofs.Turns.{turned, turns, may_turn, waits_by, waits_now}
use Rattle.ww_callers.proofs.Starting.{is_of_world, q_3, g_3, owe_nobody}
use Rattle.ww_callers.proofs.Sleeping.{has_no_mark, wakes_none}

-- ---- until the second has heeded its cancel, and the first is about to release the lock

-- the second has called its own wait off
abbrev cancelled_1 : Kind → Situation
cancelled_1 kind = let s = (q_3 kind).desk 1 in record s { cancelled = 1 ∷ s.cancelled }

abbrev q_4 : Kind → Desks
q_4 kind = turned (q_3 kind) 1 Done (cancelled_1 kind)

g_4 : (kind : Kind) → Shown (cancels kind).at (q_4 kind)
unfolding put ℕ_discrete lock_at
g_4 kind = let s = (q_3 kind).desk 1 in
    turns (g_3 kind) 0 1 (waiter_1 kind) (off_1 kind) (may_turn refl refl refl refl refl refl) (cancels kind)
    (seated refl refl refl (omega arith)) (cancel 1) Done (cancelled_1 kind) (record {
      done = (
        (refl, omega arith, (λ u. (inl, ⊎_elim (λ was. was) (λ also. absurd (also.0 refl)))), refl),
        step_books s (cancelled_1 kind) (balances_cancel s (cancelled_1 kind) 1 refl refl refl
            (λ u. (inl, ⊎_elim (λ was. was) (λ also. absurd (also.0 refl))))),
      );
      outside = λ _. refl;
      sees = refl;
      cancelled = refl;
    })

abbrev q_5 : Kind → Desks
q_5 kind = waits_by (q_4 kind) 1 0 UntilCancelled (off_1 kind)

g_5 : (kind : Kind) → Shown (waits kind).joins.at (q_5 kind)
unfolding put ℕ_discrete
g_5 kind = waits_now (g_4 kind) (may_turn refl refl refl refl refl refl) UntilCancelled (waits kind)
    (record { rests = refl; lacks = refl; there = omega arith; wants = refl })

abbrev q_6 : Kind → Desks
q_6 kind = called (q_5 kind) 0

g_6 : (kind : Kind) → Shown (heeds kind).at (q_6 kind)
unfolding put ℕ_discrete lock_at
g_6 kind = calls_then (steps_then (g_5 kind) (heeds kind) refl refl) 0 (omega arith) refl refl refl

-- ---- the desks answer

abbrev stopped : Kind → Situation
stopped kind = let s = (q_6 kind).desk 1 in record s {
  turn = Rests;
  interrupted = (0, 1) ∷ s.interrupted;
  view = (off_5 kind).part.core;
}

abbrev freed : Kind → Situation
freed kind = let s = (q_6 kind).desk 0 in record s { held = without 0 s.held; view = (free kind).part.core }

abbrev q_7 : Kind → Desks
q_7 kind = answered (q_6 kind) 1 (Interrupted 1) (stopped kind)

abbrev q_8 : Kind → Desks
q_8 kind = answered (q_7 kind) 0 Done (freed kind)

is_stopped : (kind : Kind) → IsAnswer ((q_6 kind).desk 1) (off_5 kind) go_on (Interrupted 1) (stopped kind)
unfolding put ℕ_discrete
is_stopped kind = let s = (q_6 kind).desk 1 in record {
  done = (
    (wakes_none s (stopped kind) refl refl, refl, refl),
    step_books s (stopped kind) (balances_same s (stopped kind) refl refl refl refl),
    refl,
  );
  outside = λ _. refl;
  sees = refl;
  cancelled = refl;
}

is_freed : (kind : Kind) → IsAnswer ((q_7 kind).desk 0) (free kind) (unlock 0) Done (freed kind)
unfolding put ℕ_discrete
is_freed kind = record {
  done = (
    record { rests = refl; holds = refl },
    (record { attempts = refl; debts = refl; naps = refl; deaf = refl }, refl),
  );
  outside = λ _. refl;
  sees = refl;
  cancelled = refl;
}

-- ---- the drive

abbrev desks : Kind → ℕ → Desks
desks kind zero = q_6 kind
desks kind (suc zero) = q_6 kind
desks kind (suc (suc zero)) = q_6 kind
desks kind (suc (suc (suc zero))) = q_6 kind
desks kind (suc (suc (suc (suc zero)))) = q_7 kind
desks kind (suc (suc (suc (suc (suc i))))) = q_8 kind

abbrev deed : ℕ → Deed
deed zero = steps 1 (Some (performs (Leave 1 0)))
deed (suc zero) = steps 1 (Some (performs (Unguard 1 0)))
deed (suc (suc zero)) = steps 0 (Some (performs (FastGive 0 0)))
deed (suc (suc (suc zero))) = answers 1 go_on (Interrupted 1)
deed (suc (suc (suc (suc zero)))) = answers 0 (unlock 0) Done
deed (suc (suc (suc (suc (suc i))))) = halts

module _ (kind : Kind) where
  abbrev stage : ℕ → Stage (small kind)
  stage i = staged (moment kind i) (desks kind i)

  goes_on : (i : ℕ) → Does (stage i) (stage (suc i)) (deed i)
  unfolding put ℕ_discrete lock_at
  goes_on zero = steps_does (heeds kind).at (q_6 kind) (leaves_list kind) refl refl
  goes_on (suc zero) = steps_does (leaves_list kind).at (q_6 kind) (comes_out kind) refl refl
  goes_on (suc (suc zero)) = steps_does (comes_out kind).at (q_6 kind) (releases kind) refl refl
  goes_on (suc (suc (suc zero))) = answers_does (releases kind).at (q_6 kind) 0 1 (off_5 kind) (seated refl refl refl (omega arith))
      refl go_on (Interrupted 1) (stopped kind) (is_stopped kind)
  goes_on (suc (suc (suc (suc zero)))) = answers_does (releases kind).at (q_7 kind) 1 0 (free kind)
      (seated refl refl refl (omega arith)) refl (unlock 0) Done (freed kind) (is_freed kind)
  goes_on (suc (suc (suc (suc (suc i))))) = refl

  owes_at_first : OwesNobody (small kind) (q_6 kind)
  unfolding put ℕ_discrete
  owes_at_first = owe_nobody (q_6 kind) has_no_mark has_no_mark (λ s. refl) (λ s. refl)

  owes_nobody : (i : ℕ) → OwesNobody (small kind) (desks kind i)
  unfolding put ℕ_discrete
  owes_nobody zero = owes_at_first
  owes_nobody (suc zero) = owes_at_first
  owes_nobody (suc (suc zero)) = owes_at_first
  owes_nobody (suc (suc (suc zero))) = owes_at_first
  owes_nobody (suc (suc (suc (suc zero)))) = owe_nobody (q_7 kind) has_no_mark has_no_mark (λ s. refl) (λ s. refl)
  owes_nobody (suc (suc (suc (suc (suc i))))) = owe_nobody (q_8 kind) has_no_mark has_no_mark (λ s. refl) (λ s. refl)

  none_due : (i t s : ℕ) → t < 2 → ¬ IsDueBy (stage i) t s
  none_due i = nothing_due (desks kind i) (owes_nobody i) (moment kind i) (calm kind i).unowed

  served : (s : ℕ) → s < 2 → IsServed stage deed s
  served s low = let h = scheduled kind s low in record {
    woken = λ i t few due. absurd (none_due i t s few due);
    rises = λ i token sleeps. absurd (true≢false (sym token ∙ (calm kind i).token s));
    settles = h.settled;
    looks = h.looks;
    leaves = h.leaves;
  }

pub waits_are_in_endless_drives : WaitsAreInEndlessDrives
waits_are_in_endless_drives kind = record {
  key = small kind;
  stage = stage kind;
  deed = deed;
  seat = 1;
  lock = 0;
  of_kind = refl;
  world = is_of_world kind;
  low = omega arith;
  endless = record { begins = (g_6 kind).driven; goes_on = goes_on kind };
  served = served kind;
  go_on = run.go_on kind;
  waits = (calm kind 0).second;
}

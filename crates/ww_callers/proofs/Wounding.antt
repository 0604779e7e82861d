-- The drive of the two in Wound-Wait: the older condemns the younger and falls asleep once it has woken it, and the younger
-- dies.
use Rattle.std.proofs.Common.{◌≡◌, ◌≢◌, ℕ, Bool, true, false, true≢false, List, ◌∷◌, refl, sym, ap, ◌∙◌, subst, arith}
use native.Mathlib.Decide.{ℕ_discrete}
use Rattle.ww_word.specs.Owner.{with_waiters}
use Rattle.ww_queue.specs.declared.kind.Kind.TheVariants.{WoundWait, WaitDie}
use Rattle.ww_model.specs.State.{put}
use Rattle.ww_model.proofs.Puts.{put_here, put_else, put_cases}
use Rattle.ww_invariant.specs.Layout.{lock_at}
use Rattle.ww_refines.proofs.Pictures.{seated}
use Rattle.ww_refines.proofs.Small.{owner}
use Rattle.ww_refines.proofs.Deadlocked.{b_4, younger_in_list, wounded_out, signs, finds_none, wounded_exits, wounded_wakes, wounded_sleeps, finds_sign}
use Rattle.ww_refines.proofs.Doomed.{is_wounded}
use Rattle.ww_steps.specs.declared.turn.Answer.TheVariants.{Sleeps}
use Rattle.ww_steps.specs.Situations.{Situation}
use Rattle.ww_callers.specs.Deeds.{go_on}
use Rattle.ww_callers.proofs.Shown.{Desks, Shown, answered, naming, rid_of, steps_then, answers_then, names_then, wakes_then, parks_then}
use Rattle.ww_callers.proofs.Pair.{q_6, g_6}
use Rattle.ww_callers.proofs.Sleeping.{marked, cleared, has_no_mark_then, is_taken, wakes_one, once_asleep, falls_asleep, has_no_mark}
use Rattle.ww_callers.proofs.Doomed.{IsAboutToTell, has_deadlock}
use Rattle.ww_callers.specs.Witness.{HasDeadlockDriven, DeadlocksAreInEndlessDrives}
use Rattle.ww_callers.proofs.Dying.{has_deadlock_dying}

-- it signs the younger, finds that it has no sign, comes out, and is told to sleep
abbrev pub older_1 : Situation
older_1 = once_asleep ((q_6 WoundWait).desk 0) 1 marked wounded_out.part.core

abbrev pub q_7 : Desks
q_7 = answered (q_6 WoundWait) 0 Sleeps older_1

g_7 : Shown wounded_exits.at q_7
unfolding put ℕ_discrete lock_at
g_7 = answers_then
    (steps_then (steps_then (steps_then (g_6 WoundWait) signs refl refl) finds_none refl refl) wounded_exits refl refl) 1 0
    wounded_out (seated refl refl refl (omega arith)) refl go_on Sleeps older_1 (record {
      done = falls_asleep ((q_6 WoundWait).desk 0) 1 marked wounded_out.part.core refl (omega arith) refl
          (wakes_one ((q_6 WoundWait).desk 0) older_1 refl refl refl refl)
          (record { own = refl; still_own = refl; none = refl; booked = λ before is. ap (λ (l : List ℕ). 1 ∷ l) is });
      outside = λ _. refl;
      sees = refl;
      cancelled = refl;
    })

-- it names the younger, gives it a token, and falls asleep
abbrev pub older_2 : Situation
older_2 = record older_1 { wakes = cleared }

abbrev pub q_8 : Desks
q_8 = naming q_7 0 1 older_2

g_8 : Shown wounded_exits.at q_8
unfolding put ℕ_discrete
g_8 = names_then g_7 0 1 (omega arith) refl refl older_2 (λ inside. absurd (true≢false (sym inside)), λ _. (is_taken, refl))

abbrev pub q_9 : Desks
q_9 = rid_of q_8 0 1

g_9 : Shown wounded_wakes.at q_9
unfolding put ℕ_discrete
g_9 = wakes_then g_8 0 1 wounded_wakes (omega arith) refl refl refl

named_none : (u : ℕ) → q_9.named 0 u ≡ false
named_none u = subst (λ (f : ℕ → Bool). f u ≡ false) (sym (put_here q_8.named 0 (put (q_8.named 0) 1 false)))
    (put_cases (q_8.named 0) 1 false u (λ b. b ≡ false) (λ _. refl) (λ isnt. was u isnt))
  where
    was : (u : ℕ) → u ≢ 1 → q_8.named 0 u ≡ false
    was u isnt = subst (λ (f : ℕ → Bool). f u ≡ false) (sym (put_here q_7.named 0 (put (q_7.named 0) 1 true)))
        (put_else (q_7.named 0) 1 true u isnt)

-- then the younger reads its sign
pub g_10 : Shown finds_sign.at q_9
unfolding put ℕ_discrete
g_10 = steps_then (parks_then g_9 0 wounded_sleeps (omega arith) refl refl refl
    (λ u has. true≢false (sym has ∙ has_no_mark_then u)) named_none) finds_sign refl refl

-- ... and dies
pub tells_wounded : IsAboutToTell q_9 b_4
unfolding put ℕ_discrete lock_at
tells_wounded = record {
  calling = refl;
  turn = refl;
  backs_off = record {
    context = omega arith;
    older = omega arith;
    holds = omega arith;
    met = record {
      owner = with_waiters owner;
      list = younger_in_list;
      noted = refl;
      shown = record { wounded = λ _. (refl, omega arith); older = λ is. absurd (cc) };
    };
    now = refl;
  };
  alike = (refl, refl);
  condemned = refl;
  cancelled = refl;
  unmarked = (has_no_mark_then, has_no_mark);
  unnamed = (named_none, λ s. refl);
}

pub has_deadlock_wounding : HasDeadlockDriven WoundWait
unfolding put ℕ_discrete lock_at
has_deadlock_wounding = has_deadlock g_10 wounded_out b_4 is_wounded tells_wounded

-- ---- in each kind

pub deadlocks_are_in_endless_drives : DeadlocksAreInEndlessDrives
deadlocks_are_in_endless_drives WaitDie = has_deadlock_dying
deadlocks_are_in_endless_drives WoundWait = has_deadlock_wounding

-- The drive of the two in Wait-Die: the older falls asleep, and the younger dies.
use Rattle.std.proofs.Common.{inl, true≢false, refl, sym, ◌∙◌, arith}
use native.Mathlib.Decide.{ℕ_discrete}
use Rattle.ww_word.specs.Owner.{with_waiters}
use Rattle.ww_queue.specs.declared.kind.Kind.TheVariants.{WaitDie}
use Rattle.ww_model.specs.State.{put}
use Rattle.ww_invariant.specs.Layout.{lock_at}
use Rattle.ww_refines.proofs.Pictures.{seated}
use Rattle.ww_refines.proofs.Small.{owner, first_not_second}
use Rattle.ww_refines.proofs.Deadlocked.{b_3, younger_in_list, aged_out, finds_unsigned, aged_exits, aged_sleeps}
use Rattle.ww_refines.proofs.Doomed.{is_dying}
use Rattle.ww_steps.specs.declared.turn.Answer.TheVariants.{Sleeps}
use Rattle.ww_steps.specs.Situations.{Situation}
use Rattle.ww_callers.specs.Deeds.{go_on}
use Rattle.ww_callers.proofs.Shown.{Desks, Shown, answered, steps_then, answers_then, parks_then}
use Rattle.ww_callers.proofs.Pair.{q_6, g_6}
use Rattle.ww_callers.proofs.Sleeping.{has_no_mark, wakes_none, unmarked, once_asleep, falls_asleep}
use Rattle.ww_callers.proofs.Doomed.{IsAboutToTell, has_deadlock}
use Rattle.ww_callers.specs.Witness.{HasDeadlockDriven}

-- it finds that it has no sign, comes out, is told to sleep, and falls asleep
abbrev pub older_1 : Situation
older_1 = once_asleep ((q_6 WaitDie).desk 0) 1 unmarked aged_out.part.core

abbrev pub q_7 : Desks
q_7 = answered (q_6 WaitDie) 0 Sleeps older_1

g_7 : Shown aged_exits.at q_7
unfolding put ℕ_discrete lock_at
g_7 = answers_then (steps_then (steps_then (g_6 WaitDie) finds_unsigned refl refl) aged_exits refl refl) 1 0 aged_out
    (seated refl refl refl (omega arith)) refl go_on Sleeps older_1 (record {
      done = falls_asleep ((q_6 WaitDie).desk 0) 1 unmarked aged_out.part.core refl (omega arith) refl
          (wakes_none ((q_6 WaitDie).desk 0) older_1 refl refl)
          (record { own = refl; still_own = refl; none = refl; booked = λ before is. is });
      outside = λ _. refl;
      sees = refl;
      cancelled = refl;
    })

pub g_8 : Shown aged_sleeps.at q_7
unfolding put ℕ_discrete
g_8 = parks_then g_7 0 aged_sleeps (omega arith) refl refl refl (λ u has. true≢false (sym has ∙ has_no_mark u)) (λ u. refl)

-- the younger dies
pub tells_dying : IsAboutToTell q_7 (b_3 WaitDie)
unfolding put ℕ_discrete lock_at
tells_dying = record {
  calling = refl;
  turn = refl;
  backs_off = record {
    context = omega arith;
    older = omega arith;
    holds = omega arith;
    met = record {
      owner = with_waiters owner;
      list = younger_in_list;
      noted = refl;
      shown = record { wounded = λ is. absurd (cc); older = λ _. inl ((0, refl, first_not_second), refl) };
    };
    now = refl;
  };
  alike = (refl, refl);
  condemned = refl;
  cancelled = refl;
  unmarked = (has_no_mark, has_no_mark);
  unnamed = (λ s. refl, λ s. refl);
}

pub has_deadlock_dying : HasDeadlockDriven WaitDie
unfolding put ℕ_discrete lock_at
has_deadlock_dying = has_deadlock g_8 aged_out (b_3 WaitDie) is_dying tells_dying

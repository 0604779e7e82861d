-- The drive of the two from its deadlock on: the younger dies, comes out of the guard, and gets EDEADLK, while the older sleeps;
-- and then nothing happens.
use Rattle.std.proofs.Common.{◌≡◌, ℕ, false, true, [], ◌∷◌, Some, refl, sym, ◌∙◌, subst, ⊎_elim, inl, inr, zero, suc, ◌<◌, true≢false}
use native.Mathlib.Decide.{ℕ_discrete}
use Rattle.ww_queue.specs.declared.kind.Kind.{Kind}
use Rattle.ww_model.specs.declared.event.Event.TheVariants.{Die, Unguard}
use Rattle.ww_model.specs.State.{put}
use Rattle.ww_invariant.specs.declared.cells.Sight.{Sight}
use Rattle.ww_laws.specs.Scene.{performs}
use Rattle.ww_refines.proofs.Pictures.{Picture, At}
use Rattle.ww_refines.proofs.Small.{small}
use Rattle.ww_refines.proofs.Doomed.{died_out, IsAboutToDie, dies, comes_out, sit_out, moment, pending, sleeper_is_scheduled, dying_is_scheduled, are_dead}
use Rattle.ww_seat.specs.Marks.{is_marked}
use Rattle.ww_seat.specs.declared.look.Arrival.TheVariants.{Came}
use Rattle.ww_seat.specs.declared.waits.Waits.TheVariants.{ToTheEnd}
use Rattle.ww_steps.specs.declared.turn.Turn.TheVariants.{Wants}
use Rattle.ww_steps.specs.declared.turn.Answer.TheVariants.{Deadlk}
use Rattle.ww_steps.specs.Situations.{Situation}
use Rattle.ww_steps.specs.Answers.{HasToBackOff}
use Rattle.ww_callers.specs.Deeds.{Does, go_on, steps, answers, Deed, halts}
use Rattle.ww_callers.proofs.Shown.{Desks, staged, Shown, answered, OwesNobody, steps_does, answers_does, nothing_due}
use Rattle.ww_callers.proofs.Backing.{once_told, backs_off}
use Rattle.ww_callers.proofs.Starting.{owe_nobody, is_of_world}
use Rattle.ww_callers.proofs.Sleeping.{wakes_none}
use Rattle.ww_callers.specs.Stages.{Stage}
use Rattle.ww_callers.specs.Drives.{IsDueBy, IsServed}
use Rattle.ww_callers.specs.Witness.{HasDeadlockDriven}

-- what the younger's desk knows once its seat, which knows this before, has died and is out of the guard
abbrev told_by : Desks → Sight → Situation
told_by q w = once_told (q.desk 1) 0 (died_out w).part.core

-- That desk is amid its call, and has to back off; and neither desk owes anybody a wake.
pub record IsAboutToTell (q : Desks) (w : Sight) : Type 0 where
  pub calling : q.calling 1 ≡ true
  pub turn : (q.desk 1).turn ≡ Wants 0 Came ToTheEnd
  pub backs_off : HasToBackOff (q.desk 1) 0 1 (told_by q w)
  pub alike : (w.part.core.debts ≡ (q.desk 1).view.debts) × (w.part.core.naps ≡ (q.desk 1).view.naps)
  pub condemned : w.part.core.condemned ≡ []
  pub cancelled : (q.desk 1).cancelled ≡ w.part.counts.cancelled
  pub unmarked : ((s : ℕ) → is_marked (q.desk 0).wakes s ≡ false) × ((s : ℕ) → is_marked (q.desk 1).wakes s ≡ false)
  pub unnamed : ((s : ℕ) → q.named 0 s ≡ false) × ((s : ℕ) → q.named 1 s ≡ false)

module _ {kind : Kind} {p : Picture} {a : At (small kind) p} {q : Desks} (g : Shown a q) (v w : Sight) (d : IsAboutToDie kind p v w)
    (h : IsAboutToTell q w) where
  abbrev pub desks : ℕ → Desks
  desks zero = q
  desks (suc zero) = q
  desks (suc (suc zero)) = q
  desks (suc (suc (suc i))) = answered q 1 (Deadlk 1) (told_by q w)

  abbrev pub stage : ℕ → Stage (small kind)
  stage i = staged (moment a v w d i) (desks i)

  abbrev pub deed : ℕ → Deed
  deed zero = steps 1 (Some (performs (Die 1 0)))
  deed (suc zero) = steps 1 (Some (performs (Unguard 1 0)))
  deed (suc (suc zero)) = answers 1 go_on (Deadlk 1)
  deed (suc (suc (suc i))) = halts

  pub goes_on : (i : ℕ) → Does (stage i) (stage (suc i)) (deed i)
  goes_on zero = steps_does a q (dies a v w d) h.calling (sym h.alike.1 ∙ d.rested)
  goes_on (suc zero) = steps_does (dies a v w d).at q (comes_out a v w d) h.calling (sym h.alike.1 ∙ d.rested)
  goes_on (suc (suc zero)) = answers_does (comes_out a v w d).at q 0 1 (died_out w) (sit_out a v w d).second h.calling go_on (Deadlk 1)
      (told_by q w) (record {
        done = backs_off (q.desk 1) 0 1 Came ToTheEnd (died_out w).part.core h.turn
            (wakes_none (q.desk 1) (told_by q w) refl h.condemned, h.backs_off) h.alike;
        outside = λ _. refl;
        sees = refl;
        cancelled = h.cancelled;
      })
  goes_on (suc (suc (suc i))) = refl

  owes : OwesNobody (small kind) q
  owes = owe_nobody q h.unmarked.0 h.unmarked.1 h.unnamed.0 h.unnamed.1

  owes_nobody : (i : ℕ) → OwesNobody (small kind) (desks i)
  unfolding put ℕ_discrete
  owes_nobody zero = owes
  owes_nobody (suc zero) = owes
  owes_nobody (suc (suc zero)) = owes
  owes_nobody (suc (suc (suc i))) =
      owe_nobody (answered q 1 (Deadlk 1) (told_by q w)) h.unmarked.0 h.unmarked.1 h.unnamed.0 h.unnamed.1

  none_due : (i t s : ℕ) → t < 2 → ¬ IsDueBy (stage i) t s
  none_due i = nothing_due (desks i) (owes_nobody i) (moment a v w d i) (pending a v w d i).unowed

  sleeper_is_served : IsServed stage deed 0
  sleeper_is_served = let k = sleeper_is_scheduled a v w d in record {
    woken = λ i t low due. absurd (none_due i t 0 low due);
    rises = λ i token sleeps. absurd (true≢false (sym token ∙ (pending a v w d i).no_token));
    settles = k.settled;
    looks = k.looks;
    leaves = k.leaves;
  }

  dying_is_served : IsServed stage deed 1
  dying_is_served = let k = dying_is_scheduled a v w d in record {
    woken = λ i t low due. absurd (none_due i t 1 low due);
    rises = λ i token sleeps. absurd (true≢false (sym sleeps ∙ (pending a v w d i).awake));
    settles = k.settled;
    looks = k.looks;
    leaves = k.leaves;
  }

  pub has_deadlock : HasDeadlockDriven kind
  has_deadlock = record {
    key = small kind;
    stage = stage;
    deed = deed;
    seats = 0 ∷ 1 ∷ [];
    of_kind = refl;
    world = is_of_world kind;
    endless = record { begins = g.driven; goes_on = goes_on };
    served = λ s. ⊎_elim (λ is. subst (IsServed stage deed) (sym is) sleeper_is_served)
        (⊎_elim (λ is. subst (IsServed stage deed) (sym is) dying_is_served) (λ none. absurd none));
    deadlocked = are_dead a v w d;
    told = (2, 1, 1, inr (inl refl), refl);
  }

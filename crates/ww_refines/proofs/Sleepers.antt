-- Endless runs of threads in which one sleeps: for ever, or without having to.
use Rattle.std.proofs.Common.{◌≡◌, ◌≢◌, ⊎_elim, inr, ℕ, zero, suc, ◌+◌, ◌≤◌, Bool, true, false, true≢false, [], Option, Some, None, refl, sym, ap, ◌∙◌, subst, arith}
use native.Mathlib.Decide.{ℕ_discrete}
use Rattle.ww_queue.specs.declared.kind.Kind.{Kind}
use Rattle.ww_model.specs.State.{State, put}
use Rattle.ww_model.proofs.Puts.{put_was}
use Rattle.ww_invariant.specs.declared.cells.Part.{Part}
use Rattle.ww_invariant.specs.Layout.{lock_at}
use Rattle.ww_laws.specs.Scene.{Step, wakes, rises}
use Rattle.ww_laws.specs.Sleepers.{IsDue}
use Rattle.ww_invariant.specs.Rule.{wakes_owed}
use Rattle.ww_refines.specs.Moment.{Moment, HasToWake, HasLeftToWait}
use Rattle.ww_refines.specs.Moves.{Follows}
use Rattle.ww_refines.specs.Endless.{IsEndlessThere, SleepsForEverThere, SleepsInVainThere, SleepersAreInEndlessRuns}
use Rattle.ww_refines.proofs.Standstill.{idles}
use Rattle.ww_refines.proofs.Pictures.{Picture, Beside, nobody, rung_by, waking, seated, part_is, wakes_then}
use Rattle.ww_refines.proofs.Small.{small, AreSeated, first_is, second_is, nothing_owed, p_rest, second_sleeps, first_exits, p_10, holder_2, holder_5, waiter_4, second}

-- ---- a thread that sleeps for ever

sleeps_on : (kind : Kind) → IsEndlessThere kind SleepsForEverThere
unfolding put ℕ_discrete
sleeps_on kind = let a = second_sleeps kind in let m = a.moment in
    let sits : AreSeated kind (p_rest kind) (holder_2 kind) (waiter_4 kind) =
    record { first = seated refl refl refl (omega arith); second = seated refl refl refl (omega arith) } in record {
      key = small kind;
      moment = λ _. m;
      move = λ _. None;
      seat = 1;
      of_kind = refl;
      low = omega arith;
      endless = record {
        begins = a.run;
        goes_on = λ i. idles m;
      };
      arrive = record {
        made = λ i s u has. absurd (nothing_owed a sits refl refl s u has);
        heard = λ i s low token. absurd (true≢false (sym token ∙ ap (λ (f : ℕ → Bool). f s) a.token));
      };
      holds = record {
        sleeps = λ i. ap (λ (f : ℕ → Bool). f 1) a.asleep;
        heeds = λ i. ap (λ (f : ℕ → Bool). f 1) a.heeding;
      };
    }

-- ---- a thread that sleeps without having to

module _ (kind : Kind) where
  abbrev given_up : Moment (small kind)
  given_up = (first_exits kind).moment

  sits : AreSeated kind (p_10 kind) (holder_5 kind) (waiter_4 kind)
  unfolding put ℕ_discrete lock_at
  sits = record { first = seated refl refl refl (omega arith); second = seated refl refl refl (omega arith) }

  abbrev p_11 : Picture
  p_11 = waking (p_10 kind) 0 1 (holder_5 kind).part

  -- the first wakes the second
  rings : Beside (first_exits kind) (Some (wakes 0 1)) (rung_by given_up 0 1) p_11
  unfolding put ℕ_discrete lock_at
  rings = wakes_then (first_exits kind) 1 0 1 (holder_5 kind) sits.first refl refl (omega arith)

  abbrev rung : Moment (small kind)
  rung = rings.at.moment

  abbrev up : Moment (small kind)
  up = record rung {
    risen = put rung.risen 1 (rung.risen 1 + 1);
    asleep = put rung.asleep 1 false;
    token = put rung.token 1 false;
  }

  -- the first owes the second a wake, and nobody anything else
  only_owed : (s u : ℕ) → HasToWake given_up s u → (s ≡ 0) × (u ≡ 1)
  only_owed zero zero has = let owed = ap (λ (q : Part). wakes_owed q 0) (first_is (first_exits kind) sits) in let few = has.owed in
      absurd (omega arith)
  only_owed zero (suc zero) has = (refl, refl)
  only_owed zero (suc (suc u)) has = let low = has.sleeper in absurd (omega arith)
  only_owed (suc zero) u has = let owed = ap (λ (q : Part). wakes_owed q u) (second_is (first_exits kind) sits) in let few = has.owed in
      absurd (omega arith)
  only_owed (suc (suc s)) u has = let low = has.waker in absurd (omega arith)

  none_owed : (s u : ℕ) → ¬ HasToWake rung s u
  unfolding put ℕ_discrete lock_at
  none_owed = nothing_owed rings.at {v = holder_5 kind} {w = waiter_4 kind} (record { first = sits.first; second = sits.second })
      refl refl

  no_token : (s : ℕ) → given_up.token s ≢ true
  no_token s token = true≢false (sym token ∙ ap (λ (f : ℕ → Bool). f s) (first_exits kind).token)

  only_token : (s : ℕ) → rung.token s ≡ true → s ≡ 1
  only_token s token = ⊎_elim (λ here. here.0) (λ else. absurd (true≢false (sym else.1)))
      (put_was nobody 1 true s (λ b. b ≡ true) (sym (ap (λ (f : ℕ → Bool). f s) rings.at.token) ∙ token))

  none_token : (s : ℕ) → up.token s ≢ true
  none_token s token = ⊎_elim (λ here. true≢false (sym here.1)) (λ else. else.0 (only_token s else.1))
      (put_was rung.token 1 false s (λ b. b ≡ true) token)

  abbrev waking_on : ℕ → Moment (small kind)
  waking_on zero = given_up
  waking_on (suc zero) = rung
  waking_on (suc (suc i)) = up

  abbrev waking_move : ℕ → Option Step
  waking_move zero = Some (wakes 0 1)
  waking_move (suc zero) = Some (rises 1)
  waking_move (suc (suc i)) = None

  sleeping : given_up.asleep 1 ≡ true
  unfolding put ℕ_discrete
  sleeping = ap (λ (f : ℕ → Bool). f 1) (first_exits kind).asleep

  sleeping_on : rung.asleep 1 ≡ true
  unfolding put ℕ_discrete
  sleeping_on = ap (λ (f : ℕ → Bool). f 1) rings.at.asleep

  rests : HasLeftToWait rung 1 true
  rests = record {
    seat = omega arith;
    is_asleep = sleeping_on;
    due = ap (λ (f : ℕ → ℕ). f 1 + 1) rings.at.risen
        ∙ ap (λ (q : Part). q.core.naps) (part_is rings.at 0 1 (waiter_4 kind) sits.second);
  }

  follows : (i : ℕ) → Follows (waking_on i) (waking_on (suc i)) (waking_move i)
  unfolding put ℕ_discrete lock_at
  follows zero = rings.follows
  follows (suc zero) = record {
    stays = record { core = refl; parts = λ u low. refl; heeds = refl };
    rests = (true, rests);
    risen = refl;
    asleep = refl;
    token = refl;
    rung = refl;
  }
  follows (suc (suc i)) = idles up

  made : (i s u : ℕ) → HasToWake (waking_on i) s u → (j : ℕ) × (i ≤ j) × (waking_move j ≡ Some (wakes s u))
  made zero s u has = let who = only_owed s u has in
      (0, omega arith, ap (λ x. Some (wakes x 1)) (sym who.0) ∙ ap (λ x. Some (wakes s x)) (sym who.1))
  made (suc zero) s u has = absurd (none_owed s u has)
  made (suc (suc i)) s u has = absurd (none_owed s u (record { waker = has.waker; sleeper = has.sleeper; other = has.other; owed = has.owed }))

  heard : (i s : ℕ) → (waking_on i).token s ≡ true → (j : ℕ) × (i ≤ j) × (waking_move j ≡ Some (rises s))
  heard zero s token = absurd (no_token s token)
  heard (suc zero) s token = (1, omega arith, ap (λ x. Some (rises x)) (sym (only_token s token)))
  heard (suc (suc i)) s token = absurd (none_token s token)

  due : IsDue (p_10 kind).core 1 0
  unfolding put ℕ_discrete
  due = inr (refl, (second, [], refl, refl))

  is_woken : IsEndlessThere kind SleepsInVainThere
  is_woken = record {
    key = small kind;
    moment = waking_on;
    move = waking_move;
    seat = 1;
    of_kind = refl;
    low = omega arith;
    endless = record { begins = (first_exits kind).run; goes_on = follows };
    arrive = record { made = made; heard = λ i s low token sleeps. heard i s token };
    holds = record {
      sleeps = sleeping;
      needs_not = λ waits. waits.not_due 0 (subst (λ (c : State). IsDue c 1 0) (sym (first_exits kind).is_core) due);
    };
  }

pub sleepers_are_in_endless_runs : SleepersAreInEndlessRuns
sleepers_are_in_endless_runs kind = (sleeps_on kind, is_woken kind)

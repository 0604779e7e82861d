-- What a thread does is a step of the scene, or none.
use Rattle.std.proofs.Common.{◌≡◌, ◌≢◌, ◌⊎◌, ⊎_elim, inl, inr, ℕ, zero, suc, ◌+◌, ◌-◌, ◌<◌, ◌≤◌, Bool, true, false, true≢false, List, [], ◌∷◌, Some, refl, sym, ap, ◌∙◌, subst, arith}
use mathlib.Core.Logic.{dite}
use native.Mathlib.Decide.{ℕ_discrete}
use Rattle.ww_queue.specs.Queue.{Has}
use Rattle.ww_model.specs.declared.event.Event.{Event}
use Rattle.ww_model.specs.declared.event.Event.TheVariants.{Unguard}
use Rattle.ww_model.specs.State.{State, put}
use Rattle.ww_model.specs.Event.{Possible, after, actor}
use Rattle.ww_model.proofs.Kept.{reached_is_lawful}
use Rattle.ww_model.proofs.Puts.{put_here, put_else, put_cases}
use Rattle.ww_view.specs.declared.view.View.{View}
use Rattle.ww_view.specs.View.{Knows}
use Rattle.ww_view.specs.Made.{view_after, naps_after, found_none, has_read}
use Rattle.ww_invariant.specs.declared.cells.Part.{Part}
use Rattle.ww_invariant.specs.declared.cells.Start.{Start}
use Rattle.ww_invariant.specs.Rule.{times, wakes_owed}
use Rattle.ww_laws.specs.Scene.{Phase, acting, going_to_sleep, asleep, Scene, performs, leaves_to_sleep, finds_no_sign, finds_no_cancel, wakes, falls_asleep, rises, MayLeaveToSleep, next, woken_by, uncancelled_after, put_debt, IsReached}
use Rattle.ww_laws.specs.InCall.{IsInCall}
use Rattle.ww_laws.proofs.Woken.{owing_was, debt_was, debt_here}
use Rattle.ww_laws.proofs.Keeping.{guards_are_held_awake}
use Rattle.ww_laws.proofs.Calls.{leaving_is_a_step}
use Rattle.ww_refines.specs.Moment.{Moment, core, view, HasToWake, Acts}
use Rattle.ww_refines.specs.Moves.{cancelled_after, OthersStay, MakesEvent, Performs, LeavesToSleep, FindsNoSign, FindsNoCancel, Notes, Reads, StaysThere, Rings, Parks, Rises, StandsStill}
use Rattle.ww_refines.specs.Runs.{IsPhase, IsSceneOf, GoesAlong, MovesAreSteps, OthersAreNone}
use Rattle.std.proofs.lemmas.Bool.{cases_Bool}
use Rattle.ww_refines.proofs.Owed.{owed_grows, newly_owed, woken_other, condemned_owed, not_fresh, still_uncancelled, others_uncancelled}

-- ---- phases

phase_as : (p : Phase) {a b : Bool} {j k m n : ℕ} → b ≡ a → k ≡ j → n ≡ m → IsPhase p a j m → IsPhase p b k n
phase_as acting ab jk mn h = (ab ∙ h.0, jk ∙ h.1 ∙ sym mn)
phase_as going_to_sleep ab jk mn h = (ab ∙ h.0, (let z = h.1 in omega arith))
phase_as asleep ab jk mn h = (ab ∙ h.0, (let z = h.1 in omega arith))

-- who has risen each time acts
pub is_acting : (p : Phase) (a : Bool) (k n : ℕ) → k ≡ n → IsPhase p a k n → p ≡ acting
is_acting acting a k n even h = refl
is_acting going_to_sleep a k n even h = absurd (let z = h.1 in omega arith)
is_acting asleep a k n even h = absurd (let z = h.1 in omega arith)

is_going : (p : Phase) (k n : ℕ) → k + 1 ≡ n → IsPhase p false k n → p ≡ going_to_sleep
is_going acting k n due h = absurd (let z = h.1 in omega arith)
is_going going_to_sleep k n due h = refl
is_going asleep k n due h = absurd (true≢false (sym h.0))

not_acting : (p : Phase) (a : Bool) (k n : ℕ) → k + 1 ≡ n → IsPhase p a k n → p ≢ acting
not_acting acting a k n due h is = let z = h.1 in omega arith
not_acting going_to_sleep a k n due h is = cc
not_acting asleep a k n due h is = cc

pub not_asleep : (p : Phase) (k n : ℕ) → IsPhase p false k n → p ≢ asleep
not_asleep acting k n h is = cc
not_asleep going_to_sleep k n h is = cc
not_asleep asleep k n h is = true≢false (sym h.0)

pub is_asleep : (p : Phase) (k n : ℕ) → IsPhase p true k n → p ≡ asleep
is_asleep acting k n h = absurd (true≢false h.0)
is_asleep going_to_sleep k n h = absurd (true≢false h.0)
is_asleep asleep k n h = refl

pub wakes_not : (p : Phase) (a : Bool) (k n : ℕ) → p ≢ asleep → IsPhase p a k n → a ≡ false
wakes_not acting a k n other h = h.0
wakes_not going_to_sleep a k n other h = h.0
wakes_not asleep a k n other h = absurd (other refl)

far_off : {n : ℕ} (t s : ℕ) → n ≤ t → s < n → t ≢ s
far_off t s far near is = omega arith

-- ---- what is known of a seat

module _ {key : Start} (m : Moment key) where
  -- a seat knows the locks by its part
  pub knows_there : (t : ℕ) → t < key.seats → Knows (core m) (view m t)
  knows_there t seat = (m.told t seat).knows

  pub who_there : (t : ℕ) → t < key.seats → (view m t).who ≡ t
  who_there t seat = (m.told t seat).who

-- ---- a step at the table

module _ {key : Start} (m m' : Moment key) (t : ℕ) (s : OthersStay m m' t) where
  -- what holds of that seat then, and of the others before, holds of all
  of_each : (P : ℕ → Part → Type 0) → P t (m'.part t) → ((u : ℕ) → u < key.seats → u ≢ t → P u (m.part u)) →
      (u : ℕ) → u < key.seats → P u (m'.part u)
  of_each P here others u seat = dite (ℕ_discrete u t)
      (λ is. subst (λ x. P x (m'.part x)) (sym is) here)
      (λ isnt. subst (P u) (sym (s.others u seat isnt)) (others u seat isnt))

-- ---- an event

module _ {key : Start} (m m' : Moment key) (e : Event) (makes : MakesEvent m m' e) where
  seat : actor e < key.seats
  seat = makes.there.acts.seat

  knows : Knows (core m) (view m (actor e))
  knows = knows_there m (actor e) seat

  own : actor e ≡ (view m (actor e)).who
  own = sym (who_there m (actor e) seat)

  -- what it owes then, by its view before
  owed_then : (u : ℕ) → wakes_owed (m'.part (actor e)) u ≡
      times u (cancelled_after e (m.part (actor e)).counts.cancelled) + times u (view_after (core m) e (view m
      (actor e))).debts
  owed_then u = let x = ap (times u) makes.cancelled in let y = ap (λ (v : View). times u v.debts) makes.view in
      omega arith

  grows : (s u : ℕ) → s < key.seats → wakes_owed (m.part s) u ≤ wakes_owed (m'.part s) u
  grows s u there = of_each m m' (actor e) makes.there.stay (λ x p. wakes_owed (m.part x) u ≤ wakes_owed p u)
      (let z = owed_grows (core m) e (view m (actor e)) (m.part (actor e)).counts.cancelled u in
      let y = owed_then u in omega arith)
      (λ _ _ _. omega arith) s there

  rung_is : (s u : ℕ) → m'.rung s u ≡ m.rung s u
  rung_is s u = ap (λ (f : ℕ → ℕ → ℕ). f s u) makes.there.stay.rung

  still : (s u : ℕ) → HasToWake m s u → HasToWake m' s u
  still s u h = record {
    waker = h.waker;
    sleeper = h.sleeper;
    other = h.other;
    owed = let a = h.owed in let b = grows s u h.waker in let c = rung_is s u in omega arith;
  }

  module _ (w : Scene) (shown : IsSceneOf m w) where
    still_even : (s u : ℕ) → s < key.seats → m'.rung s u ≤ wakes_owed (m'.part s) u
    still_even s u there = let a = shown.even s u there in let b = grows s u there in let c = rung_is s u in omega arith

    had : (u : ℕ) → (view m (actor e)).inside ≢ 0 → Has (view m (actor e)).condemned u → u ≢ (view m (actor e)).who →
        m.rung (actor e) u < wakes_owed (m.part (actor e)) u
    had u inside there other = shown.condemned (actor e) u seat inside there (λ is. other (is ∙ own))

    -- whom the event makes the seat wake
    newly : (u : ℕ) → woken_by (core m) e ≡ Some u → u < key.seats → HasToWake m' (actor e) u
    newly u is there = record {
      waker = seat;
      sleeper = there;
      other = woken_other (core m) e u (reached_is_lawful (core m) m.reached) makes.can is;
      owed = let a = newly_owed (core m) (view m (actor e)) knows (m.part (actor e)).counts.cancelled u (m.rung (actor e) u)
          (shown.even (actor e) u seat) e makes.can own (had u) is in
          let b = owed_then u in let c = rung_is (actor e) u in omega arith;
    }

    still_condemned : (s u : ℕ) → s < key.seats → (view m' s).inside ≢ 0 → Has (view m' s).condemned u → u ≢ s →
        m'.rung s u < wakes_owed (m'.part s) u
    still_condemned s u there = of_each m m' (actor e) makes.there.stay
        (λ x p. p.core.inside ≢ 0 → Has p.core.condemned u → u ≢ x → m'.rung x u < wakes_owed p u)
        (subst (λ (v : View). v.inside ≢ 0 → Has v.condemned u → u ≢ actor e →
        m'.rung (actor e) u < wakes_owed (m'.part (actor e)) u)
        (sym makes.view)
        (λ inside condemned other. let isnt : u ≢ (view m (actor e)).who = (λ is. other (is ∙ sym own)) in
        let a = condemned_owed (core m) (view m (actor e)) knows (m.part (actor e)).counts.cancelled u (m.rung (actor e) u)
        (shown.even (actor e) u seat) e isnt (λ i c. had u i c isnt) inside condemned in
        let b = owed_then u in let c = rung_is (actor e) u in omega arith))
        (λ x low isnt inside condemned other. let a = shown.condemned x u low inside condemned other in
        let c = rung_is x u in omega arith) s there

    still_fresh : (u : ℕ) → u < key.seats → (view m' u).inside ≢ 0 → (view m' u).fresh ≡ true →
        put w.found_no_sign (actor e) false u ≡ true
    still_fresh = of_each m m' (actor e) makes.there.stay
        (λ x p. p.core.inside ≢ 0 → p.core.fresh ≡ true → put w.found_no_sign (actor e) false x ≡ true)
        (subst (λ (v : View). v.inside ≢ 0 → v.fresh ≡ true → put w.found_no_sign (actor e) false (actor e) ≡ true)
        (sym makes.view)
        (λ inside fresh. absurd (not_fresh (core m) (view m (actor e)) knows e makes.can own inside fresh)))
        (λ x low isnt inside fresh. put_else w.found_no_sign (actor e) false x isnt ∙ shown.fresh x low inside fresh)

    still_unsettled : (u : ℕ) → u < key.seats → (view m' u).inside ≢ 0 → (view m' u).uncancelled ≡ true →
        uncancelled_after w.found_no_cancel e u ≡ true
    still_unsettled = of_each m m' (actor e) makes.there.stay
        (λ x p. p.core.inside ≢ 0 → p.core.uncancelled ≡ true → uncancelled_after w.found_no_cancel e x ≡ true)
        (subst (λ (v : View). v.inside ≢ 0 → v.uncancelled ≡ true → uncancelled_after w.found_no_cancel e
        (actor e) ≡ true)
        (sym makes.view)
        (still_uncancelled (core m) (view m (actor e)) knows w.found_no_cancel e makes.can own
        (shown.uncancelled (actor e) seat)))
        (λ x low isnt inside none. others_uncancelled w.found_no_cancel e x isnt ∙ shown.uncancelled x low inside none)

    acts_there : w.phase (actor e) ≡ acting
    acts_there = is_acting (w.phase (actor e)) (m.asleep (actor e)) (m.risen (actor e)) (view m (actor e)).naps
        makes.there.acts.risen (shown.phase (actor e) seat)

    possible : Possible w.core e
    possible = subst (λ c. Possible c e) (sym shown.core) makes.can

    core_then : after w.core e ≡ m'.core
    core_then = ap (λ c. after c e) shown.core ∙ sym makes.core

performs_on : {key : Start} (m m' : Moment key) (w : Scene) (e : Event) → IsSceneOf m w → Performs m m' e →
    GoesAlong m' w (performs e)
performs_on m m' w e shown p = let a = p.makes in record {
  may = record { acts = acts_there m m' e a w shown; possible = possible m m' e a w shown };
  shown = record {
    core = core_then m m' e a w shown;
    token = shown.token ∙ sym a.there.stay.token;
    heeds = shown.heeds ∙ sym p.heeds;
    phase = of_each m m' (actor e) a.there.stay (λ t p. IsPhase (w.phase t) (m'.asleep t) (m'.risen t) p.core.naps)
        (phase_as (w.phase (actor e)) (ap (λ (f : ℕ → Bool). f (actor e)) a.there.stay.asleep)
        (ap (λ (f : ℕ → ℕ). f (actor e)) a.there.stay.risen) p.stays_up (shown.phase (actor e) (seat m m' e a)))
        (λ t low isnt. phase_as (w.phase t) (ap (λ (f : ℕ → Bool). f t) a.there.stay.asleep)
        (ap (λ (f : ℕ → ℕ). f t) a.there.stay.risen) refl (shown.phase t low));
    strangers = shown.strangers;
    owes = λ s u owed. ⊎_elim
        (λ new. let is = subst (λ c. woken_by c e ≡ Some u) shown.core new.1 in
        subst (λ x. HasToWake m' x u) (sym new.0) (newly m m' e a w shown u is (p.woken u is)))
        (λ old. still m m' e a s u (shown.owes s u old))
        (owing_was w.owes (actor e) (woken_by w.core e) s u owed);
    fresh = still_fresh m m' e a w shown;
    uncancelled = still_unsettled m m' e a w shown;
    even = still_even m m' e a w shown;
    condemned = still_condemned m m' e a w shown;
  };
}

-- ---- out of a guard in order to sleep

-- the numbers below n
below : ℕ → List ℕ
below zero = []
below (suc n) = n ∷ below n

has_below : (n u : ℕ) → u < n → Has (below n) u
unfolding below
has_below zero u low = absurd (omega arith)
has_below (suc n) u low = dite (ℕ_discrete u n) (λ is. inl is) (λ isnt. inr (has_below n u (omega arith)))

-- the seat that acts is in its call
in_call : {key : Start} (m : Moment key) (w : Scene) (t : ℕ) → IsSceneOf m w → Acts m t →
    IsInCall w (view m t) (below key.seats)
in_call {key = key} m w t shown acts = let who = who_there m t acts.seat in record {
  knows = subst (λ c. Knows c (view m t)) (sym shown.core) (knows_there m t acts.seat);
  acts = ap w.phase who ∙ is_acting (w.phase t) (m.asleep t) (m.risen t) (view m t).naps acts.risen
      (shown.phase t acts.seat);
  fresh = λ inside fresh. ap w.found_no_sign who ∙ shown.fresh t acts.seat inside fresh;
  uncancelled = λ inside none. ap w.found_no_cancel who ∙ shown.uncancelled t acts.seat inside none;
  debts = λ u owed. has_below key.seats u (shown.owes (view m t).who u owed).sleeper;
}

module _ {key : Start} (m m' : Moment key) (w : Scene) where
  leaves_on : (s n : ℕ) (heeds : Bool) → IsReached w → IsSceneOf m w → LeavesToSleep m m' s n heeds →
      GoesAlong m' w (leaves_to_sleep s n heeds)
  leaves_on s n heeds reached shown p = let a = p.makes in let e = Unguard s n in
      let who = who_there m s a.there.acts.seat in
      let naps : (view m' s).naps ≡ (view m s).naps + 1 =
      (ap (λ (v : View). v.naps) a.view ∙ ap (λ (k : ℕ). naps_after k (view m s).naps) p.waits) in record {
        may = subst (λ x. MayLeaveToSleep w x n heeds) who
            (leaving_is_a_step w (view m s) n heeds (below key.seats) reached
            (in_call m w s shown a.there.acts) p.may p.waits p.uncancelled);
        shown = record {
          core = core_then m m' e a w shown;
          token = shown.token ∙ sym a.there.stay.token;
          heeds = ap (λ (f : ℕ → Bool). put f s heeds) shown.heeds ∙ sym p.noted;
          phase = λ t low. put_cases w.phase s going_to_sleep t (λ q. IsPhase q (m'.asleep t) (m'.risen t)
              (view m' t).naps)
              (λ is. subst (λ x. IsPhase going_to_sleep (m'.asleep x) (m'.risen x) (view m' x).naps) (sym is) (
                ap (λ (f : ℕ → Bool). f s) a.there.stay.asleep ∙ a.there.acts.awake,
                (let x = ap (λ (f : ℕ → ℕ). f s) a.there.stay.risen in let y = a.there.acts.risen in omega arith),
              ))
              (λ isnt. phase_as (w.phase t) (ap (λ (f : ℕ → Bool). f t) a.there.stay.asleep)
              (ap (λ (f : ℕ → ℕ). f t) a.there.stay.risen) (ap (λ (p : Part). p.core.naps) (a.there.stay.others t low isnt))
              (shown.phase t low));
          strangers = λ t far. put_else w.phase s going_to_sleep t (far_off t s far a.there.acts.seat)
              ∙ shown.strangers t far;
          owes = λ x u owed. still m m' e a x u (shown.owes x u owed);
          fresh = λ t low. of_each m m' s a.there.stay
              (λ x p. p.core.inside ≢ 0 → p.core.fresh ≡ true → w.found_no_sign x ≡ true)
              (subst (λ (v : View). v.inside ≢ 0 → v.fresh ≡ true → w.found_no_sign s ≡ true) (sym a.view)
              (λ inside fresh. absurd (inside refl)))
              (λ x there isnt. shown.fresh x there) t low;
          uncancelled = still_unsettled m m' e a w shown;
          even = still_even m m' e a w shown;
          condemned = still_condemned m m' e a w shown;
        };
      }

-- ---- a step at the table that is no event

module _ {key : Start} (m m' : Moment key) (w : Scene) (t : ℕ) (shown : IsSceneOf m w)
    (sits : t < key.seats) (there : OthersStay m m' t) (same_core : m'.core ≡ m.core)
    (cancelled : (m'.part t).counts.cancelled ≡ (m.part t).counts.cancelled) (same_heeds : m'.heeds ≡ m.heeds)
    (inside : (view m' t).inside ≡ (view m t).inside) (condemned : (view m' t).condemned ≡ (view m t).condemned)
    (debts : (view m' t).debts ≡ (view m t).debts) (naps : (view m' t).naps ≡ (view m t).naps)
    (w' : Scene) (core : w'.core ≡ w.core) (token : w'.token ≡ w.token) (heeds : w'.heeds ≡ w.heeds)
    (phase : w'.phase ≡ w.phase)
    (owes : w'.owes ≡ w.owes)
    (fresh : (view m' t).inside ≢ 0 → (view m' t).fresh ≡ true → w'.found_no_sign t ≡ true)
    (uncancelled : (view m' t).inside ≢ 0 → (view m' t).uncancelled ≡ true → w'.found_no_cancel t ≡ true)
    (others_fresh : (u : ℕ) → u ≢ t → w.found_no_sign u ≡ true → w'.found_no_sign u ≡ true)
    (others_uncancelled : (u : ℕ) → u ≢ t → w.found_no_cancel u ≡ true → w'.found_no_cancel u ≡ true) where
  owed_still : (s u : ℕ) → s < key.seats → wakes_owed (m'.part s) u ≡ wakes_owed (m.part s) u
  owed_still s u there_is = of_each m m' t there (λ x p. wakes_owed p u ≡ wakes_owed (m.part x) u)
      (let x = ap (times u) cancelled in let y = ap (times u) debts in omega arith) (λ _ _ _. refl) s there_is

  given_still : (s u : ℕ) → m'.rung s u ≡ m.rung s u
  given_still s u = ap (λ (f : ℕ → ℕ → ℕ). f s u) there.rung

  looked : IsSceneOf m' w'
  looked = record {
    core = core ∙ shown.core ∙ sym same_core;
    token = token ∙ shown.token ∙ sym there.token;
    heeds = heeds ∙ shown.heeds ∙ sym same_heeds;
    phase = of_each m m' t there (λ x p. IsPhase (w'.phase x) (m'.asleep x) (m'.risen x) p.core.naps)
        (subst (λ (f : ℕ → Phase). IsPhase (f t) (m'.asleep t) (m'.risen t) (view m' t).naps) (sym phase)
        (phase_as (w.phase t) (ap (λ (f : ℕ → Bool). f t) there.asleep)
        (ap (λ (f : ℕ → ℕ). f t) there.risen) naps (shown.phase t sits)))
        (λ x low isnt. subst (λ (f : ℕ → Phase). IsPhase (f x) (m'.asleep x) (m'.risen x) (view m x).naps) (sym phase)
        (phase_as (w.phase x) (ap (λ (f : ℕ → Bool). f x) there.asleep)
        (ap (λ (f : ℕ → ℕ). f x) there.risen) refl (shown.phase x low)));
    strangers = λ x far. ap (λ (f : ℕ → Phase). f x) phase ∙ shown.strangers x far;
    owes = λ s u owed. let h = shown.owes s u (subst (λ (f : ℕ → ℕ → Bool). f s u ≡ true) owes owed) in record {
      waker = h.waker;
      sleeper = h.sleeper;
      other = h.other;
      owed = let a = h.owed in let b = owed_still s u h.waker in let c = given_still s u in omega arith;
    };
    fresh = of_each m m' t there (λ x p. p.core.inside ≢ 0 → p.core.fresh ≡ true → w'.found_no_sign x ≡ true) fresh
        (λ x low isnt i f. others_fresh x isnt (shown.fresh x low i f));
    uncancelled = of_each m m' t there (λ x p. p.core.inside ≢ 0 → p.core.uncancelled ≡ true →
        w'.found_no_cancel x ≡ true)
        uncancelled (λ x low isnt i f. others_uncancelled x isnt (shown.uncancelled x low i f));
    even = λ s u low. let a = shown.even s u low in let b = owed_still s u low in let c = given_still s u in
        omega arith;
    condemned = λ s u low. of_each m m' t there
        (λ x p. p.core.inside ≢ 0 → Has p.core.condemned u → u ≢ x → m'.rung x u < wakes_owed p u)
        (λ i h other. let a = shown.condemned t u sits (λ out. i (inside
        ∙ out)) (subst (λ us. Has us u) condemned h) other in
        let b = owed_still t u sits in let c = given_still t u in omega arith)
        (λ x there isnt i h other. let a = shown.condemned x u there i h other in let c = given_still x u in
        omega arith) s low;
  }

-- what a look at the own sign leaves
of_sign_look : {A : Type 0} (f : View → A) (v v' : View) → f (found_none v) ≡ f v → f (has_read v 0) ≡ f v →
    (v' ≡ found_none v) ⊎ (v' ≡ has_read v 0) → f v' ≡ f v
of_sign_look f v v' a b (inl is) = ap f is ∙ a
of_sign_look f v v' a b (inr is) = ap f is ∙ b

finds_no_sign_on : {key : Start} (m m' : Moment key) (w : Scene) (s : ℕ) → IsSceneOf m w → FindsNoSign m m' s →
    GoesAlong m' w (finds_no_sign s)
finds_no_sign_on m m' w s shown p = let v = view m s in let v' = view m' s in let acts = p.looks.there.acts in
    let inside = of_sign_look (λ (v : View). v.inside) v v' refl refl p.view in record {
      may = (
        is_acting (w.phase s) (m.asleep s) (m.risen s) v.naps acts.risen (shown.phase s acts.seat),
        ap (λ (c : State). c.sign s) shown.core ∙ p.none,
      );
      shown = looked m m' w s shown acts.seat p.looks.there.stay p.looks.core p.looks.cancelled p.looks.heeds inside
          (of_sign_look (λ (v : View). v.condemned) v v' refl refl p.view)
          (of_sign_look (λ (v : View). v.debts) v v' refl refl p.view)
          (of_sign_look (λ (v : View). v.naps) v v' refl refl p.view)
          (next w (finds_no_sign s)) refl refl refl refl refl
          (λ _ _. put_here w.found_no_sign s true)
          (λ i none. shown.uncancelled s acts.seat (λ out. i (inside ∙ out))
          (sym (of_sign_look (λ (v : View). v.uncancelled) v v' refl refl p.view) ∙ none))
          (λ u isnt had. put_else w.found_no_sign s true u isnt ∙ had) (λ u isnt had. had);
    }

finds_no_cancel_on : {key : Start} (m m' : Moment key) (w : Scene) (s : ℕ) → IsSceneOf m w → FindsNoCancel m m' s →
    GoesAlong m' w (finds_no_cancel s)
finds_no_cancel_on m m' w s shown p = let v = view m s in let acts = p.looks.there.acts in record {
  may = (
    is_acting (w.phase s) (m.asleep s) (m.risen s) v.naps acts.risen (shown.phase s acts.seat),
    ap (λ (c : State). c.cancel s) shown.core ∙ p.none,
  );
  shown = looked m m' w s shown acts.seat p.looks.there.stay p.looks.core p.looks.cancelled p.looks.heeds (ap (λ (v : View). v.inside) p.view) (ap (λ (v : View). v.condemned) p.view)
      (ap (λ (v : View). v.debts) p.view) (ap (λ (v : View). v.naps) p.view)
      (next w (finds_no_cancel s)) refl refl refl refl refl
      (λ _ fresh. absurd (true≢false (sym fresh ∙ ap (λ (v : View). v.fresh) p.view)))
      (λ _ _. put_here w.found_no_cancel s true) (λ u isnt had. had)
      (λ u isnt had. put_else w.found_no_cancel s true u isnt ∙ had);
}

notes_on : {key : Start} (m m' : Moment key) (w : Scene) (t : ℕ) → IsSceneOf m w → Notes m m' t → IsSceneOf m' w
notes_on m m' w t shown p = let seat = p.looks.there.acts.seat in let n = p.view in
    looked m m' w t shown seat p.looks.there.stay p.looks.core p.looks.cancelled p.looks.heeds n.inside n.condemned n.debts n.naps w refl refl refl refl refl
    (λ i fresh. shown.fresh t seat (λ out. i (n.inside ∙ out)) (n.fresh fresh))
    (λ i none. shown.uncancelled t seat (λ out. i (n.inside ∙ out)) (n.uncancelled none))
    (λ u isnt had. had) (λ u isnt had. had)

reads_on : {key : Start} (m m' : Moment key) (w : Scene) (t : ℕ) → IsSceneOf m w → Reads m m' t → IsSceneOf m' w
reads_on m m' w t shown p = let n = p.view in let out = n.inside ∙ p.outside in
    looked m m' w t shown p.rests.seat p.stay p.core p.cancelled p.heeds n.inside n.condemned n.debts n.naps w refl refl refl refl refl
    (λ inside _. absurd (inside out)) (λ inside _. absurd (inside out)) (λ u isnt had. had) (λ u isnt had. had)

-- ---- beside the table

module _ {key : Start} (m m' : Moment key) (w : Scene) (shown : IsSceneOf m w) (stays : StaysThere m m') where
  part_is : (t : ℕ) → t < key.seats → m'.part t ≡ m.part t
  part_is t low = stays.parts t low

  owed_is : (s u : ℕ) → s < key.seats → wakes_owed (m'.part s) u ≡ wakes_owed (m.part s) u
  owed_is s u low = ap (λ (p : Part). wakes_owed p u) (part_is s low)

  fresh_is : (t : ℕ) → t < key.seats → (view m' t).inside ≢ 0 → (view m' t).fresh ≡ true → w.found_no_sign t ≡ true
  fresh_is t low = subst (λ (p : Part). p.core.inside ≢ 0 → p.core.fresh ≡ true →
      w.found_no_sign t ≡ true) (sym (part_is t low))
      (shown.fresh t low)

  none_is : (t : ℕ) → t < key.seats → (view m' t).inside ≢ 0 → (view m' t).uncancelled ≡ true →
      w.found_no_cancel t ≡ true
  none_is t low = subst (λ (p : Part). p.core.inside ≢ 0 → p.core.uncancelled ≡ true → w.found_no_cancel t ≡ true)
      (sym (part_is t low)) (shown.uncancelled t low)

  naps_are : (t : ℕ) → t < key.seats → (view m' t).naps ≡ (view m t).naps
  naps_are t low = ap (λ (p : Part). p.core.naps) (part_is t low)

  inside_is : (t : ℕ) → t < key.seats → (view m' t).inside ≡ (view m t).inside
  inside_is t low = ap (λ (p : Part). p.core.inside) (part_is t low)

  condemned_is : (t : ℕ) → t < key.seats → (view m' t).condemned ≡ (view m t).condemned
  condemned_is t low = ap (λ (p : Part). p.core.condemned) (part_is t low)

  module _ (rung : m'.rung ≡ m.rung) where
    given_is : (s u : ℕ) → m'.rung s u ≡ m.rung s u
    given_is s u = ap (λ (f : ℕ → ℕ → ℕ). f s u) rung

    owes_is : (s u : ℕ) → HasToWake m s u → HasToWake m' s u
    owes_is s u h = record {
      waker = h.waker;
      sleeper = h.sleeper;
      other = h.other;
      owed = let a = h.owed in let b = owed_is s u h.waker in let c = given_is s u in omega arith;
    }

    even_is : (s u : ℕ) → s < key.seats → m'.rung s u ≤ wakes_owed (m'.part s) u
    even_is s u low = let a = shown.even s u low in let b = owed_is s u low in let c = given_is s u in omega arith

    condemned_are : (s u : ℕ) → s < key.seats → (view m' s).inside ≢ 0 → Has (view m' s).condemned u → u ≢ s →
        m'.rung s u < wakes_owed (m'.part s) u
    condemned_are s u low i h other =
        let a = shown.condemned s u low (λ out. i (inside_is s low ∙ out)) (subst (λ us. Has us u)
        (condemned_is s low) h) other in
        let b = owed_is s u low in let c = given_is s u in omega arith

parks_on : {key : Start} (m m' : Moment key) (w : Scene) (s : ℕ) → IsSceneOf m w → Parks m m' s →
    GoesAlong m' w (falls_asleep s)
parks_on m m' w s shown p = let r = p.ready in record {
  may = record {
    ready = is_going (w.phase s) (m.risen s) (view m s).naps r.due
        (subst (λ b. IsPhase (w.phase s) b (m.risen s) (view m s).naps) r.is_asleep (shown.phase s r.seat));
    paid = λ u. ⊎_elim (λ is. absurd (p.paid u (shown.owes s u is)))
        (λ isnt. isnt) (cases_Bool (w.owes s u));
  };
  shown = record {
    core = shown.core ∙ sym p.stays.core;
    token = shown.token ∙ sym p.token;
    heeds = shown.heeds ∙ sym p.stays.heeds;
    phase = λ t low. put_cases w.phase s asleep t (λ q. IsPhase q (m'.asleep t) (m'.risen t) (view m' t).naps)
        (λ is. (
          ap (m'.asleep) is ∙ ap (λ (f : ℕ → Bool). f s) p.asleep ∙ put_here m.asleep s true,
          (let a = r.due in let b = ap (λ (f : ℕ → ℕ). f t) p.risen in let c = naps_are m m' w shown p.stays t low in
              let d = ap m.risen is in let e = ap (λ x. (view m x).naps) is in omega arith),
        ))
        (λ isnt. phase_as (w.phase t) (ap (λ (f : ℕ → Bool). f t) p.asleep
        ∙ put_else m.asleep s true t isnt)
        (ap (λ (f : ℕ → ℕ). f t) p.risen) (naps_are m m' w shown p.stays t low) (shown.phase t low));
    strangers = λ t far. put_else w.phase s asleep t (far_off t s far r.seat) ∙ shown.strangers t far;
    owes = λ x u owed. owes_is m m' w shown p.stays p.rung x u (shown.owes x u owed);
    fresh = fresh_is m m' w shown p.stays;
    uncancelled = none_is m m' w shown p.stays;
    even = even_is m m' w shown p.stays p.rung;
    condemned = condemned_are m m' w shown p.stays p.rung;
  };
}

-- ---- nothing

stands_on : {key : Start} (m m' : Moment key) (w : Scene) → IsSceneOf m w → StandsStill m m' → IsSceneOf m' w
stands_on m m' w shown p = record {
  core = shown.core ∙ sym p.stays.core;
  token = shown.token ∙ sym p.token;
  heeds = shown.heeds ∙ sym p.stays.heeds;
  phase = λ t low. phase_as (w.phase t) (ap (λ (f : ℕ → Bool). f t) p.asleep)
      (ap (λ (f : ℕ → ℕ). f t) p.risen) (naps_are m m' w shown p.stays t low) (shown.phase t low);
  strangers = shown.strangers;
  owes = λ x u owed. owes_is m m' w shown p.stays p.rung x u (shown.owes x u owed);
  fresh = fresh_is m m' w shown p.stays;
  uncancelled = none_is m m' w shown p.stays;
  even = even_is m m' w shown p.stays p.rung;
  condemned = condemned_are m m' w shown p.stays p.rung;
}

pub others_are_none : OthersAreNone
others_are_none key m m' w shown follows =
    ⊎_elim (λ still. stands_on m m' w shown still) (λ some. ⊎_elim (λ noted. notes_on m m' w some.0 shown noted) (λ reads. reads_on m m' w some.0 shown reads) some.1) follows

-- ---- a rise

-- a seat that is inside a guard is so in the scene
module _ {key : Start} (m : Moment key) (w : Scene) (t : ℕ) (shown : IsSceneOf m w) (seat : t < key.seats)
    (inside : (view m t).inside ≢ 0) where
  pub guard_there : (n : ℕ) × (w.core.guard n ≡ suc t)
  guard_there = let n : ℕ = (view m t).inside - 1 in let is : (view m t).inside ≡ suc n = omega arith in (
    n,
    ap (λ (c : State). c.guard n) shown.core ∙ ((knows_there m t seat).guard.guards n is).1
        ∙ ap suc (who_there m t seat),
  )

  pub inside_acts : IsReached w → w.phase t ≡ acting
  inside_acts reached = guards_are_held_awake w reached t guard_there.0 guard_there.1

rises_on : {key : Start} (m m' : Moment key) (w : Scene) (s : ℕ) → IsReached w → IsSceneOf m w → Rises m m' s →
    GoesAlong m' w (rises s)
rises_on {key = key} m m' w s reached shown p = let r = p.rests.1 in
    let rests = not_acting (w.phase s) (m.asleep s) (m.risen s) (view m s).naps r.due (shown.phase s r.seat) in
    let out : (t : ℕ) → t < key.seats → (view m' t).inside ≢ 0 → t ≢ s =
    (λ t low i is. rests (inside_acts m w s shown r.seat
    (λ none. i (inside_is m m' w shown p.stays t low ∙ ap (λ x. (view m x).inside) is ∙ none)) reached)) in record {
      may = rests;
      shown = record {
        core = shown.core ∙ sym p.stays.core;
        token = ap (λ (f : ℕ → Bool). put f s false) shown.token ∙ sym p.token;
        heeds = shown.heeds ∙ sym p.stays.heeds;
        phase = λ t low. put_cases w.phase s acting t (λ q. IsPhase q (m'.asleep t) (m'.risen t) (view m' t).naps)
            (λ is. (
              ap (m'.asleep) is ∙ ap (λ (f : ℕ → Bool). f s) p.asleep ∙ put_here m.asleep s false,
              (let a = r.due in let b = ap (λ (f : ℕ → ℕ). f s) p.risen in let z = put_here m.risen s (m.risen s + 1) in
                  let c = naps_are m m' w shown p.stays t low in
                  let d = ap m'.risen is in let e = ap (λ x. (view m x).naps) is in omega arith),
            ))
            (λ isnt. phase_as (w.phase t) (ap (λ (f : ℕ → Bool). f t) p.asleep
            ∙ put_else m.asleep s false t isnt)
            (ap (λ (f : ℕ → ℕ). f t) p.risen ∙ put_else m.risen s (m.risen s + 1) t isnt)
            (naps_are m m' w shown p.stays t low) (shown.phase t low));
        strangers = λ t far. put_else w.phase s acting t (far_off t s far r.seat) ∙ shown.strangers t far;
        owes = λ x u owed. owes_is m m' w shown p.stays p.rung x u (shown.owes x u owed);
        fresh = λ t low i f. put_else w.found_no_sign s false t (out t low i) ∙ fresh_is m m' w shown p.stays t low i f;
        uncancelled = λ t low i f. put_else w.found_no_cancel s false t (out t low i)
            ∙ none_is m m' w shown p.stays t low i f;
        even = even_is m m' w shown p.stays p.rung;
        condemned = condemned_are m m' w shown p.stays p.rung;
      };
    }

-- ---- a ring

-- a count that went up at one place
gone_up : (f : ℕ → ℕ → ℕ) (s u k x y : ℕ) → (put f s (put (f s) u (f s u + k)) x y ≡ f x y)
    ⊎ ((x ≡ s) × (y ≡ u) × (put f s (put (f s) u (f s u + k)) x y ≡ f x y + k))
gone_up f s u k x y = dite (ℕ_discrete x s)
    (λ is. let here : put f s (put (f s) u (f s u + k)) x y ≡ put (f s) u (f s u + k) y =
    (ap (λ z. put f s (put (f s) u (f s u + k)) z y) is ∙ ap (λ (g : ℕ →
    ℕ). g y) (put_here f s (put (f s) u (f s u + k)))) in
    dite (ℕ_discrete y u)
    (λ same. inr (
      is,
      same,
      here ∙ ap (put (f s) u (f s u + k)) same ∙ put_here (f s) u (f s u + k)
          ∙ ap (λ z. f s z + k) (sym same) ∙ ap (λ z. f z y + k) (sym is),
    ))
    (λ other. inl (here ∙ put_else (f s) u (f s u + k) y other ∙ ap (λ z. f z y) (sym is))))
    (λ isnt. inl (ap (λ (g : ℕ → ℕ). g y) (put_else f s (put (f s) u (f s u + k)) x isnt)))

rings_on : {key : Start} (m m' : Moment key) (w : Scene) (s u : ℕ) → IsSceneOf m w → Rings m m' s u →
    GoesAlong m' w (wakes s u)
rings_on m m' w s u shown p = let seat = p.waker in
    let up : (x y : ℕ) → (m'.rung x y ≡ m.rung x y) ⊎ ((x ≡ s) × (y ≡ u) × (m'.rung x y ≡ m.rung x y + p.count)) =
    (λ x y. subst (λ (k : ℕ). (k ≡ m.rung x y) ⊎ ((x ≡ s) × (y ≡ u) × (k ≡ m.rung x y + p.count)))
    (sym (ap (λ (f : ℕ → ℕ → ℕ). f x y) p.rung)) (gone_up m.rung s u p.count x y)) in record {
      may = not_asleep (w.phase s) (m.risen s) (view m s).naps
          (subst (λ b. IsPhase (w.phase s) b (m.risen s) (view m s).naps) p.awake (shown.phase s seat));
      shown = record {
        core = shown.core ∙ sym p.stays.core;
        token = ap (λ (f : ℕ → Bool). put f u true) shown.token ∙ sym p.token;
        heeds = shown.heeds ∙ sym p.stays.heeds;
        phase = λ t low. phase_as (w.phase t) (ap (λ (f : ℕ → Bool). f t) p.asleep)
            (ap (λ (f : ℕ → ℕ). f t) p.risen) (naps_are m m' w shown p.stays t low) (shown.phase t low);
        strangers = shown.strangers;
        owes = λ x y owed. ⊎_elim (λ paid. absurd (true≢false (sym paid.2)))
            (λ old. let h = shown.owes x y old in record {
              waker = h.waker;
              sleeper = h.sleeper;
              other = h.other;
              owed = ⊎_elim
                  (λ same. let a = h.owed in let b = owed_is m m' w shown p.stays x y h.waker in omega arith)
                  (λ one. absurd (true≢false (sym owed ∙ ap (λ z. put_debt w.owes s u false z y) one.0
                  ∙ ap (λ z. put_debt w.owes s u false s z) one.1 ∙ debt_here w.owes s u false))) (up x y);
            })
            (debt_was w.owes s u false x y owed);
        fresh = fresh_is m m' w shown p.stays;
        uncancelled = none_is m m' w shown p.stays;
        even = λ x y low. let b = owed_is m m' w shown p.stays x y low in ⊎_elim
            (λ same. let a = shown.even x y low in omega arith)
            (λ one. let a = subst (λ z. m.rung z y + p.count ≤ wakes_owed (m.part z) y) (sym one.0)
            (subst (λ z. m.rung s z + p.count ≤ wakes_owed (m.part s) z) (sym one.1) p.most) in let c = one.2 in
            omega arith) (up x y);
        condemned = λ x y low i h other. let out : (view m x).inside ≢ 0 =
            (λ none. i (inside_is m m' w shown p.stays x low ∙ none)) in
            let b = owed_is m m' w shown p.stays x y low in
            let a = shown.condemned x y low out (subst (λ us. Has us y)
            (condemned_is m m' w shown p.stays x low) h) other in
            ⊎_elim (λ same. omega arith)
            (λ one. absurd (out (ap (λ z. (view m z).inside) one.0 ∙ p.outside))) (up x y);
      };
    }

-- ---- all of them

pub moves_are_steps : MovesAreSteps
moves_are_steps key m m' w (performs e) reached shown follows = performs_on m m' w e shown follows
moves_are_steps key m m' w (leaves_to_sleep s n heeds) reached shown follows =
    leaves_on m m' w s n heeds reached shown follows
moves_are_steps key m m' w (finds_no_sign s) reached shown follows = finds_no_sign_on m m' w s shown follows
moves_are_steps key m m' w (finds_no_cancel s) reached shown follows = finds_no_cancel_on m m' w s shown follows
moves_are_steps key m m' w (wakes s u) reached shown follows = rings_on m m' w s u shown follows
moves_are_steps key m m' w (falls_asleep s) reached shown follows = parks_on m m' w s shown follows
moves_are_steps key m m' w (rises s) reached shown follows = rises_on m m' w s reached shown follows

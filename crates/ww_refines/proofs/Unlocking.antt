-- No deadlock of threads lasts.
use Rattle.std.proofs.Common.{◌≡◌, ◌≢◌, ◌⊎◌, ⊎_elim, inl, inr, ℕ, zero, suc, ◌+◌, ◌-◌, ◌<◌, ◌≤◌, ◌==◌, not, Bool, true, false, Option, Some, None, refl, sym, ap, ◌∙◌, subst, arith, lt_of_not-le, true≢false}
use mathlib.Core.Logic.{dite}
use native.Mathlib.Decide.{ℕ_discrete, dec_le}
use Rattle.ww_queue.specs.Queue.{Stands, StandsNot}
use Rattle.ww_queue.proofs.Outcomes.{number_other}
use Rattle.ww_model.specs.declared.event.Event.{Event}
use Rattle.ww_model.specs.declared.event.Event.TheVariants.{Begin, Guard, Take, Unguard, Die, Leave}
use Rattle.ww_model.specs.declared.state.Holder.TheVariants.{Taken, Handed}
use Rattle.ww_model.specs.State.{State}
use Rattle.ww_model.specs.Event.{Possible, actor}
use Rattle.ww_model.specs.Snapshot.{IsFirst}
use Rattle.ww_model.specs.Waits.{IsOneOf}
use Rattle.ww_view.specs.declared.view.View.{View}
use Rattle.ww_view.specs.View.{Knows}
use Rattle.ww_view.specs.Made.{view_after, naps_after}
use Rattle.ww_invariant.specs.declared.cells.Part.{Part}
use Rattle.ww_invariant.specs.declared.cells.Start.{Start}
use Rattle.ww_laws.specs.Scene.{acting, going_to_sleep, Step, performs, leaves_to_sleep, finds_no_sign, finds_no_cancel, wakes, falls_asleep, rises}
use Rattle.ww_laws.specs.Premises.{IsScheduled, WaiterGoesOn, WaitersGoOn, HoldersGoOn}
use Rattle.ww_laws.specs.GoingOn.{AreDeadlocked}
use Rattle.ww_laws.proofs.Asked.{who_leaves_has_asked}
use Rattle.ww_laws.proofs.Deadlocks.{no_deadlock_lasts}
use Rattle.ww_laws.proofs.Handoff.{waits_end}
use Rattle.ww_refines.specs.Moment.{Moment, core, view, Acts, HasLeftToWait}
use Rattle.ww_refines.specs.Moves.{OthersStay, Performs, Follows}
use Rattle.ww_refines.specs.Runs.{IsPhase}
use Rattle.ww_refines.specs.Endless.{IsEndless, step_of, RunsAlong}
use Rattle.ww_refines.specs.Deadlocks.{WaitersSleepInRuns, FirstsAskInRuns, IsScheduledThere, HoldersGoOnThere, NoDeadlockLastsInRuns, WaitsEndInRuns}
use Rattle.ww_refines.proofs.Owed.{stays_outside}
use Rattle.ww_refines.proofs.Following.{knows_there, who_there}
use Rattle.ww_refines.proofs.Playing.{is_seat, waiter_is_seat}
use Rattle.ww_refines.proofs.Ends.{runs_along, sleeps_there}

-- ---- what a view tells of the core

module _ {key : Start} (m : Moment key) (t : ℕ) (low : t < key.seats) where
  k : Knows (core m) (view m t)
  k = knows_there m t low

  who : (view m t).who ≡ t
  who = who_there m t low

  waits_there : (n : ℕ) → Stands ((core m).queue n) t → (view m t).waits ≡ suc n
  waits_there n h = k.queues.waits n (h.0, h.1, h.2 ∙ sym who)

  stands_there : (n : ℕ) → (view m t).waits ≡ suc n → Stands ((core m).queue n) t
  stands_there n is = let h = k.queues.waited n is in (h.0, h.1, h.2 ∙ who)

  stands_not : (n : ℕ) → (view m t).waits ≢ suc n → StandsNot ((core m).queue n) t
  stands_not n isnt e has is = isnt (waits_there n (e, has, is))

  inside_there : (n : ℕ) → (core m).guard n ≡ suc t → (view m t).inside ≡ suc n
  inside_there n g = k.guard.inside n (g ∙ ap suc (sym who))

  guard_there : (n : ℕ) → (view m t).inside ≡ suc n → (core m).guard n ≡ suc t
  guard_there n is = (k.guard.guards n is).1 ∙ ap suc who

-- ---- which move is this step

pub performed : (key : Start) (x : Option Step) (e : Event) → step_of key x ≡ performs e → x ≡ Some (performs e)
performed key None e is = absurd (cc)
performed key (Some y) e is = ap Some is

left_to_sleep : (key : Start) (x : Option Step) (s n : ℕ) (heeds : Bool) → step_of key x ≡ leaves_to_sleep s n heeds →
    x ≡ Some (leaves_to_sleep s n heeds)
left_to_sleep key None s n heeds is = absurd (cc)
left_to_sleep key (Some y) s n heeds is = ap Some is

-- ---- a waiter leaves a guard only in order to sleep

no_nap : (waits naps : ℕ) → naps_after waits naps ≡ naps → waits ≡ 0
no_nap zero naps is = refl
no_nap (suc n) naps is = absurd (omega arith)

pub waiters_sleep_in_runs : WaitersSleepInRuns
waiters_sleep_in_runs key moment move endless a s i n is = let m = moment i in
    let p = subst (Follows m (moment (suc i))) (performed key (move i) (Unguard s n) is) (endless.goes_on i) in
    let none = no_nap (view m s).waits (view m s).naps (sym (ap (λ (v : View). v.naps) p.makes.view) ∙ p.stays_up) in
    subst (λ (c : State). StandsNot (c.queue n) s) (sym (a.shown i).core)
    (stands_not m s p.makes.there.acts.seat n (λ waits. omega arith))

-- ---- whether it looks again stays while it is inside

event_later : (c : State) (e : Event) (v : View) → Knows c v → Possible c e → actor e ≡ v.who → v.inside ≢ 0 →
    (view_after c e v).inside ≢ 0 → (view_after c e v).later ≡ v.later
event_later c (Guard s n) v k can own inside still =
    absurd (inside (stays_outside c v k (λ j g. can.base.inside_none j (g ∙ ap suc (sym own)))))
event_later c (Unguard s n) v k can own inside still = absurd (still refl)
event_later c (Begin s) v k can own inside still = refl
event_later c _ v k can own inside still = refl

-- another seat's step leaves it
other_later : {key : Start} (m m' : Moment key) (t s : ℕ) → s < key.seats → OthersStay m m' t → (s ≡ t →
    (view m' s).later ≡ (view m s).later) →
    (view m' s).later ≡ (view m s).later
other_later m m' t s low there mine = dite (ℕ_discrete s t) mine (λ isnt. ap (λ (p : Part). p.core.later)
    (there.others s low isnt))

later_kept : {key : Start} (m m' : Moment key) (x : Option Step) (s : ℕ) → s < key.seats → (view m s).inside ≢ 0 →
    (view m' s).inside ≢ 0 → Follows m m' x → (view m' s).later ≡ (view m s).later
later_kept m m' None s low inside still (inl f) = ap (λ (p : Part). p.core.later) (f.stays.parts s low)
later_kept m m' None s low inside still (inr (t, inl f)) = other_later m m' t s low f.looks.there.stay
    (λ is. subst (λ x. (view m' x).later ≡ (view m x).later) (sym is) f.view.later)
later_kept m m' None s low inside still (inr (t, inr f)) = other_later m m' t s low f.stay
    (λ is. absurd (inside (ap (λ x. (view m x).inside) is ∙ f.outside)))
later_kept m m' (Some (performs e)) s low inside still f = other_later m m' (actor e) s low f.makes.there.stay
    (λ is. let at = f.makes.there.acts.seat in
    subst (λ x. (view m' x).later ≡ (view m x).later) (sym is) (ap (λ (v : View). v.later) f.makes.view
    ∙ event_later (core m) e (view m (actor e)) (knows_there m (actor e) at) f.makes.can (sym (who_there m
    (actor e) at))
    (λ z. inside (ap (λ x. (view m x).inside) is ∙ z))
    (λ z. still (ap (λ x. (view m' x).inside) is ∙ ap (λ (v : View). v.inside) f.makes.view ∙ z))))
later_kept m m' (Some (leaves_to_sleep t n heeds)) s low inside still f = other_later m m' t s low f.makes.there.stay
    (λ is. absurd (still (ap (λ x. (view m' x).inside) is ∙ ap (λ (v : View). v.inside) f.makes.view)))
later_kept m m' (Some (finds_no_sign t)) s low inside still f = other_later m m' t s low f.looks.there.stay
    (λ is. subst (λ x. (view m' x).later ≡ (view m x).later) (sym is)
    (⊎_elim (λ a. ap (λ (v : View). v.later) a) (λ a. ap (λ (v : View). v.later) a) f.view))
later_kept m m' (Some (finds_no_cancel t)) s low inside still f = other_later m m' t s low f.looks.there.stay
    (λ is. subst (λ x. (view m' x).later ≡ (view m x).later) (sym is) (ap (λ (v : View). v.later) f.view))
later_kept m m' (Some (wakes t u)) s low inside still f = ap (λ (p : Part). p.core.later) (f.stays.parts s low)
later_kept m m' (Some (falls_asleep t)) s low inside still f = ap (λ (p : Part). p.core.later) (f.stays.parts s low)
later_kept m m' (Some (rises t)) s low inside still f = ap (λ (p : Part). p.core.later) (f.stays.parts s low)

-- ---- the first in a list asks

-- whoever goes inside as a waiter looks again
looks_again : {key : Start} (m m' : Moment key) (s n : ℕ) → Performs m m' (Guard s n) → Stands ((core m).queue n) s →
    (view m' s).later ≡ true
looks_again m m' s n p stands = ap (λ (v : View). v.later) p.makes.view
    ∙ ap (λ (w : ℕ). not (w == 0)) (waits_there m s p.makes.there.acts.seat n stands)
    ∙ ap not (number_other (suc n) 0 (λ is. omega arith))

module _ {key : Start} (moment : ℕ → Moment key) (move : ℕ → Option Step) (endless : IsEndless moment move)
    (i j s n : ℕ) (low : s < key.seats) (first : (view (moment (suc i)) s).later ≡ true)
    (held : (k : ℕ) → i < k → k ≤ j → (core (moment k)).guard n ≡ suc s) where
  -- it still does, so many moves later
  still_later : (d k : ℕ) → k ≡ suc i + d → k ≤ j → (view (moment k) s).later ≡ true
  still_later zero k is by = subst (λ x. (view (moment x) s).later ≡ true) (let z : suc i ≡ k = omega arith in z) first
  still_later (suc d) k is by = let b : ℕ = suc i + d in let next : suc b ≡ k = omega arith in
      let here = inside_there (moment b) s low n (held b (omega arith) (omega arith)) in
      let there = inside_there (moment (suc b)) s low n (held (suc b) (omega arith) (omega arith)) in
      subst (λ x. (view (moment x) s).later ≡ true) next
      (later_kept (moment b) (moment (suc b)) (move b) s low (λ z. omega arith) (λ z. omega arith) (endless.goes_on b)
      ∙ still_later d b refl (omega arith))

pub firsts_ask_in_runs : FirstsAskInRuns
firsts_ask_in_runs key moment move endless a i j s n heeds before goes stands held leaves is_first =
    let m = moment i in
    let p = subst (Follows m (moment (suc i))) (performed key (move i) (Guard s n) goes) (endless.goes_on i) in
    let low = p.makes.there.acts.seat in
    let first = looks_again m (moment (suc i)) s n p (subst (λ (c : State). Stands (c.queue n) s)
    (a.shown i).core stands) in
    let later = still_later moment move endless i j s n low first
    (λ k after by. sym (ap (λ (c : State). c.guard n) (a.shown k).core)
    ∙ held k after by) (j - suc i) j (omega arith) (omega arith) in
    let q = subst (Follows (moment j) (moment (suc j))) (left_to_sleep key (move j) s n heeds leaves)
    (endless.goes_on j) in
    let v = view (moment j) s in
    subst (λ (c : State). (c.asked n ≡ true) ⊎ ((t : ℕ) × (c.owner n ≡ Handed t))) (sym (a.shown j).core)
    (who_leaves_has_asked (core (moment j)) v n (knows_there (moment j) s low) q.may q.waits later
    (subst (λ t. IsFirst ((core (moment j)).queue n) t) (sym (who_there (moment j) s low))
    (subst (λ (c : State). IsFirst (c.queue n) s) (a.shown j).core is_first)))

-- ---- deadlocks

module _ {key : Start} (moment : ℕ → Moment key) (move : ℕ → Option Step) (endless : IsEndless moment move)
    (a : RunsAlong moment move) (s : ℕ) (low : s < key.seats) (there : IsScheduledThere moment move s) where
  acts_there : (i : ℕ) → (a.scene i).phase s ≡ acting → Acts (moment i) s
  acts_there i is = let h = subst (λ p. IsPhase p ((moment i).asleep s) ((moment i).risen s) (view
      (moment i) s).naps) is
      ((a.shown i).phase s low) in record { seat = low; awake = h.0; risen = h.1 }

  rests_there : (i : ℕ) → (a.scene i).phase s ≡ going_to_sleep → HasLeftToWait (moment i) s false
  rests_there i is = let h = subst (λ p. IsPhase p ((moment i).asleep s) ((moment i).risen s) (view
      (moment i) s).naps) is
      ((a.shown i).phase s low) in record { seat = low; is_asleep = h.0; due = h.1 }

  waits_by : (i n : ℕ) → Stands ((a.scene i).core.queue n) s → (view (moment i) s).waits ≡ suc n
  waits_by i n h = waits_there (moment i) s low n (subst (λ (c : State). Stands (c.queue n) s) (a.shown i).core h)

  is_scheduled : IsScheduled a.scene (λ i. step_of key (move i)) s
  is_scheduled = record {
    made = λ i t owed. let h = there.made i t ((a.shown i).owes t s owed) in (h.0, h.1, ap (step_of key) h.2);
    heard = λ i token sleeps. let h = there.heard i (sym (ap (λ (f : ℕ → Bool). f s) (a.shown i).token) ∙ token)
        (sleeps_there moment move a i s sleeps).1 in (h.0, h.1, ap (step_of key) h.2);
    settled = λ i going. let h = there.settled i (rests_there i going) in (h.0, h.1, λ is. h.2 (rests_there h.0 is));
    looks = λ i n stands acts. let h = there.looks i n (waits_by i n stands) (acts_there i acts) in
        (h.0, h.1, ap (λ (c : State). c.guard n) (a.shown h.0).core ∙ guard_there (moment h.0) s low n h.2);
    leaves = λ i n stands inside. let h = there.leaves i n (waits_by i n stands)
        (inside_there (moment i) s low n (sym (ap (λ (c : State). c.guard n) (a.shown i).core) ∙ inside)) in (
          h.0,
          h.1,
          ⊎_elim
              (λ out. inl (λ g. out (inside_there (moment h.0) s low n (sym (ap (λ (c : State). c.guard n)
              (a.shown h.0).core) ∙ g))))
              (λ none. inr (subst (λ (c : State). StandsNot (c.queue n) s) (sym (a.shown h.0).core)
              (stands_not (moment h.0) s low n none))) h.2,
        );
  }

pub no_deadlock_lasts_in_runs : NoDeadlockLastsInRuns
no_deadlock_lasts_in_runs key moment move endless i seats scheduled dead = let a = runs_along moment move endless in
    let step : ℕ → Step = (λ j. step_of key (move j)) in
    let goes_on : (s : ℕ) → IsOneOf s seats → WaiterGoesOn a.scene step s = (λ s one. record {
      scheduled = is_scheduled moment move endless a s (let h = dead.stuck s one in
          waiter_is_seat (moment i) h.2.0 s h.2.1)
          (scheduled s one);
      sleeps = waiters_sleep_in_runs key moment move endless a s;
    }) in
    let end = no_deadlock_lasts a.scene step a.run i seats goes_on
    (subst (λ c. AreDeadlocked c seats) (sym (a.shown i).core) dead) in (
      end.0,
      end.1,
      (
        end.2.0,
        end.2.1,
        (
          end.2.2.0,
          ⊎_elim
              (λ is. inl (performed key (move end.0) (Die end.2.0 end.2.2.0) is))
              (λ is. inr (performed key (move end.0) (Leave end.2.0 end.2.2.0) is)) end.2.2.1,
        ),
      ),
    )

-- ---- waits end

module _ {key : Start} (moment : ℕ → Moment key) (move : ℕ → Option Step) (a : RunsAlong moment move) where
  -- a number that no seat has waits for nothing
  stranger_is_scheduled : (s : ℕ) → key.seats ≤ s → IsScheduled a.scene (λ i. step_of key (move i)) s
  stranger_is_scheduled s far =
      let acts : (i : ℕ) → (a.scene i).phase s ≡ acting = (λ i. (a.shown i).strangers s far) in
      let none : (i n : ℕ) → Stands ((a.scene i).core.queue n) s → ⊥ =
      (λ i n h. let low = waiter_is_seat (moment i) n s (subst (λ (c : State). Stands (c.queue n) s) (a.shown i).core h) in
      omega arith) in record {
        made = λ i t owed. let low = ((a.shown i).owes t s owed).sleeper in absurd (omega arith);
        heard = λ i token sleeps. let z = acts i in absurd (cc);
        settled = λ i going. let z = acts i in absurd (cc);
        looks = λ i n stands. absurd (none i n stands);
        leaves = λ i n stands. absurd (none i n stands);
      }

  -- holders go on in the scene
  holders_go_on : HoldersGoOnThere moment → HoldersGoOn a.scene (λ i. step_of key (move i))
  holders_go_on there i s n taken none = let m = moment i in
      let owner = sym (ap (λ (c : State). c.owner n) (a.shown i).core) ∙ taken in
      let low = is_seat m s (λ far. (m.strangers s far).bare n owner) in
      let who : (j : ℕ) → (view (moment j) s).who ≡ s = (λ j. who_there (moment j) s low) in
      let waits : (view m s).waits ≡ 0 = dite (ℕ_discrete (view m s).waits 0) (λ is. is)
      (λ isnt. let l : ℕ = (view m s).waits - 1 in let h = stands_there m s low l (omega arith) in
      absurd (subst (λ (c : State). StandsNot (c.queue l) s) (a.shown i).core (none l) h.0 h.1 h.2)) in
      let h = there i s n low ((knows_there m s low).owned.lacks n (owner ∙ ap Taken (sym (who i)))) waits in (
        h.0,
        h.1,
        ⊎_elim
            (λ free. inl (λ still. true≢false (sym ((knows_there (moment h.0) s low).owned.lacks n
            (sym (ap (λ (c : State). c.owner n) (a.shown h.0).core) ∙ still ∙ ap Taken (sym (who h.0)))) ∙ free)))
            (λ isnt. let l : ℕ = (view (moment h.0) s).waits - 1 in
            inr (
              l,
              subst (λ (c : State). Stands (c.queue l) s) (sym (a.shown h.0).core)
                  (stands_there (moment h.0) s low l (omega arith)),
            )) h.2,
      )

-- all that wait go on
pub waiters_go_on : {key : Start} (moment : ℕ → Moment key) (move : ℕ → Option Step) → IsEndless moment move →
    (a : RunsAlong moment move) → ((s : ℕ) → s < key.seats → IsScheduledThere moment move s) →
    WaitersGoOn a.scene (λ i. step_of key (move i))
waiters_go_on {key = key} moment move endless a scheduled t = record {
  scheduled = dite (dec_le key.seats t) (λ far. stranger_is_scheduled moment move a t far)
      (λ near. let less = lt_of_not-le near in is_scheduled moment move endless a t less (scheduled t less));
  sleeps = waiters_sleep_in_runs key moment move endless a t;
}

pub waits_end_in_runs : WaitsEndInRuns
waits_end_in_runs key moment move endless scheduled holders i s n low waits = let a = runs_along moment move endless in
    let step : ℕ → Step = (λ j. step_of key (move j)) in
    let end = waits_end a.scene step a.run (waiters_go_on moment move endless a scheduled) (holders_go_on moment move a holders)
    (firsts_ask_in_runs key moment move endless a) i s n
    (subst (λ (c : State). Stands (c.queue n) s) (sym (a.shown i).core) (stands_there (moment i) s low n waits)) in
    let j = end.0 in let e = end.2 in let x = move j in
    let stands = subst (λ (c : State). Stands (c.queue e.lock) e.seat) (a.shown j).core e.stands in
    let less = waiter_is_seat (moment j) e.lock e.seat stands in (
      j,
      end.1,
      record {
        seat = e.seat;
        lock = e.lock;
        low = less;
        waits = waits_there (moment j) e.seat less e.lock stands;
        ends = ⊎_elim (λ is. inl (performed key x (Take e.seat e.lock) is))
            (⊎_elim (λ is. inr (inl (performed key x (Die e.seat e.lock) is)))
            (λ is. inr (inr (performed key x (Leave e.seat e.lock) is)))) e.ends;
      },
    )

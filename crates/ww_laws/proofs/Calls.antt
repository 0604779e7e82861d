-- A seat in a call at the table, and the steps of the scene.
use Rattle.std.proofs.Common.{◌≡◌, ◌≢◌, inl, inr, ⊎_elim, ℕ, Bool, true, false, List, [], ◌∷◌, Option, Some, None, refl, sym, ap, ◌∙◌, subst, arith, true≢false}
use Rattle.std.proofs.lemmas.Bool.{cases_Bool}
use Rattle.std.specs.Option.{option_map}
use Rattle.std.specs.Prelude.{slice_get}
use Rattle.ww_queue.specs.declared.entry.Entry.{Entry}
use Rattle.ww_queue.specs.Queue.{Has}
use Rattle.ww_model.specs.declared.event.Event.{Event}
use Rattle.ww_model.specs.declared.event.Event.TheVariants.{Begin, Guard, Unguard, Commit, Cancel}
use Rattle.ww_model.specs.State.{State}
use Rattle.ww_model.specs.Event.{actor}
use Rattle.ww_model.proofs.Puts.{put_here, put_else}
use Rattle.ww_model.proofs.Kept.{reached_is_lawful}
use Rattle.ww_model.proofs.Outside.{signed_owns_outside}
use Rattle.ww_view.specs.declared.view.View.{View}
use Rattle.ww_view.specs.May.{Shows}
use Rattle.ww_view.specs.Made.{view_after}
use Rattle.ww_view.proofs.Events.{shown_is_possible, actor_knows}
use Rattle.ww_view.proofs.Others.{others_know}
use Rattle.ww_view.proofs.Shows.{shows_exit}
use Rattle.ww_view.proofs.Inside.{mine_read, mine_read_none, mine_uncancelled}
use Rattle.ww_laws.specs.Scene.{Scene, acting, going_to_sleep, asleep, performs, leaves_to_sleep, finds_no_sign, finds_no_cancel, wakes, falls_asleep, rises, first_of, uncancelled_after, woken_by, next, goes_on}
use Rattle.ww_laws.specs.InCall.{also, ShownIsAStep, LeavingIsAStep, SignLookIsAStep, CancelLookIsAStep, OthersLeaveCallsAlone, ViewsTellWhomToWake, WakersMaySleep, IsInCall}
use Rattle.ww_laws.proofs.Woken.{another_was, owing_was, debt_was, debt_here}
use Rattle.ww_laws.proofs.Keeping.{reached_is_orderly}
use Rattle.ww_view.specs.View.{Knows}

-- ---- own events

-- inside a guard no event leaves a look at the sign the last step
not_fresh : (c : State) (e : Event) (v : View) → Shows c v e → (view_after c e v).inside ≢ 0 → (view_after c e v).fresh ≡ true → ⊥
not_fresh c (Commit s) v h inside fresh = inside h.0.0
not_fresh c (Cancel s u) v h inside fresh = inside h.0.0
not_fresh c _ v h inside fresh = true≢false (sym fresh)

-- only a look at the own cancel makes the view say that it found none, and who cancels is inside no guard
still_uncancelled : (w : Scene) (e : Event) (v : View) → Shows w.core v e
    → (v.inside ≢ 0 → v.uncancelled ≡ true → w.found_no_cancel v.who ≡ true) →
    (view_after w.core e v).inside ≢ 0 → (view_after w.core e v).uncancelled ≡ true → uncancelled_after w.found_no_cancel e v.who ≡ true
still_uncancelled w (Guard s n) v h had inside none = absurd (true≢false (sym none))
still_uncancelled w (Cancel s u) v h had inside none = absurd (inside h.0.0)
still_uncancelled w (Unguard s n) v h had inside none = absurd (inside refl)
still_uncancelled w _ v h had inside none = had inside none

same_who : (c : State) (e : Event) (v : View) → (view_after c e v).who ≡ v.who
same_who c (Begin s) v = refl
same_who c _ v = refl

new_there : (o : Option ℕ) (us : List ℕ) (u : ℕ) → o ≡ Some u → Has (also o us) u
new_there None us u is = absurd (cc)
new_there (Some x) us u is = inl (let same : u ≡ x = cc in same)

old_there : (o : Option ℕ) (us : List ℕ) (u : ℕ) → Has us u → Has (also o us) u
old_there None us u there = there
old_there (Some x) us u there = inr there

pub shown_is_a_step : ShownIsAStep
shown_is_a_step w v e to_wake r i own h = let c = w.core in let reached = (reached_is_orderly w r).reached in
    let l = reached_is_lawful c reached in let out = signed_owns_outside c reached in let who = same_who c e v in record {
      may = record { acts = ap w.phase own ∙ i.acts; possible = shown_is_possible c v l out i.knows e own h };
      call = record {
        knows = actor_knows c v l out i.knows e own h;
        acts = ap w.phase who ∙ i.acts;
        fresh = λ inside fresh. absurd (not_fresh c e v h inside fresh);
        uncancelled = λ inside none. ap (uncancelled_after w.found_no_cancel e) who ∙ still_uncancelled w e v h i.uncancelled inside none;
        debts = λ u owed. ⊎_elim (λ new. new_there (woken_by c e) to_wake u new.1)
            (λ old. old_there (woken_by c e) to_wake u (i.debts u (subst (λ s. w.owes s u ≡ true) who old)))
            (owing_was w.owes (actor e) (woken_by c e) (view_after c e v).who u owed);
      };
    }

-- ---- out of the guard

pub leaving_is_a_step : LeavingIsAStep
leaving_is_a_step w v n heeds to_wake r i may waits found = let c = w.core in let k = i.knows in
    let reached = (reached_is_orderly w r).reached in record {
      acts = i.acts;
      possible = shows_exit c v (reached_is_lawful c reached) k n (signed_owns_outside c reached) may.exit;
      waits = k.queues.waited n waits;
      unsigned = λ can. i.fresh (λ none. let z = may.exit.inside in omega arith)
          (may.looked (k.itself.kind ∙ can.kind) waits (let z = k.itself.stamp in let y = can.context in omega arith)
          (can.owns.0, k.owned.lacks can.owns.0 can.owns.1));
      uncancelled = λ heeded. i.uncancelled (λ none. let z = may.exit.inside in omega arith) (found heeded);
    }

-- ---- looks at the own sign and cancel

pub sign_look_is_a_step : SignLookIsAStep
sign_look_is_a_step w v to_wake i none = let found = put_here w.found_no_sign v.who true in record {
  may = (i.acts, none);
  loud = record {
    knows = mine_read_none w.core v i.knows;
    acts = i.acts;
    fresh = λ _ _. found;
    uncancelled = i.uncancelled;
    debts = i.debts;
  };
  quiet = λ quiet. record {
    knows = mine_read w.core v i.knows 0 none (λ _. quiet);
    acts = i.acts;
    fresh = λ _ _. found;
    uncancelled = i.uncancelled;
    debts = i.debts;
  };
}

pub cancel_look_is_a_step : CancelLookIsAStep
cancel_look_is_a_step w v to_wake i none = record {
  may = (i.acts, none);
  call = record {
    knows = mine_uncancelled w.core v i.knows;
    acts = i.acts;
    fresh = λ _ fresh. absurd (true≢false (sym fresh));
    uncancelled = λ _ _. put_here w.found_no_cancel v.who true;
    debts = i.debts;
  };
}

-- ---- steps of others

-- another's event leaves whether a seat has found no cancel
others_uncancelled : (found : ℕ → Bool) (e : Event) (s : ℕ) → actor e ≢ s → uncancelled_after found e s ≡ found s
others_uncancelled found (Cancel s u) t other = put_else found s false t (λ is. other (sym is))
others_uncancelled found _ t other = refl

-- a scene in which the seat finds what it found, and has nobody more to wake, leaves it in its call
module _ (w : Scene) (v : View) (us : List ℕ) (i : IsInCall w v us) where
  pub call_stays : (w' : Scene) → Knows w'.core v → w'.phase v.who ≡ w.phase v.who →
      w'.found_no_sign v.who ≡ w.found_no_sign v.who → w'.found_no_cancel v.who ≡ w.found_no_cancel v.who →
      ((u : ℕ) → w'.owes v.who u ≡ true → w.owes v.who u ≡ true) → IsInCall w' v us
  call_stays w' knows phase sign cancel owes = record {
    knows = knows;
    acts = phase ∙ i.acts;
    fresh = λ inside fresh. sign ∙ i.fresh inside fresh;
    uncancelled = λ inside none. cancel ∙ i.uncancelled inside none;
    debts = λ u owed. i.debts u (owes u owed);
  }

pub others_leave_calls_alone : OthersLeaveCallsAlone
others_leave_calls_alone w (performs e) v us r may other i = let c = w.core in
    call_stays w v us i (next w (performs e))
    (others_know c e v (reached_is_lawful c (reached_is_orderly w r).reached) may.possible other i.knows)
    refl (put_else w.found_no_sign (actor e) false v.who (λ is. other (sym is)))
    (others_uncancelled w.found_no_cancel e v.who other)
    (λ u owed. ⊎_elim (λ new. absurd (other (sym new.0))) (λ old. old) (owing_was w.owes (actor e) (woken_by c e) v.who u owed))
others_leave_calls_alone w (leaves_to_sleep s n heeds) v us r may other i = let c = w.core in
    call_stays w v us i (next w (leaves_to_sleep s n heeds))
    (others_know c (Unguard s n) v (reached_is_lawful c (reached_is_orderly w r).reached) may.possible other i.knows)
    (put_else w.phase s going_to_sleep v.who (λ is. other (sym is))) refl refl (λ u owed. owed)
others_leave_calls_alone w (finds_no_sign s) v us r may other i = call_stays w v us i (next w (finds_no_sign s)) i.knows
    refl (put_else w.found_no_sign s true v.who (λ is. other (sym is))) refl (λ u owed. owed)
others_leave_calls_alone w (finds_no_cancel s) v us r may other i = call_stays w v us i (next w (finds_no_cancel s)) i.knows
    refl refl (put_else w.found_no_cancel s true v.who (λ is. other (sym is))) (λ u owed. owed)
others_leave_calls_alone w (wakes s x) v us r may other i = call_stays w v us i (next w (wakes s x)) i.knows refl refl refl
    (λ u owed. ⊎_elim (λ paid. absurd (true≢false (sym paid.2))) (λ old. old) (debt_was w.owes s x false v.who u owed))
others_leave_calls_alone w (falls_asleep s) v us r may other i = call_stays w v us i (next w (falls_asleep s)) i.knows
    (put_else w.phase s asleep v.who (λ is. other (sym is))) refl refl (λ u owed. owed)
others_leave_calls_alone w (rises s) v us r may other i = call_stays w v us i (next w (rises s)) i.knows
    (put_else w.phase s acting v.who (λ is. other (sym is)))
    (put_else w.found_no_sign s false v.who (λ is. other (sym is)))
    (put_else w.found_no_cancel s false v.who (λ is. other (sym is))) (λ u owed. owed)

-- ---- whom the view tells

first_told : (q : List Entry) → first_of q ≡ option_map (λ (e : Entry). e.seat) (slice_get q 0)
first_told [] = refl
first_told (e ∷ es) = refl

pub views_tell_whom_to_wake : ViewsTellWhomToWake
views_tell_whom_to_wake c v k = record {
  signs = λ u x is. let one = another_was v.who u x is in (inl one.0, one.1);
  gives = λ n inside. ap first_of (sym (k.queues.list n inside)) ∙ first_told v.list;
}

-- ---- waking all

pub wakers_may_sleep : WakersMaySleep
wakers_may_sleep w s [] r ready all = record {
  reached = r;
  may = record { ready = ready; paid = λ v. ⊎_elim (λ is. absurd (all v is)) (λ isnt. isnt) (cases_Bool (w.owes s v)) };
}
wakers_may_sleep w s (u ∷ us) r ready all = wakers_may_sleep (next w (wakes s u)) s us
    (goes_on w (wakes s u) r (λ sleeps. let z : ⊥ = cc in z)) ready
    (λ v owed. ⊎_elim (λ paid. absurd (true≢false (sym paid.2)))
    (λ old. ⊎_elim (λ is. absurd (unpaid v is owed)) (λ later. later) (all v old))
    (debt_was w.owes s u false s v owed))
  where
    unpaid : (v : ℕ) → v ≡ u → (next w (wakes s u)).owes s v ≡ true → ⊥
    unpaid v is owed = true≢false (sym owed ∙ ap ((next w (wakes s u)).owes s) is ∙ debt_here w.owes s u false)

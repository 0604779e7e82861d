-- Runs of seats that go by their views.
use Rattle.std.proofs.Common.{◌≡◌, ◌≢◌, ◌⊎◌, inl, inr, ⊎_elim, ℕ, zero, suc, ◌<◌, ◌≤◌, ◌==◌, true, false, not, List, [], refl, sym, ap, ◌∙◌, subst, arith, true≢false}
use Rattle.std.proofs.lemmas.Bool.{cases_Bool}
use mathlib.Core.Logic.{dite}
use native.Mathlib.Decide.{ℕ_discrete}
use Rattle.ww_queue.specs.declared.kind.Kind.{Kind}
use Rattle.ww_queue.specs.Queue.{Stands}
use Rattle.ww_queue.proofs.Outcomes.{same_number}
use Rattle.ww_model.specs.declared.event.Event.{Event}
use Rattle.ww_model.specs.declared.event.Event.TheVariants.{Begin, Guard, Unguard}
use Rattle.ww_model.specs.State.{State, put}
use Rattle.ww_model.specs.Event.{after}
use Rattle.ww_model.specs.Snapshot.{IsFirst}
use Rattle.ww_model.proofs.Puts.{put_here}
use Rattle.ww_view.specs.declared.view.View.{View}
use Rattle.ww_view.specs.View.{Knows, first_view}
use Rattle.ww_view.specs.May.{Shows}
use Rattle.ww_view.specs.Made.{exited, found_uncancelled, view_after}
use Rattle.ww_view.proofs.Inside.{mine_look, mine_lost_sign, mine_read, mine_missed, mine_kept, mine_glanced, mine_seen_word, mine_found_pending, mine_shut_out, mine_stepped}
use Rattle.ww_laws.specs.Scene.{Phase, Scene, first_scene, acting, going_to_sleep, asleep, Step, performs, leaves_to_sleep, finds_no_sign, finds_no_cancel, wakes, falls_asleep, rises, May, next, woken_by, IsReached, begins, goes_on}
use Rattle.ww_laws.specs.InCall.{IsInCall, IsResting, also, mover}
use Rattle.ww_laws.proofs.Woken.{debt_was}
use Rattle.ww_laws.proofs.Calls.{shown_is_a_step, leaving_is_a_step, sign_look_is_a_step, cancel_look_is_a_step, others_leave_calls_alone, call_stays}
use Rattle.ww_laws.proofs.AtRest.{start_is_in_call, leaving_comes_to_rest, rest_stays, rising_is_in_call}
use Rattle.ww_laws.specs.Views.{Learns, looks, notes, reads, keeps, misses, glances, sees, pends, is_shut_out, steps, FindsOn, no_more, more, MayByView, MadeBy, IsViewedRun, ViewedRunsAreRuns, ViewedWaitersSleep, ViewedDeadlocksEnd, ViewedRunsAreThere, LooksAgainStill, LaterStays, ViewedRunsAsk}
use Rattle.ww_laws.proofs.Deadlocks.{no_deadlock_lasts}
use Rattle.ww_laws.proofs.Asked.{who_leaves_has_asked}
use Rattle.ww_laws.proofs.Endless.{holds_at}

-- ---- who looks again

-- What a seat finds leaves the rest of its view as it is.
record FoundKeeps (v w : View) : Type 0 where
  who : w.who ≡ v.who
  inside : w.inside ≡ v.inside
  later : w.later ≡ v.later
  uncancelled : w.uncancelled ≡ v.uncancelled

found_keeps : (c : State) (v w : View) → Learns c v w → FoundKeeps v w
found_keeps c v w keeps = record { who = refl; inside = refl; later = refl; uncancelled = refl }
found_keeps c v w _ = record { who = refl; inside = refl; later = refl; uncancelled = refl }

made_still : (c : State) (v : View) (e : Event) → ((s n : ℕ) → e ≢ Guard s n) → ((s n : ℕ) → e ≢ Unguard s n) →
    LooksAgainStill v (view_after c e v)
made_still c v (Guard s n) not_in not_out = absurd (not_in s n refl)
made_still c v (Unguard s n) not_in not_out = absurd (not_out s n refl)
made_still c v (Begin s) not_in not_out = record { later = refl; inside = refl }
made_still c v _ not_in not_out = record { later = refl; inside = refl }

pub later_stays : LaterStays
later_stays c v = record {
  event = made_still c v;
  finds = λ w f. let k = found_keeps c v w f in record { later = k.later; inside = k.inside };
}

-- ---- what a seat finds keeps it in its call, or at rest

knows_found : (c : State) (v w : View) → Knows c v → Learns c v w → Knows c w
knows_found c v w k (looks n at) = mine_look c v k n _ at refl
knows_found c v w k (notes u signed) = mine_lost_sign c v k u signed
knows_found c v w k (reads signed) = mine_read c v k (c.sign v.who) refl (λ none. absurd (signed none))
knows_found c v w k keeps = mine_kept c v k
knows_found c v w k misses = mine_missed c v k
knows_found c v w k glances = mine_glanced c v k
knows_found c v w k (sees n) = mine_seen_word c v k n _
knows_found c v w k pends = mine_found_pending c v k
knows_found c v w k is_shut_out = mine_shut_out c v k
knows_found c v w k steps = mine_stepped c v k

fresh_before : (c : State) (v w : View) → Learns c v w → w.fresh ≡ true → v.fresh ≡ true
fresh_before c v w (reads signed) fresh = absurd (signed (same_number (c.sign v.who) 0 fresh))
fresh_before c v w glances fresh = fresh
fresh_before c v w (sees n) fresh = fresh
fresh_before c v w pends fresh = fresh
fresh_before c v w _ fresh = absurd (true≢false (sym fresh))

-- the seat is in its call or at rest, whomever it has to wake
abbrev pub IsPlaced : Scene → View → Type 0
IsPlaced w v = (us : List ℕ) × (IsInCall w v us ⊎ IsResting w v us)

knows_placed : (w : Scene) (v : View) → IsPlaced w v → Knows w.core v
knows_placed w v p = ⊎_elim (λ (i : IsInCall w v p.0). i.knows) (λ (i : IsResting w v p.0). i.knows) p.1

placed_found : (w : Scene) (v v' : View) → Learns w.core v v' → IsPlaced w v → IsPlaced w v'
placed_found w v v' f p = let c = w.core in let keeps = found_keeps c v v' f in let us = p.0 in
    let same = keeps.who in let inside = keeps.inside in (
      us,
      ⊎_elim
          (λ i. inl (record {
            knows = knows_found c v v' i.knows f;
            acts = ap w.phase same ∙ i.acts;
            fresh = λ at fresh. ap w.found_no_sign same ∙ i.fresh (λ z. at (inside ∙ z)) (fresh_before c v v' f fresh);
            uncancelled = λ at none. ap w.found_no_cancel same
                ∙ i.uncancelled (λ z. at (inside ∙ z)) (sym keeps.uncancelled ∙ none);
            debts = λ u owed. i.debts u (subst (λ s. w.owes s u ≡ true) same owed);
          }))
          (λ i. inr (record {
            knows = knows_found c v v' i.knows f;
            rests = λ is. i.rests (sym (ap w.phase same) ∙ is);
            outside = inside ∙ i.outside;
            debts = λ u owed. i.debts u (subst (λ s. w.owes s u ≡ true) same owed);
          }))
          p.1,
    )

-- ... any number of times
pub record FoundOn (w : Scene) (v v' : View) : Type 0 where
  pub who : v'.who ≡ v.who
  pub later : v'.later ≡ v.later
  pub placed : IsPlaced w v → IsPlaced w v'

found_on : (w : Scene) (v v' : View) → FindsOn w.core v v' → FoundOn w v v'
found_on w v v' no_more = record { who = refl; later = refl; placed = λ p. p }
found_on w v v' (more between after on f) = let before = found_on w v between on in record {
  who = (found_keeps w.core between after f).who ∙ before.who;
  later = (found_keeps w.core between after f).later ∙ before.later;
  placed = λ p. placed_found w between after f (before.placed p);
}

-- ---- a seat makes a step by its view

-- the step may be made, and then the seat is in its call or at rest with what the step made of its view
pub record GoesOn (w : Scene) (x : Step) (made : View) : Type 0 where
  pub may : May w x
  pub placed : IsPlaced (next w x) made

woke_in_call : (w : Scene) (v : View) (us : List ℕ) (u : ℕ) → IsInCall w v us → IsInCall (next w (wakes v.who u)) v us
woke_in_call w v us u i = call_stays w v us i (next w (wakes v.who u)) i.knows refl refl refl
    (λ x owed. ⊎_elim (λ paid. absurd (true≢false (sym paid.2))) (λ old. old)
    (debt_was w.owes v.who u false v.who x owed))

in_call : (w : Scene) (v : View) → w.phase v.who ≡ acting → IsPlaced w v → (us : List ℕ) × IsInCall w v us
in_call w v acts p = (p.0, ⊎_elim (λ i. i) (λ i. absurd (i.rests acts)) p.1)

at_rest : (w : Scene) (v : View) → w.phase v.who ≢ acting → IsPlaced w v → (us : List ℕ) × IsResting w v us
at_rest w v rests p = (p.0, ⊎_elim (λ i. absurd (rests i.acts)) (λ i. i) p.1)

acting_not_going : (p : Phase) → p ≡ going_to_sleep → p ≢ acting
acting_not_going p going acts = let z : ⊥ = cc in z

-- the seat itself, in the place of that of the step
by_mover : (w : Scene) (v made : View) (x : Step) → IsReached w → mover x ≡ v.who → MayByView w v x →
    MadeBy w x v made → IsPlaced w v → GoesOn w x made
by_mover w v made (performs e) r own may is p = let i = in_call w v (sym (ap w.phase own) ∙ may.0) p in
    let step = shown_is_a_step w v e i.0 r i.1 own may.1 in record {
      may = step.may;
      placed = subst (IsPlaced (next w (performs e))) (sym is) (also (woken_by w.core e) i.0, inl step.call);
    }
by_mover w v made (leaves_to_sleep s n heeds) r own may is p =
    let i = in_call w v (sym (ap w.phase own) ∙ may.0) p in
    let to = leaving_is_a_step w v n heeds i.0 r i.1 may.1 may.2 may.3 in record {
      may = subst (λ t. May w (leaves_to_sleep t n heeds)) (sym own) to;
      placed = subst (IsPlaced (next w (leaves_to_sleep s n heeds))) (sym is)
          (subst (λ t. IsPlaced (next w (leaves_to_sleep t n heeds)) (exited v)) (sym own)
          (i.0, inr (leaving_comes_to_rest w v n heeds i.0 r i.1 may.1)));
    }
by_mover w v made (finds_no_sign s) r own may is p = let i = in_call w v (sym (ap w.phase own) ∙ may.0) p in
    let step = sign_look_is_a_step w v i.0 i.1 (sym (ap w.core.sign own) ∙ may.1) in record {
      may = may;
      placed = subst (λ t. IsPlaced (next w (finds_no_sign t)) made) (sym own) (
        i.0,
        inl (⊎_elim
            (λ loud. subst (λ y. IsInCall (next w (finds_no_sign v.who)) y i.0) (sym loud) step.loud)
            (λ quiet. subst (λ y. IsInCall (next w (finds_no_sign v.who)) y i.0) (sym quiet.1) (step.quiet quiet.0))
            is),
      );
    }
by_mover w v made (finds_no_cancel s) r own may is p = let i = in_call w v (sym (ap w.phase own) ∙ may.0) p in
    let step = cancel_look_is_a_step w v i.0 i.1 (sym (ap w.core.cancel own) ∙ may.1) in record {
      may = may;
      placed = subst (λ t. IsPlaced (next w (finds_no_cancel t)) made) (sym own)
          (i.0, inl (subst (λ y. IsInCall (next w (finds_no_cancel v.who)) y i.0) (sym is) step.call));
    }
by_mover w v made (wakes s u) r own may is p = record {
  may = may;
  placed = subst (IsPlaced (next w (wakes s u))) (sym is) (subst (λ t. IsPlaced (next w (wakes t u)) v) (sym own) (
    p.0,
    ⊎_elim (λ i. inl (woke_in_call w v p.0 u i))
        (λ i. inr (rest_stays w (wakes v.who u) v p.0 r (subst (λ t. w.phase t ≢ asleep) own may) (λ z. cc) i)) p.1,
  ));
}
by_mover w v made (falls_asleep s) r own may is p =
    let i = at_rest w v (acting_not_going (w.phase v.who) (sym (ap w.phase own) ∙ may.0)) p in
    let to : May w (falls_asleep s) = record { ready = may.0; paid = may.1 } in record {
      may = to;
      placed = subst (IsPlaced (next w (falls_asleep s))) (sym is)
          (i.0, inr (rest_stays w (falls_asleep s) v i.0 r to (λ z. cc) i.1));
    }
by_mover w v made (rises s) r own may is p = let i = at_rest w v (λ acts. may (ap w.phase own ∙ acts)) p in record {
  may = may;
  placed = subst (IsPlaced (next w (rises s))) (sym is) (subst (λ t. IsPlaced (next w (rises t)) v) (sym own)
      (i.0, inl (rising_is_in_call w v i.0 i.1)));
}

-- the others stay where they are
by_other : (w : Scene) (v : View) (x : Step) → IsReached w → May w x → mover x ≢ v.who → IsPlaced w v →
    IsPlaced (next w x) v
by_other w v x r may other p = (
  p.0,
  ⊎_elim
      (λ i. inl (others_leave_calls_alone w x v p.0 r may other i))
      (λ i. inr (rest_stays w x v p.0 r may (λ is. other (ap mover is)) i)) p.1,
)

same_who : (c : State) (e : Event) (v : View) → (view_after c e v).who ≡ v.who
same_who c (Begin s) v = refl
same_who c _ v = refl

-- a step keeps which seat it is
made_who : (w : Scene) (x : Step) (v made : View) → MadeBy w x v made → made.who ≡ v.who
made_who w (performs e) v made is = ap (λ (y : View). y.who) is ∙ same_who w.core e v
made_who w (finds_no_sign s) v made is = ⊎_elim (λ a. ap (λ (y : View). y.who) a) (λ a. ap (λ (y : View). y.who) a.1) is
made_who w _ v made is = ap (λ (y : View). y.who) is

-- ---- along a run

module _ (kind : Kind) (locks seats : ℕ) (scene : ℕ → Scene) (step : ℕ → Step) (view : ℕ → ℕ → View)
    (run : IsViewedRun kind locks seats scene step view) where
  -- the scene is reached, and each seat is placed with its view
  record IsKnown (i : ℕ) : Type 0 where
    reached : IsReached (scene i)
    who : (s : ℕ) → s < seats → (view i s).who ≡ s
    placed : (s : ℕ) → s < seats → IsPlaced (scene i) (view i s)

  goes : (i : ℕ) → IsKnown i → GoesOn (scene i) (step i) (run.mine i).0
  goes i k = let s = mover (step i) in by_mover (scene i) (view i s) (run.mine i).0 (step i) k.reached
      (sym (k.who s (run.seat i))) (run.may i) (run.mine i).1 (k.placed s (run.seat i))

  known : (i : ℕ) → IsKnown i
  known zero = record {
    reached = subst IsReached (sym run.begins) (begins kind locks seats);
    who = λ s below. ap (λ (v : View). v.who) (run.first s below);
    placed = λ s below. subst (λ (w : Scene). IsPlaced w (view 0 s)) (sym run.begins)
        (subst (IsPlaced (first_scene kind locks seats)) (sym (run.first s below))
        ([], inl (start_is_in_call kind locks seats s below)));
  }
  known (suc i) = let k = known i in let g = goes i k in let m = mover (step i) in let w = scene (suc i) in
      let mine = run.mine i in record {
        reached = subst IsReached (sym (run.goes_on i)) (goes_on (scene i) (step i) k.reached g.may);
        who = λ s below. dite (ℕ_discrete s m)
            (λ is. subst (λ t. (view (suc i) t).who ≡ t) (sym is) ((found_on w mine.0 (view (suc i) m) mine.2).who
            ∙ made_who (scene i) (step i) (view i m) mine.0 mine.1 ∙ k.who m (run.seat i)))
            (λ isnt. (found_on w (view i s) (view (suc i) s) (run.others i s below isnt)).who ∙ k.who s below);
        placed = λ s below. dite (ℕ_discrete s m)
            (λ is. subst (λ t. IsPlaced w (view (suc i) t)) (sym is) ((found_on w mine.0 (view (suc i) m) mine.2).placed
            (subst (λ (y : Scene). IsPlaced y mine.0) (sym (run.goes_on i)) g.placed)))
            (λ isnt. (found_on w (view i s) (view (suc i) s) (run.others i s below isnt)).placed
            (subst (λ (y : Scene). IsPlaced y (view i s)) (sym (run.goes_on i))
            (by_other (scene i) (view i s) (step i) k.reached g.may
            (λ is. isnt (sym (is ∙ k.who s below))) (k.placed s below))));
      }

pub viewed_runs_are_runs : ViewedRunsAreRuns
viewed_runs_are_runs kind locks seats scene step view run = let k = known kind locks seats scene step view run in
    record {
      begins = (k 0).reached;
      may = λ i. (goes kind locks seats scene step view run i (k i)).may;
      goes_on = run.goes_on;
    }

pub viewed_waiters_sleep : ViewedWaitersSleep
viewed_waiters_sleep kind locks seats scene step view run s i n out e h own =
    let k = known kind locks seats scene step view run i in let v = view i s in
    let below : s < seats = subst (λ x. mover x < seats) out (run.seat i) in
    let none : v.waits ≡ 0 = (subst (λ x. MayByView (scene i) (view i (mover x)) x) out (run.may i)).2 s n refl in
    let waited = (knows_placed (scene i) v (k.placed s below)).queues.waits n (e, h, own ∙ sym (k.who s below)) in
    omega arith

pub viewed_deadlocks_end : ViewedDeadlocksEnd
viewed_deadlocks_end kind locks seats scene step view run i dead go =
    no_deadlock_lasts scene step (viewed_runs_are_runs kind locks seats scene step view run) i dead
    (λ s one. record {
      scheduled = go s one;
      sleeps = viewed_waiters_sleep kind locks seats scene step view run s;
    })

-- the first seat looks at its cancel again and again, and finds none
idle_scene : Kind → ℕ → ℕ → ℕ → Scene
idle_scene kind locks seats zero = first_scene kind locks seats
idle_scene kind locks seats (suc i) = next (idle_scene kind locks seats i) (finds_no_cancel 0)

idle_view : Kind → ℕ → ℕ → ℕ → ℕ → View
idle_view kind locks seats zero s = first_view kind locks seats s
idle_view kind locks seats (suc i) zero = found_uncancelled (idle_view kind locks seats i 0)
idle_view kind locks seats (suc i) (suc s) = idle_view kind locks seats i (suc s)

pub viewed_runs_are_there : ViewedRunsAreThere
unfolding idle_scene idle_view
viewed_runs_are_there kind locks seats some = record {
  scene = idle_scene kind locks seats;
  step = λ i. finds_no_cancel 0;
  view = idle_view kind locks seats;
  run = record {
    begins = refl;
    first = λ s below. refl;
    seat = λ i. some;
    may = λ i. (acts i, none i);
    goes_on = λ i. refl;
    mine = λ i. (found_uncancelled (idle_view kind locks seats i 0), refl, no_more);
    others = λ i s below other. others i s other;
  };
}
  where
    acts : (i : ℕ) → (idle_scene kind locks seats i).phase 0 ≡ acting
    acts zero = refl
    acts (suc i) = acts i

    none : (i : ℕ) → (idle_scene kind locks seats i).core.cancel 0 ≡ 0
    none zero = refl
    none (suc i) = none i

    others : (i s : ℕ) → s ≢ 0 →
        FindsOn (idle_scene kind locks seats (suc i)).core (idle_view kind locks seats i s)
        (idle_view kind locks seats (suc i) s)
    others i zero other = absurd (other refl)
    others i (suc s) other = no_more

-- ---- the first in a list asks

-- a seat that goes inside looks again, if it stood in the list
looks_again : (m n : ℕ) → m ≡ suc n → not (m == 0) ≡ true
looks_again m n is = ⊎_elim (λ none. let z = same_number m 0 none in absurd (omega arith)) (λ some. ap not some)
    (cases_Bool (m == 0))

-- What a step makes of the view of a seat that is inside a guard, and stays inside.
made_later : (w : Scene) (x : Step) (v made : View) (n : ℕ) → Knows w.core v → mover x ≡ v.who → MayByView w v x →
    MadeBy w x v made → w.core.guard n ≡ suc v.who → (next w x).core.guard n ≡ suc v.who → made.later ≡ v.later
made_later w (performs e) v made n k own may is inside still = ap (λ (y : View). y.later) is
    ∙ (made_still w.core v e not_in not_out).later
  where
    not_in : (s m : ℕ) → e ≢ Guard s m
    not_in s m guard = let shown = subst (Shows w.core v) guard may.1 in let out = shown.0.outside in
        let at = k.guard.inside n inside in omega arith

    not_out : (s m : ℕ) → e ≢ Unguard s m
    not_out s m out = let shown = subst (Shows w.core v) out may.1 in let there = shown.inside in
        let at = k.guard.inside n inside in let same : n ≡ m = omega arith in
        let gone : (after w.core (Unguard s m)).guard n ≡ 0 = ap (put w.core.guard m 0) same ∙
        put_here w.core.guard m 0 in
        let z : (after w.core (Unguard s m)).guard n ≡ suc v.who =
        subst (λ y. (after w.core y).guard n ≡ suc v.who) out still in omega arith
made_later w (leaves_to_sleep s m heeds) v made n k own may is inside still =
    let there = may.1.exit.inside in let at = k.guard.inside n inside in let same : n ≡ m = omega arith in
    let gone : (next w (leaves_to_sleep s m heeds)).core.guard n ≡ 0 =
    ap (put w.core.guard m 0) same ∙ put_here w.core.guard m 0 in absurd (omega arith)
made_later w (finds_no_sign s) v made n k own may is inside still =
    ⊎_elim (λ a. ap (λ (y : View). y.later) a) (λ a. ap (λ (y : View). y.later) a.1) is
made_later w _ v made n k own may is inside still = ap (λ (y : View). y.later) is

pub viewed_runs_ask : ViewedRunsAsk
viewed_runs_ask kind locks seats scene step view run i j s n heeds before enters stands inside leaves first =
    let below : s < seats = subst (λ x. mover x < seats) enters (run.seat i) in
    let who = λ (k : ℕ). (known_at k).who s below in
    let knows = λ (k : ℕ). knows_placed (scene k) (view k s) ((known_at k).placed s below) in
    let v = view i s in
    let waited : v.waits ≡ suc n = (knows i).queues.waits n
    (subst (Stands ((scene i).core.queue n)) (sym (who i)) stands) in
    let mine = run.mine i in
    let mover_is : mover (step i) ≡ s = ap mover enters in
    let entering : mine.0 ≡ view_after (scene i).core (Guard s n) v =
    subst (λ y. MadeBy (scene i) y (view i (mover y)) mine.0) enters mine.1 in
    let start : (view (suc i) s).later ≡ true = subst (λ t. (view (suc i) t).later ≡ true) mover_is
    ((found_on (scene (suc i)) mine.0 (view (suc i) (mover (step i))) mine.2).later
    ∙ ap (λ (y : View). y.later) entering ∙ looks_again v.waits n waited) in
    let later = holds_at (λ k. (view k s).later ≡ true) (suc i) j (omega arith) start
    (λ k from to still. on k from to still) in
    let w = view j s in let may = subst (λ x. MayByView (scene j) (view j (mover x)) x) leaves (run.may j) in
    let first' = subst (IsFirst ((scene j).core.queue n)) (sym (who j)) first in
    who_leaves_has_asked (scene j).core w n (knows j) may.1 may.2 later first'
  where
    known_at : (k : ℕ) → IsKnown kind locks seats scene step view run k
    known_at k = known kind locks seats scene step view run k

    seat_is : s < seats
    seat_is = subst (λ x. mover x < seats) enters (run.seat i)

    on : (k : ℕ) → suc i ≤ k → k < j → (view k s).later ≡ true → (view (suc k) s).later ≡ true
    on k from to still = let m = mover (step k) in let mine = run.mine k in dite (ℕ_discrete s m)
        (λ is. let v = view k m in let own = (known_at k).who m (run.seat k) in
        let at = λ (x : ℕ) (a : i < x) (b : x ≤ j). inside x a b ∙ ap suc (is ∙ sym own) in
        let made : mine.0.later ≡ v.later = made_later (scene k) (step k) v mine.0 n
        (knows_placed (scene k) v ((known_at k).placed m (run.seat k))) (sym own) (run.may k) mine.1
        (at k (omega arith) (omega arith))
        (subst (λ (y : Scene). y.core.guard n ≡ suc v.who) (run.goes_on k) (at (suc k) (omega arith) (omega arith))) in
        subst (λ t. (view (suc k) t).later ≡ true) (sym is)
        ((found_on (scene (suc k)) mine.0 (view (suc k) m) mine.2).later ∙ made
        ∙ subst (λ t. (view k t).later ≡ true) is still))
        (λ isnt. (found_on (scene (suc k)) (view k s) (view (suc k) s) (run.others k s seat_is isnt)).later ∙ still)

-- What every reached scene keeps.
use Rattle.std.proofs.Common.{◌≡◌, ◌≢◌, ◌⊎◌, inl, inr, ⊎_elim, ℕ, suc, Bool, true, false, Some, refl, sym, ap, ◌∙◌, subst, arith, true≢false}
use Rattle.std.proofs.lemmas.Bool.{cases_Bool}
use mathlib.Core.Logic.{dite}
use native.Mathlib.Decide.{ℕ_discrete}
use Rattle.ww_queue.specs.Queue.{Stands}
use Rattle.ww_model.specs.declared.state.Holder.TheVariants.{Taken}
use Rattle.ww_model.specs.declared.event.Event.{Event}
use Rattle.ww_model.specs.declared.event.Event.TheVariants.{Unguard}
use Rattle.ww_model.specs.State.{State, put, InsideNone}
use Rattle.ww_model.specs.Event.{after, actor}
use Rattle.ww_model.specs.Run.{Reached, at_start, further}
use Rattle.ww_model.proofs.Puts.{put_here, put_else, put_cases, put_was}
use Rattle.ww_model.proofs.Kept.{reached_is_lawful}
use Rattle.ww_model.proofs.Dues.{by_kind}
use Rattle.ww_model.proofs.FreeGuards.{free_guards_owe_nothing}
use Rattle.ww_model.proofs.Stays.{stands_stays, guard_stays}
use Rattle.ww_laws.specs.Scene.{Phase, acting, going_to_sleep, asleep, Scene, Step, performs, leaves_to_sleep, finds_no_sign, finds_no_cancel, wakes, falls_asleep, rises, MayPerform, MayLeaveToSleep, MayFallAsleep, May, next, woken_by, IsReached, begins, goes_on}
use Rattle.ww_laws.specs.Sleepers.{IsDue, IsAlerted, HasToWait, NoWakeIsLost, GuardsAreHeldAwake}
use Rattle.ww_laws.proofs.Woken.{due_or_not, due_stands, other_not_due, due_before, CancelsNot, others_cancel, uncancelled_before, still_unsigned, still_uncancelled, debt_was, debt_else, owing_more, owing_new, owing_was}

-- the seat was woken, or is to be
abbrev pub IsTold : Scene → ℕ → Type 0
IsTold w s = (w.token s ≡ true) ⊎ ((t : ℕ) × (w.owes t s ≡ true))

-- It stands in a list, outside all guards; and it was told, or has no sign, and no cancel that it would heed.
pub record Rests (c : State) (heeds : ℕ → Bool) (WasTold : Type 0) (s : ℕ) : Type 0 where
  pub lock : ℕ
  pub stands : Stands (c.queue lock) s
  pub outside : InsideNone c s
  pub quiet : WasTold ⊎ ((c.sign s ≡ 0) × (heeds s ≡ true → c.cancel s ≡ 0))

pub record IsOrderly (w : Scene) : Type 0 where
  pub reached : Reached w.core
  pub rests : (s : ℕ) → w.phase s ≢ acting → Rests w.core w.heeds (IsTold w s) s
  pub due : (s n : ℕ) → IsDue w.core s n → (w.phase s ≡ acting) ⊎ IsTold w s
  pub signs : (s : ℕ) → w.found_no_sign s ≡ true → IsTold w s ⊎ (w.core.sign s ≡ 0)
  pub cancels : (s : ℕ) → w.found_no_cancel s ≡ true → IsTold w s ⊎ (w.core.cancel s ≡ 0)
  pub debts : (s v : ℕ) → w.owes s v ≡ true → w.phase s ≢ asleep

-- ---- of facts

both : {A B C : Type 0} → A ⊎ B → A ⊎ C → A ⊎ (B × C)
both (inl a) q = inl a
both (inr b) q = ⊎_elim inl (λ c. inr (b, c)) q

implied : {A B : Type 0} (b : Bool) → (b ≡ true → A ⊎ B) → A ⊎ (b ≡ true → B)
implied true f = ⊎_elim inl (λ y. inr (λ _. y)) (f refl)
implied false f = inr (λ h. absurd (true≢false (sym h)))

told_too : {A B : Type 0} (c : State) (heeds : ℕ → Bool) (s : ℕ) → (A → B) → Rests c heeds A s → Rests c heeds B s
told_too c heeds s more x = record {
  lock = x.lock;
  stands = x.stands;
  outside = x.outside;
  quiet = ⊎_elim (λ told. inl (more told)) inr x.quiet;
}

-- a sleeper doesn't act
pub not_acting : (p : Phase) → p ≡ asleep → p ≢ acting
not_acting p sleeps acts = let z : ⊥ = cc in z

-- ---- an event of the core

module _ (w : Scene) (e : Event) where
  told_more : (t : ℕ) → IsTold w t → IsTold (next w (performs e)) t
  told_more t (inl h) = inl h
  told_more t (inr h) = inr (h.0, owing_more w.owes (actor e) (woken_by w.core e) h.0 t h.1)

  told_new : (t : ℕ) → woken_by w.core e ≡ Some t → IsTold (next w (performs e)) t
  told_new t is = inr (actor e, owing_new w.owes (actor e) (woken_by w.core e) t is)

  sign_on : (t : ℕ) → actor e ≢ t → IsTold w t ⊎ (w.core.sign t ≡ 0) → IsTold (next w (performs e)) t ⊎ ((after w.core e).sign t ≡ 0)
  sign_on t other (inl told) = inl (told_more t told)
  sign_on t other (inr none) = ⊎_elim inr (λ is. inl (told_new t is)) (still_unsigned w.core e t other none)

  cancel_on : (t : ℕ) → CancelsNot t e → IsTold w t ⊎ (w.core.cancel t ≡ 0) → IsTold (next w (performs e)) t
      ⊎ ((after w.core e).cancel t ≡ 0)
  cancel_on t other (inl told) = inl (told_more t told)
  cancel_on t other (inr none) = ⊎_elim inr (λ is. inl (told_new t is)) (still_uncancelled w.core e t other none)

performs_on : (w : Scene) (e : Event) → IsOrderly w → MayPerform w e → IsOrderly (next w (performs e))
performs_on w e o may = let c = w.core in let l = reached_is_lawful c o.reached in record {
  reached = further c e o.reached may.possible;
  rests = λ t rest. let x = o.rests t rest in
      let other : actor e ≢ t = (λ is. rest (ap w.phase (sym is) ∙ may.acts)) in record {
        lock = x.lock;
        stands = (stands_stays c e t other x.lock).0 x.stands;
        outside = λ m inside. x.outside m ((guard_stays c e t may.possible.base other m).1 inside);
        quiet = ⊎_elim (λ told. inl (told_more w e t told))
            (λ q. both (sign_on w e t other (inr q.0))
            (implied (w.heeds t) (λ h. cancel_on w e t (others_cancel e t other) (inr (q.1 h))))) x.quiet;
      };
  due = λ t n d. ⊎_elim (λ before. ⊎_elim inl (λ told. inr (told_more w e t told)) (o.due t n before))
      (λ is. inr (told_new w e t is)) (due_before c t n e may.possible.base l.base d);
  signs = λ t h. ⊎_elim (λ a. absurd (true≢false (sym a.1))) (λ a. sign_on w e t (λ is. a.0 (sym is)) (o.signs t a.1))
      (put_was w.found_no_sign (actor e) false t (λ b. b ≡ true) h);
  cancels = λ t h. let before = uncancelled_before w.found_no_cancel e t h in cancel_on w e t before.1 (o.cancels t before.0);
  debts = λ u v h. ⊎_elim (λ new slept. not_acting (w.phase u) slept (ap w.phase new.0 ∙ may.acts)) (o.debts u v)
      (owing_was w.owes (actor e) (woken_by c e) u v h);
}

-- ---- a waiter leaves the guard in order to sleep

module _ (w : Scene) (s n : ℕ) (heeds : Bool) (o : IsOrderly w) (may : MayLeaveToSleep w s n heeds) where
  -- in Wound-Wait, if its entry says that it holds locks, it can be wounded and has just looked; else nobody signs it
  unsigned_there : IsTold w s ⊎ (w.core.sign s ≡ 0)
  unsigned_there = let c = w.core in let l = reached_is_lawful c o.reached in
      let h = may.waits in let e = h.0 in let q = l.base.queues.at n in
      by_kind c.kind (IsTold w s ⊎ (c.sign s ≡ 0))
      (λ wounding. ⊎_elim
      (λ is. let own = q.holds e h.1 is in o.signs s (may.unsigned (record {
        kind = wounding;
        context = dite (ℕ_discrete (c.stamp s) 0)
            (λ z. absurd (l.base.solos.none_queued n own.0 e h.1 (ap c.stamp h.2 ∙ z) own.1)) (λ z. omega arith);
        owns = (own.0, own.1 ∙ ap Taken h.2);
      })))
      (λ is. inr (ap c.sign (sym h.2) ∙ l.signs.signs.unowning wounding n e h.1 (q.holds_not e h.1 is)))
      (cases_Bool e.holds))
      (λ dying. inr ((may.possible.signs.safe dying).unsigned))

  leaves_on : IsOrderly (next w (leaves_to_sleep s n heeds))
  leaves_on = let c = w.core in let l = reached_is_lawful c o.reached in let can = may.possible.base in
      let d = after c (Unguard s n) in let heeds' = put w.heeds s heeds in record {
        reached = further c (Unguard s n) o.reached may.possible;
        rests = λ t. put_cases w.phase s going_to_sleep t (λ p. p ≢ acting → Rests d heeds' (IsTold w t) t)
            (λ is _. subst (λ x. Rests d heeds' (IsTold w x) x) (sym is) (record {
              lock = n;
              stands = may.waits;
              outside = λ m. put_cases c.guard n 0 m (λ g. g ≢ suc s) (λ _ z. omega arith)
                  (λ isnt z. isnt (l.base.guards.one_guard s m n z can.inside.guard));
              quiet = both unsigned_there
                  (implied (heeds' s) (λ h. o.cancels s (may.uncancelled (sym (put_here w.heeds s heeds) ∙ h))));
            }))
            (λ isnt rest. let x = o.rests t rest in record {
              lock = x.lock;
              stands = x.stands;
              outside = λ m. put_cases c.guard n 0 m (λ g. g ≢ suc t) (λ _ z. omega arith) (λ _. x.outside m);
              quiet = ⊎_elim inl (λ q. inr (q.0, λ h. q.1 (sym (put_else w.heeds s heeds t isnt) ∙ h))) x.quiet;
            });
        due = λ t m there. ⊎_elim
            (λ acts. dite (ℕ_discrete t s)
            (λ is. let mine = subst (λ x. IsDue c x m) is there in let h = due_stands c l.base s m mine in
            let same : m ≡ n = l.base.queues.one_queue m n h.0 may.waits.0 h.1 may.waits.1 (h.2 ∙ sym may.waits.2) in
            absurd (other_not_due c s n (can.contended may.waits) (subst (IsDue c s) same mine)))
            (λ isnt. inl (put_else w.phase s going_to_sleep t isnt ∙ acts)))
            inr (o.due t m there);
        signs = o.signs;
        cancels = o.cancels;
        debts = λ u v h. put_cases w.phase s going_to_sleep u (λ p. p ≢ asleep) (λ _ z. let x : ⊥ = cc in x) (λ _. o.debts u v h);
      }

-- ---- a wake

wakes_on : (w : Scene) (s v : ℕ) → IsOrderly w → IsOrderly (next w (wakes s v))
wakes_on w s v o = record {
  reached = o.reached;
  rests = λ t rest. told_too w.core w.heeds t (still t) (o.rests t rest);
  due = λ t n d. ⊎_elim inl (λ told. inr (still t told)) (o.due t n d);
  signs = λ t h. ⊎_elim (λ told. inl (still t told)) inr (o.signs t h);
  cancels = λ t h. ⊎_elim (λ told. inl (still t told)) inr (o.cancels t h);
  debts = λ u x h. ⊎_elim (λ paid. absurd (true≢false (sym paid.2))) (o.debts u x) (debt_was w.owes s v false u x h);
}
  where
    still : (t : ℕ) → IsTold w t → IsTold (next w (wakes s v)) t
    still t (inl h) = inl (put_cases w.token v true t (λ b. b ≡ true) (λ _. refl) (λ _. h))
    still t (inr h) = dite (ℕ_discrete t v) (λ is. inl (ap (put w.token v true) is ∙ put_here w.token v true))
        (λ isnt. inr (h.0, debt_else w.owes s v false h.0 t isnt h.1))

-- ---- a seat falls asleep, and rises

falls_on : (w : Scene) (s : ℕ) → IsOrderly w → MayFallAsleep w s → IsOrderly (next w (falls_asleep s))
falls_on w s o may = record {
  reached = o.reached;
  rests = λ t. put_cases w.phase s asleep t (λ p. p ≢ acting → Rests w.core w.heeds (IsTold w t) t)
      (λ is _. o.rests t (late t is)) (λ _. o.rests t);
  due = λ t n d. ⊎_elim (λ acts. inl (put_else w.phase s asleep t (λ is. late t is acts) ∙ acts)) inr (o.due t n d);
  signs = o.signs;
  cancels = o.cancels;
  debts = λ u v h. put_cases w.phase s asleep u (λ p. p ≢ asleep)
      (λ is _. true≢false (sym (subst (λ x. w.owes x v ≡ true) is h) ∙ may.paid v)) (λ _. o.debts u v h);
}
  where
    late : (t : ℕ) → t ≡ s → w.phase t ≢ acting
    late t is acts = let p = ap w.phase is in let r = may.ready in let z : ⊥ = cc in z

rises_on : (w : Scene) (s : ℕ) → IsOrderly w → IsOrderly (next w (rises s))
rises_on w s o = record {
  reached = o.reached;
  rests = λ t. put_cases w.phase s acting t (λ p. p ≢ acting → Rests w.core w.heeds (IsTold (next w (rises s)) t) t)
      (λ _ not. absurd (not refl)) (λ isnt rest. told_too w.core w.heeds t (still t isnt) (o.rests t rest));
  due = λ t n d. dite (ℕ_discrete t s)
      (λ is. inl (ap (put w.phase s acting) is ∙ put_here w.phase s acting))
      (λ isnt. ⊎_elim (λ acts. inl (put_else w.phase s acting t isnt ∙ acts)) (λ told. inr (still t isnt told)) (o.due t n d));
  signs = λ t h. found t w.found_no_sign (w.core.sign t ≡ 0) (o.signs t) h;
  cancels = λ t h. found t w.found_no_cancel (w.core.cancel t ≡ 0) (o.cancels t) h;
  debts = λ u v h. put_cases w.phase s acting u (λ p. p ≢ asleep) (λ _ z. let x : ⊥ = cc in x) (λ _. o.debts u v h);
}
  where
    still : (t : ℕ) → t ≢ s → IsTold w t → IsTold (next w (rises s)) t
    still t isnt (inl h) = inl (put_else w.token s false t isnt ∙ h)
    still t isnt (inr h) = inr h

    found : (t : ℕ) (f : ℕ → Bool) (P : Type 0) → (f t ≡ true → IsTold w t ⊎ P) → put f s false t ≡ true → IsTold (next w (rises s)) t ⊎ P
    found t f P before h = ⊎_elim (λ a. absurd (true≢false (sym a.1)))
        (λ a. ⊎_elim (λ told. inl (still t a.0 told)) inr (before a.1)) (put_was f s false t (λ b. b ≡ true) h)

-- ---- every step

steps_on : (w : Scene) (step : Step) → IsOrderly w → May w step → IsOrderly (next w step)
steps_on w (performs e) o may = performs_on w e o may
steps_on w (leaves_to_sleep s n heeds) o may = leaves_on w s n heeds o may
steps_on w (finds_no_sign s) o may = record {
  reached = o.reached;
  rests = o.rests;
  due = o.due;
  signs = λ t. put_cases w.found_no_sign s true t (λ b. b ≡ true → IsTold w t ⊎ (w.core.sign t ≡ 0))
      (λ is _. inr (ap w.core.sign is ∙ may.1)) (λ _. o.signs t);
  cancels = o.cancels;
  debts = o.debts;
}
steps_on w (finds_no_cancel s) o may = record {
  reached = o.reached;
  rests = o.rests;
  due = o.due;
  signs = o.signs;
  cancels = λ t. put_cases w.found_no_cancel s true t (λ b. b ≡ true → IsTold w t ⊎ (w.core.cancel t ≡ 0))
      (λ is _. inr (ap w.core.cancel is ∙ may.1)) (λ _. o.cancels t);
  debts = o.debts;
}
steps_on w (wakes s v) o may = wakes_on w s v o
steps_on w (falls_asleep s) o may = falls_on w s o may
steps_on w (rises s) o may = rises_on w s o

pub reached_is_orderly : (w : Scene) → IsReached w → IsOrderly w
reached_is_orderly _ (begins kind locks seats) = record {
  reached = at_start kind locks seats;
  rests = λ s rest. absurd (rest refl);
  due = λ s n d. inl refl;
  signs = λ s h. absurd (true≢false (sym h));
  cancels = λ s h. absurd (true≢false (sym h));
  debts = λ s v h. absurd (true≢false (sym h));
}
reached_is_orderly _ (goes_on w step r may) = steps_on w step (reached_is_orderly w r) may

-- ---- no wake is lost

pub alerted : (w : Scene) → IsOrderly w → (s : ℕ) → IsTold w s → IsAlerted w s
alerted w o s (inl h) = inl h
alerted w o s (inr h) = inr (h.0, h.1, o.debts h.0 s h.1)

pub orderly_sleep : (w : Scene) → IsOrderly w → (s : ℕ) → w.phase s ≡ asleep → IsAlerted w s ⊎ HasToWait w s
orderly_sleep w o s slept = let c = w.core in let l = reached_is_lawful c o.reached in
    let awake = not_acting (w.phase s) slept in let x = o.rests s awake in ⊎_elim
    (λ told. inl (alerted w o s told))
    (λ quiet. ⊎_elim
    (λ due. ⊎_elim (λ acts. absurd (awake acts)) (λ told. inl (alerted w o s told)) (o.due s x.lock due))
    (λ not. inr (record {
      lock = x.lock;
      stands = x.stands;
      outside = x.outside;
      not_due = λ n due. let h = due_stands c l.base s n due in
          let same : n ≡ x.lock = l.base.queues.one_queue n x.lock h.0 x.stands.0 h.1 x.stands.1 (h.2 ∙ sym x.stands.2) in
          not (subst (IsDue c s) same due);
      unsigned = quiet.0;
      not_condemned = λ condemned. let z = condemned.signed in let y = quiet.0 in omega arith;
      needs_not_die = λ dying free must. let z = free_guards_owe_nothing c l dying x.lock s free must in let y = quiet.0 in omega arith;
      uncancelled = quiet.1;
    }))
    (due_or_not (c.owner x.lock) (c.queue x.lock) s))
    x.quiet

pub no_wake_is_lost : NoWakeIsLost
no_wake_is_lost w r s slept = orderly_sleep w (reached_is_orderly w r) s slept

acts_or_not : (p : Phase) → (p ≡ acting) ⊎ (p ≢ acting)
acts_or_not acting = inl refl
acts_or_not going_to_sleep = inr (λ is. let z : ⊥ = cc in z)
acts_or_not asleep = inr (λ is. let z : ⊥ = cc in z)

pub guards_are_held_awake : GuardsAreHeldAwake
guards_are_held_awake w r s n inside = ⊎_elim (λ acts. acts)
    (λ isnt. absurd (((reached_is_orderly w r).rests s isnt).outside n inside)) (acts_or_not (w.phase s))

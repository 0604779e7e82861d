-- Who waits for an owner that waits itself: one of the two stops waiting, if it is the younger that Wound-Wait wounds,
-- or the younger that has to die in Wait-Die.
use Rattle.std.proofs.Common.{◌≡◌, ◌≢◌, ◌⊎◌, inl, inr, ⊎_elim, ℕ, suc, ◌<◌, ◌≤◌, true, false, refl, sym, ◌∙◌, subst, arith, true≢false}
use Rattle.std.specs.Option.{IsSome}
use Rattle.std.proofs.lemmas.Bool.{cases_Bool}
use mathlib.Core.Logic.{dite}
use native.Mathlib.Decide.{ℕ_discrete}
use Rattle.ww_queue.specs.declared.kind.Kind.TheVariants.{WoundWait, WaitDie}
use Rattle.ww_queue.specs.declared.entry.Entry.{Entry}
use Rattle.ww_queue.specs.Queue.{Has}
use Rattle.ww_model.specs.declared.state.Holder.TheVariants.{Taken}
use Rattle.ww_model.specs.declared.event.Event.TheVariants.{Guard}
use Rattle.ww_model.specs.State.{State}
use Rattle.ww_model.specs.Lawful.{IsLawful}
use Rattle.ww_model.proofs.Puts.{put_here}
use Rattle.ww_model.proofs.Dues.{by_kind, dies_younger}
use Rattle.ww_laws.specs.Scene.{acting, Scene, Step, performs, leaves_to_sleep, CanBeWounded}
use Rattle.ww_laws.specs.Sleepers.{IsEndlessRun}
use Rattle.ww_laws.proofs.Keeping.{IsTold}
use Rattle.ww_laws.specs.Premises.{WaiterGoesOn, WaitersGoOn}
use Rattle.ww_laws.specs.GoingOn.{EndsWait, WoundedWaitNoMore}
use Rattle.ww_laws.proofs.Steps.{not_found, signed_next, taken_next}
use Rattle.ww_laws.proofs.Runs.{phase_is, IsCalled, number_is, Stays, Ended, ended_from, until_at, enters, orderly_at, lawful_at, known_next, kind_at, seat_comes_in, seat_goes_out, along}

-- it acts, or was told where it doesn't
pub called_if : (w : Scene) (s : ℕ) → (w.phase s ≢ acting → IsTold w s) → IsCalled w s
called_if w s told = ⊎_elim inl (λ not. inr
    (told (λ acts. ⊎_elim (λ z. let p = acts in cc) (λ z. let p = acts in cc) not))) (phase_is (w.phase s))

-- a waiter that is signed in Wound-Wait can be wounded
can_be : (c : State) → IsLawful c → c.kind ≡ WoundWait → (e : Entry) (n : ℕ) → Has (c.queue n) e → 0 < c.sign e.seat →
    CanBeWounded c e.seat
can_be c l wounding e n h signed = let q = l.base.queues.at n in ⊎_elim
    (λ is. let own = q.holds e h is in record {
      kind = wounding;
      context = dite (ℕ_discrete (c.stamp e.seat) 0) (λ z. absurd (l.base.solos.none_queued n own.0 e h z own.1))
          (λ z. omega arith);
      owns = own;
    })
    (λ isnt. let none = l.signs.signs.unowning wounding n e h (q.holds_not e h isnt) in absurd (omega arith))
    (cases_Bool e.holds)

-- a waiter that holds locks, at a lock whose owner waits too: the younger is wounded in Wound-Wait, or dies in Wait-Die
pub record Link (c : State) : Type 0 where
  pub waiter : Entry
  pub lock : ℕ
  pub stands : Has (c.queue lock) waiter
  pub holds : waiter.holds ≡ true
  pub context : 0 < waiter.stamp
  pub owner : Entry
  pub place : ℕ
  pub waits : Has (c.queue place) owner
  pub owns : c.owner lock ≡ Taken owner.seat
  pub wounds : c.kind ≡ WoundWait → waiter.stamp < owner.stamp
  pub dies : c.kind ≡ WaitDie → (0 < owner.stamp) × (owner.stamp < waiter.stamp)

-- the owner is inside no guard of the lock
owner_out : (c : State) → IsLawful c → (f : Entry) (n m : ℕ) → Has (c.queue m) f → c.owner n ≡ Taken f.seat →
    c.guard n ≢ suc f.seat
owner_out c l f n m h own inside = let at : m ≡ n = l.base.guards.own_guard m n f h inside in
    (l.base.owners.at n).taken_stands_not f.seat own f (subst (λ k. Has (c.queue k) f) at h) refl

-- in Wound-Wait an owner that waits is signed, where an older holder waits for it outside the guard
owner_signed : (c : State) → IsLawful c → c.kind ≡ WoundWait → (e f : Entry) (n m : ℕ) → Has (c.queue n) e →
    e.holds ≡ true → 0 < e.stamp →
    Has (c.queue m) f → c.owner n ≡ Taken f.seat → e.stamp < f.stamp → c.guard n ≢ suc e.seat → 0 < c.sign f.seat
owner_signed c l wounding e f n m h holds context h' own older out = let same = (l.base.queues.at m).stamps f h' in
    l.signs.wounds wounding n f.seat e own (owner_out c l f n m h' own) h out holds context (omega arith)

module _ (scene : ℕ → Scene) (step : ℕ → Step) (run : IsEndlessRun scene step) where
  signed_called : (i s : ℕ) → 0 < (scene i).core.sign s → IsCalled (scene i) s
  signed_called i s signed = called_if (scene i) s
      (λ rest. ⊎_elim (λ told. told) (λ quiet. let z = quiet.0 in absurd (omega arith))
      ((orderly_at scene step run i).rests s rest).quiet)

  signed_on : (e : Entry) (n i j : ℕ) → i ≤ j → Stays scene step e n i j → (scene i).core.kind ≡ WoundWait →
      0 < (scene i).core.sign e.seat →
      0 < (scene j).core.sign e.seat
  signed_on e n i j later stays wounding signed = along scene step run (λ w. 0 < w.core.sign e.seat) i j later signed
      (λ k from below. signed_next (scene k) (step k) e.seat n (run.may k) (kind_at scene step run i k from ∙ wounding)
      (e, stays.here k from (omega arith), refl))

  -- ---- a waiter that is signed in Wound-Wait stops waiting

  -- which went inside with a sign
  wounded_inside : (e : Entry) → WaiterGoesOn scene step e.seat → (n i : ℕ) → (scene i).core.kind ≡ WoundWait →
      Has ((scene i).core.queue n) e → 0 < (scene i).core.sign e.seat →
      (scene i).core.guard n ≡ suc e.seat → (scene i).found_no_sign e.seat ≡ false → Ended scene step e n i
  wounded_inside e go n i wounding h signed inside none = ⊎_elim (λ ended. ended)
      (λ z. let j = z.at in let later = z.later in
      let still = λ (k : ℕ) (from : i ≤ k) (to : k ≤ j). signed_on e n i k from
      (record { here = λ x a b. z.stays.here x a (omega arith); on = λ x a b. z.stays.on x a (omega arith) }) wounding
      signed in
      let unfound = along scene step run (λ w. w.found_no_sign e.seat ≡ false) i j later none
      (λ k from below. not_found (scene k) (step k) e.seat (run.may k) (still k from (omega arith))) in
      absurd (true≢false (sym (z.may.unsigned (can_be (scene j).core (lawful_at scene step run j)
      (kind_at scene step run i j later ∙ wounding)
      e n (z.stays.here j later (omega arith)) (still j later (omega arith)))) ∙ unfound)))
      (seat_goes_out scene step run e go n i h inside)

  wounded_outside : (e : Entry) → WaiterGoesOn scene step e.seat → (n i : ℕ) → (scene i).core.kind ≡ WoundWait →
      Has ((scene i).core.queue n) e → 0 < (scene i).core.sign e.seat →
      (scene i).core.guard n ≢ suc e.seat → Ended scene step e n i
  wounded_outside e go n i wounding h signed out = ⊎_elim (λ ended. ended)
      (λ z. let in_it = enters scene step run e n i out z in let k = in_it.at in let from = in_it.from in
      ended_from scene step e n i (suc k) (omega arith) in_it.stays (wounded_inside e go n (suc k)
      (kind_at scene step run i (suc k) (omega arith) ∙ wounding) (in_it.stays.here (suc k) (omega arith) (omega arith))
      (signed_on e n i (suc k) (omega arith) in_it.stays wounding signed) in_it.inside
      (known_next scene step run (λ w. w.found_no_sign e.seat ≡ false) k (performs (Guard e.seat n)) in_it.how
      (put_here (scene k).found_no_sign e.seat false))))
      (seat_comes_in scene step run e go n i h (signed_called i e.seat signed))

  pub wounded : (e : Entry) → WaiterGoesOn scene step e.seat → (n i : ℕ) → (scene i).core.kind ≡ WoundWait →
      Has ((scene i).core.queue n) e → 0 < (scene i).core.sign e.seat →
      Ended scene step e n i
  wounded e go n i wounding h signed = ⊎_elim
      (λ inside. ⊎_elim (λ ended. ended)
      (λ z. let k = z.at in let later = z.later in ⊎_elim (λ ended. ended)
      (λ stays. ended_from scene step e n i (suc k) (omega arith) stays (wounded_outside e go n (suc k)
      (kind_at scene step run i (suc k) (omega arith) ∙ wounding) (stays.here (suc k) (omega arith) (omega arith))
      (signed_on e n i (suc k) (omega arith) stays wounding signed)
      (λ y. let free = known_next scene step run (λ w. w.core.guard n ≡ 0) k (leaves_to_sleep e.seat n z.heeds) z.how
      (put_here (scene k).core.guard n 0) in omega arith)))
      (until_at scene step e n i (suc k) (omega arith) run h))
      (seat_goes_out scene step run e go n i h inside))
      (λ out. wounded_outside e go n i wounding h signed out)
      (number_is ((scene i).core.guard n) (suc e.seat))

  -- ---- a link is broken

  abbrev pub Broken : ℕ → Entry → ℕ → Entry → ℕ → Type 0
  Broken i e n f m = Ended scene step e n i ⊎ Ended scene step f m i

  taken_on : (f : Entry) (n m i j : ℕ) → i ≤ j → Stays scene step f m i j → (scene i).core.owner n ≡ Taken f.seat →
      (scene j).core.owner n ≡ Taken f.seat
  taken_on f n m i j later stays own = along scene step run (λ w. w.core.owner n ≡ Taken f.seat) i j later own
      (λ k from below before. taken_next (scene k) (step k) f.seat n m (run.may k) (lawful_at scene step run k).base
      before (f, stays.here k from (omega arith), refl))

  wounds : (i : ℕ) → (scene i).core.kind ≡ WoundWait → (k : Link (scene i).core) →
      WaiterGoesOn scene step k.waiter.seat →
      WaiterGoesOn scene step k.owner.seat → Broken i k.waiter k.lock k.owner k.place
  wounds i wounding k go go' = let e = k.waiter in let f = k.owner in let n = k.lock in let m = k.place in ⊎_elim
      (λ inside. ⊎_elim inl
      (λ z. let j = z.at in let later = z.later in ⊎_elim inr
      (λ fs. ⊎_elim inl
      (λ es. let d = (scene (suc j)).core in let h = es.here (suc j) (omega arith) (omega arith) in
      let h' = fs.here (suc j) (omega arith) (omega arith) in
      let kind = kind_at scene step run i (suc j) (omega arith) ∙ wounding in
      inr (ended_from scene step f m i (suc j) (omega arith) fs (wounded f go' m (suc j) kind h'
      (owner_signed d (lawful_at scene step run (suc j)) kind e f n m h k.holds k.context h'
      (taken_on f n m i (suc j) (omega arith) fs k.owns) (k.wounds wounding)
      (λ y. let free = known_next scene step run (λ w. w.core.guard n ≡ 0) j (leaves_to_sleep e.seat n z.heeds) z.how
      (put_here (scene j).core.guard n 0) in omega arith)))))
      (until_at scene step e n i (suc j) (omega arith) run k.stands))
      (until_at scene step f m i (suc j) (omega arith) run k.waits))
      (seat_goes_out scene step run e go n i k.stands inside))
      (λ out. inr (wounded f go' m i wounding k.waits
      (owner_signed (scene i).core (lawful_at scene step run i) wounding e f n m
      k.stands k.holds k.context k.waits k.owns (k.wounds wounding) out)))
      (number_is ((scene i).core.guard n) (suc e.seat))

  dying : (i : ℕ) → (scene i).core.kind ≡ WaitDie → (k : Link (scene i).core) → WaiterGoesOn scene step k.waiter.seat →
      Broken i k.waiter k.lock k.owner k.place
  dying i kind k go = let e = k.waiter in let f = k.owner in let n = k.lock in let m = k.place in
      let c = (scene i).core in
      let l = lawful_at scene step run i in let older = k.dies kind in let some = older.0 in let younger = older.1 in
      let called : IsCalled (scene i) e.seat = called_if (scene i) e.seat
      (λ rest. let r = (orderly_at scene step run i).rests e.seat rest in ⊎_elim (λ told. told)
      (λ quiet. let none = quiet.0 in let same = (l.base.queues.at m).stamps f k.waits in
      let signed = (l.signs.deaths kind n).younger_signed f.seat e k.owns (omega arith)
      (owner_out c l f n m k.waits k.owns) k.stands
      (r.outside n) k.holds (omega arith) in absurd (omega arith)) r.quiet) in
      ⊎_elim inl
      (λ come. let j = come.at in let later = come.later in
      ⊎_elim (λ ended. inl (ended_from scene step e n i j later come.stays ended))
      (λ z. let x = z.at in let on = z.later in ⊎_elim inr
      (λ fs. let d = (scene x).core in let l' = lawful_at scene step run x in
      let kind' = kind_at scene step run i x (omega arith) ∙ kind in
      let h = z.stays.here x on (omega arith) in let h' = fs.here x (omega arith) (omega arith) in
      let same = (l'.base.queues.at m).stamps f h' in let own = taken_on f n m i x (omega arith) fs k.owns in
      let must = dies_younger d n e kind' (l'.base.queues.at n).once h k.context k.holds f.seat own
      (λ is. (l'.base.owners.at n).taken_stands_not f.seat own e h (sym is)) (omega arith) (omega arith) in
      let lives = (z.may.possible.signs.safe kind').lives in absurd (true≢false (sym (subst IsSome lives must))))
      (until_at scene step f m i x (omega arith) run k.waits))
      (seat_goes_out scene step run e go n j (come.stays.here j later (omega arith)) come.inside))
      (seat_comes_in scene step run e go n i k.stands called)

  -- one of the two stops waiting
  pub these_break : (i : ℕ) → (k : Link (scene i).core) → WaiterGoesOn scene step k.waiter.seat →
      WaiterGoesOn scene step k.owner.seat →
      Broken i k.waiter k.lock k.owner k.place
  these_break i k go go' = by_kind (scene i).core.kind (Broken i k.waiter k.lock k.owner k.place)
      (λ kind. wounds i kind k go go') (λ kind. dying i kind k go)

pub link_breaks : (scene : ℕ → Scene) (step : ℕ → Step) (run : IsEndlessRun scene step) → WaitersGoOn scene step →
    (i : ℕ) →
    (k : Link (scene i).core) →
    Broken scene step run i k.waiter k.lock k.owner k.place
link_breaks scene step run go i k = these_break scene step run i k (go k.waiter.seat) (go k.owner.seat)

pub wounded_wait_no_more : WoundedWaitNoMore
wounded_wait_no_more scene step run i s n go wounding h signed =
    let end = wounded scene step run h.0 (subst (WaiterGoesOn scene step) (sym h.2) go) n i wounding h.1 (subst
    (λ x. 0 < (scene i).core.sign x) (sym h.2) signed) in
    (end.at, end.later, subst (λ x. EndsWait x n (step end.at)) h.2 end.ends)

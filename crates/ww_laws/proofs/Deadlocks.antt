-- Each deadlock is resolved.
use Rattle.std.proofs.Common.{◌≡◌, ◌⊎◌, inl, inr, ⊎_elim, ℕ, ◌≤◌, List, [], ◌∷◌, refl, sym, ap, ◌∙◌, subst, arith}
use mathlib.Core.Logic.{dite}
use native.Mathlib.Decide.{ℕ_discrete}
use Rattle.ww_queue.specs.declared.entry.Entry.{Entry}
use Rattle.ww_queue.specs.Queue.{Has, Stands}
use Rattle.ww_model.specs.declared.state.Holder.TheVariants.{Taken, Handed}
use Rattle.ww_model.specs.declared.event.Event.TheVariants.{Take, Die, Leave}
use Rattle.ww_model.specs.State.{State}
use Rattle.ww_model.specs.Event.{Possible}
use Rattle.ww_model.specs.Lawful.{IsLawful}
use Rattle.ww_model.specs.Waits.{IsOneOf, Leads, WaitsFor}
use Rattle.ww_laws.specs.Scene.{Scene, Step, performs, May, next}
use Rattle.ww_laws.specs.Sleepers.{IsEndlessRun}
use Rattle.ww_laws.specs.GoingOn.{GivesUp, IsStuck, IsResolved, NoDeadlockLasts, CyclesAreBroken, EndsWait, AreDeadlocked}
use Rattle.ww_laws.proofs.Steps.{entry_next, taken_next}
use Rattle.ww_laws.proofs.Endless.{unless}
use Rattle.ww_laws.proofs.Runs.{Ended, lawful_at, made_next, may_be}
use Rattle.ww_laws.proofs.Links.{these_break}
use Rattle.ww_laws.proofs.Climbs.{Onward, climb}

-- ---- whether one of the seats gives up

one_or_not : (s : ℕ) (seats : List ℕ) → IsOneOf s seats ⊎ (IsOneOf s seats → ⊥)
one_or_not s [] = inr (λ one. one)
one_or_not s (t ∷ ts) = dite (ℕ_discrete s t) (λ is. inl (inl is))
    (λ isnt. ⊎_elim (λ later. inl (inr later)) (λ none. inr (⊎_elim isnt none)) (one_or_not s ts))

abbrev Resolves : List ℕ → Step → Type 0
Resolves seats x = (s : ℕ) × IsOneOf s seats × GivesUp s x

resolves_or_not : (seats : List ℕ) (x : Step) → Resolves seats x ⊎ (Resolves seats x → ⊥)
resolves_or_not seats (performs (Die t m)) = ⊎_elim (λ one. inl (t, one, (m, inl refl)))
    (λ none. inr (λ r. none (⊎_elim (λ is. let same : r.0 ≡ t = cc in subst (λ y. IsOneOf y seats) same r.1)
    (λ is. absurd (cc)) r.2.1)))
    (one_or_not t seats)
resolves_or_not seats (performs (Leave t m)) = ⊎_elim (λ one. inl (t, one, (m, inr refl)))
    (λ none. inr (λ r. none (⊎_elim (λ is. absurd (cc)) (λ is. let same : r.0 ≡ t = cc in
    subst (λ y. IsOneOf y seats) same r.1) r.2.1)))
    (one_or_not t seats)
resolves_or_not seats _ = inr (λ r. ⊎_elim (λ is. cc) (λ is. cc) r.2.1)

-- ---- the seats stay as they are until one gives up

abbrev AllStuck : State → List ℕ → Type 0
AllStuck c seats = (s : ℕ) → IsOneOf s seats → IsStuck c seats s

-- the lock can't be taken
not_taken : (c : State) (s t n : ℕ) → c.owner n ≡ Taken t → Possible c (Take s n) → ⊥
not_taken c s t n own can = ⊎_elim (λ free. cc) (λ handed. cc) can.base.free

-- nothing that leaves the seats unresolved ends the wait of one
no_end : (w : Scene) (x : Step) (seats : List ℕ) (s t n : ℕ) → May w x → w.core.owner n ≡ Taken t → IsOneOf s seats →
    (Resolves seats x → ⊥) → EndsWait s n x → ⊥
no_end w x seats s t n may own one none (inl take) = not_taken w.core s t n own (subst (May w) take may).possible
no_end w x seats s t n may own one none (inr (inl dies)) = none (s, one, (n, inl dies))
no_end w x seats s t n may own one none (inr (inr leaves)) = none (s, one, (n, inr leaves))

stuck_next : (w : Scene) (x : Step) (seats : List ℕ) → May w x → IsLawful w.core → (Resolves seats x → ⊥) →
    AllStuck w.core seats →
    AllStuck (next w x).core seats
stuck_next w x seats may l none all s one = let a = all s one in let t = a.0 in let n = a.2.0 in let h = a.2.1 in
    let own = a.2.2 in
    let b = all t a.1 in let m = b.2.0 in (
      t,
      a.1,
      (
        n,
        (
          h.0,
          entry_next w x h.0 n (λ ends. no_end w x seats s t n may own one none
              (subst (λ y. EndsWait y n x) h.2 ends)) h.1,
          h.2,
        ),
        taken_next w x t n m may l.base own b.2.1,
      ),
    )

module _ (scene : ℕ → Scene) (step : ℕ → Step) (run : IsEndlessRun scene step) (seats : List ℕ) (i : ℕ) where
  stuck_at : (j : ℕ) → i ≤ j → AllStuck (scene i).core seats → IsResolved step i seats ⊎ AllStuck (scene j).core seats
  stuck_at j later all = ⊎_elim (λ f. inl (f.at, f.from, f.holds)) inr
      (unless (λ k. Resolves seats (step k)) (λ k. AllStuck (scene k).core seats) i j later all
      (λ k from below still. ⊎_elim inl
      (λ none. inr (made_next scene step run (λ w. AllStuck w.core seats) k
      (stuck_next (scene k) (step k) seats (run.may k) (lawful_at scene step run k) none still)))
      (resolves_or_not seats (step k))))

  -- the wait of one of the seats ends: that it takes the lock can't be
  ends : (e : Entry) (n : ℕ) → AllStuck (scene i).core seats → IsOneOf e.seat seats → Ended scene step e n i →
      IsResolved step i seats
  ends e n all one end = let j = end.at in let later = end.later in ⊎_elim (λ r. r)
      (λ still. ⊎_elim
      (λ take. let a = still e.seat one in let h = a.2.1 in let l = lawful_at scene step run j in
      let at : a.2.0 ≡ n = l.base.queues.one_queue a.2.0 n h.0 e h.1 (end.stays.here j later (omega arith)) h.2 in
      absurd (not_taken (scene j).core e.seat a.0 n (ap (scene j).core.owner (sym at) ∙ a.2.2)
      (may_be scene step run j (performs
      (Take e.seat n)) take).possible))
      (⊎_elim (λ dies. (j, later, (e.seat, one, (n, inl dies)))) (λ leaves. (j, later, (e.seat, one, (n, inr leaves)))))
      end.ends)
      (stuck_at j later all)

-- ---- one gives up

onward : (c : State) (l : IsLawful c) (seats : List ℕ) → AllStuck c seats → (e : Entry) (n : ℕ) → Has (c.queue n) e →
    IsOneOf e.seat seats →
    ⊥ ⊎ Onward c (λ s. IsOneOf s seats) n
onward c l seats all e n h one = let a = all e.seat one in let k = a.2.1 in let b = all a.0 a.1 in let f = b.2.1 in
    let at : a.2.0 ≡ n = l.base.queues.one_queue a.2.0 n k.0 e k.1 h k.2 in inr (record {
      owner = f.0;
      place = b.2.0;
      waits = f.1;
      owns = ap c.owner (sym at) ∙ a.2.2 ∙ ap Taken (sym f.2);
      such = subst (λ s. IsOneOf s seats) (sym f.2) a.1;
    })

pub no_deadlock_lasts : NoDeadlockLasts
no_deadlock_lasts scene step run i seats go dead = let c = (scene i).core in let l = lawful_at scene step run i in
    let first = dead.stuck dead.some.0 dead.some.1 in let h = first.2.1 in ⊎_elim absurd
    (λ found. ⊎_elim
    (ends scene step run seats i found.link.waiter found.link.lock dead.stuck found.waiter)
    (ends scene step run seats i found.link.owner found.link.place dead.stuck found.owner)
    (these_break scene step run i found.link (go found.link.waiter.seat found.waiter)
    (go found.link.owner.seat found.owner)))
    (climb c l (λ s. IsOneOf s seats) ⊥ (onward c l seats dead.stuck) h.0 first.2.0 h.1
    (subst (λ s. IsOneOf s seats) (sym h.2) dead.some.1))

-- ---- a cycle of waits is a deadlock

-- each of a chain waits for the next, or for the last
Waits : State → List ℕ → ℕ → ℕ → Type 0
Waits c bs z x = (y : ℕ) × (IsOneOf y bs ⊎ (y ≡ z)) × WaitsFor c x y

next_of : (c : State) (a : ℕ) (bs : List ℕ) (z x : ℕ) → Leads c a bs z → IsOneOf x (a ∷ bs) → Waits c bs z x
unfolding Waits
next_of c a [] z x l (inl is) = (z, inr refl, subst (λ y. WaitsFor c y z) (sym is) l)
next_of c a [] z x l (inr later) = absurd later
next_of c a (b ∷ bs) z x l (inl is) = (b, inl (inl refl), subst (λ y. WaitsFor c y b) (sym is) l.0)
next_of c a (b ∷ bs) z x l (inr later) = let y = next_of c b bs z x l.1 later in
    (y.0, ⊎_elim (λ one. inl (inr one)) inr y.1, y.2)

next_in : (c : State) (a : ℕ) (bs : List ℕ) (x : ℕ) → Leads c a bs a → IsOneOf x (a ∷ bs) →
    (y : ℕ) × IsOneOf y (a ∷ bs) × WaitsFor c x y
unfolding Waits
next_in c a bs x l one = let y = next_of c a bs a x l one in (y.0, ⊎_elim inr inl y.1, y.2)

-- to a member nothing is handed: it would wait for itself
takes : (c : State) → IsLawful c → (x y d n : ℕ) → (c.owner n ≡ Taken y) ⊎ (c.owner n ≡ Handed y) → WaitsFor c y d →
    c.owner n ≡ Taken y
takes c l x y d n (inl own) w = own
takes c l x y d n (inr own) w = let h = (l.base.owners.at n).handed_stands y own in let k = w.1.stands in
    let at : n ≡ w.0 = l.base.queues.one_queue n w.0 h.0 k.0 h.1 k.1 (h.2 ∙ sym k.2) in let o = ap c.owner at in
    absurd (⊎_elim (λ z. let q : ⊥ = cc in q) (λ z. w.1.other (let same : y ≡ d = cc in same)) w.1.owner)

stuck_in : (c : State) → IsLawful c → (a : ℕ) (bs : List ℕ) → Leads c a bs a → AllStuck c (a ∷ bs)
stuck_in c l a bs leads s one = let y = next_in c a bs s leads one in let w = y.2 in
    let d = next_in c a bs y.0 leads y.1 in
    (y.0, y.1, (w.0, w.1.stands, takes c l s y.0 d.0 w.0 w.1.owner d.2))

pub cycles_are_broken : CyclesAreBroken
cycles_are_broken scene step run i [] go cycle = absurd cycle
cycles_are_broken scene step run i (a ∷ bs) go cycle = no_deadlock_lasts scene step run i (a ∷ bs) go (record {
  some = (a, inl refl);
  stuck = stuck_in (scene i).core (lawful_at scene step run i) a bs cycle;
})

-- ---- two seats

-- each stands in the list of the lock that the other has
pub are_deadlocked : (c : State) → c.owner 0 ≡ Taken 0 → c.owner 1 ≡ Taken 1 → Stands (c.queue 1) 0 → Stands (c.queue 0) 1 →
    AreDeadlocked c (0 ∷ 1 ∷ [])
are_deadlocked c has_0 has_1 waits_0 waits_1 = record {
  some = (0, inl refl);
  stuck = λ s. ⊎_elim (λ is. (1, inr (inl refl), (1, subst (Stands (c.queue 1)) (sym is) waits_0, has_1)))
      (⊎_elim (λ is. (0, inl refl, (0, subst (Stands (c.queue 0)) (sym is) waits_1, has_0))) (λ none. absurd none));
}

-- Contexts that rest: they own nothing and wait for nothing, so nobody has to give way to them.
use Rattle.std.proofs.Common.{◌≡◌, ⊎_elim, ℕ, suc, ◌<◌, ◌≤◌, refl, sym, ap, ◌∙◌, subst, arith}
use Rattle.std.proofs.lemmas.Bool.{cases_lt}
use Rattle.ww_queue.specs.declared.kind.Kind.TheVariants.{WaitDie}
use Rattle.ww_queue.specs.declared.entry.Entry.{Entry}
use Rattle.ww_queue.specs.Queue.{Has, Stands, joined}
use Rattle.ww_queue.proofs.Aheads.{before_first, before_older}
use Rattle.ww_queue.proofs.Joins.{joined_new}
use Rattle.ww_model.specs.declared.event.Event.{Event}
use Rattle.ww_model.specs.declared.event.Event.TheVariants.{Clear, Join, Sign}
use Rattle.ww_model.specs.State.{State, OwnsNone, InNoQueue, waiter_of, owes, place_of}
use Rattle.ww_model.specs.Event.{Possible, after}
use Rattle.ww_model.specs.Lawful.{IsBase}
use Rattle.ww_model.proofs.Puts.{put_here, put_else, put_cases}
use Rattle.ww_model.proofs.Dues.{by_kind, DiesOf, wound_from, death_from, sign_for, sign_owed}
use Rattle.ww_laws.specs.Scene.{Scene, Step, performs, May, next}
use Rattle.ww_laws.specs.Sleepers.{IsEndlessRun}
use Rattle.ww_laws.specs.Premises.{RestsOn, IsOldestActive}
use Rattle.ww_laws.proofs.Steps.{by_event}
use Rattle.ww_laws.proofs.Runs.{known_next}

-- ---- of one state

-- the seat has a context, and no older one owns anything or waits
pub record IsOldestUp (c : State) (s : ℕ) : Type 0 where
  pub context : 0 < c.stamp s
  pub older : (t : ℕ) → 0 < c.stamp t → c.stamp t < c.stamp s → OwnsNone c t × InNoQueue c t

module _ (c : State) (l : IsBase c) (s : ℕ) (o : IsOldestUp c s) where
  -- no waiter is older
  none_older : (n : ℕ) (e : Entry) → Has (c.queue n) e → 0 < e.stamp → c.stamp s ≤ e.stamp
  none_older n e h some = let same = (l.queues.at n).stamps e h in ⊎_elim
      (λ less. absurd ((o.older e.seat (omega arith) (omega arith)).1 n e h refl)) (λ most. omega arith)
      (cases_lt e.stamp (c.stamp s))

  -- Wait-Die: it has to die nowhere
  pub lives : c.kind ≡ WaitDie → (n k : ℕ) → DiesOf c s n k → ⊥
  lives dying n k d = let same = (l.queues.at n).stamps d.entry d.stands ∙ ap c.stamp d.seat in ⊎_elim
      (λ i. let a = i.2 in let b = i.3 in let older = i.4 in let none = o.older i.0 (omega arith) (omega arith) in
      ⊎_elim (λ own. none.0 n own)
      (λ own. let h = (l.owners.at n).handed_stands i.0 own in none.1 n h.0 h.1 h.2) i.1)
      (λ x. let before = before_older (c.queue n) x.0 d.entry (l.queues.at n).ascends x.1 x.2 d.context in
      let least = none_older n x.0 (before_first (c.queue n) x.0 d.entry x.1) x.2 in omega arith)
      (d.older dying)

  -- nobody owes it a sign
  not_owed : (u n k : ℕ) → Has (owes c u n) (s, k) → ⊥
  not_owed u n k owed = by_kind c.kind ⊥
      (λ wounding. let w = wound_from c u n s k wounding owed in let e = w.3 in let some = w.1 in let older = w.2 in
      let same = e.3 in let least = none_older n e.0 e.1 (omega arith) in omega arith)
      (λ dying. lives dying n k (death_from c u n s k dying owed))

  pub never_signed : (u : ℕ) → Possible c (Sign u s) → ⊥
  never_signed u can = not_owed u (place_of c u) (sign_for c u s) (sign_owed c u s can.signs.owed)

  unsigned_after : (e : Event) → Possible c e → c.sign s ≡ 0 → (after c e).sign s ≡ 0
  unsigned_after (Clear t) can none = put_cases c.sign t 0 s (λ x. x ≡ 0) (λ _. refl) (λ _. none)
  unsigned_after (Sign u v) can none = put_else c.sign v (sign_for c u v) s
      (λ is. never_signed u (subst (λ x. Possible c (Sign u x)) (sym is) can)) ∙ none
  unsigned_after _ can none = none

-- nobody signs it
pub unsigned_next : (w : Scene) (x : Step) (s : ℕ) → May w x → IsBase w.core → IsOldestUp w.core s → w.core.sign s ≡ 0 →
    (next w x).core.sign s ≡ 0
unsigned_next w x s may l old none = by_event (λ d. d.sign s ≡ 0) w x may none
    (λ e _ can. unsigned_after w.core l s old e can none)

-- ---- along a run

module _ (scene : ℕ → Scene) (step : ℕ → Step) where
  -- who rests does so later too, with the same context
  pub rests_on : (t k j : ℕ) → k ≤ j → (scene k).core.stamp t ≡ (scene j).core.stamp t → RestsOn scene step t k →
      RestsOn scene step t j
  rests_on t k j later same rests x from is = rests x (omega arith) (is ∙ sym same)

  pub rests_stands_not : (k t n : ℕ) → RestsOn scene step t k → Stands ((scene k).core.queue n) t → ⊥
  rests_stands_not k t n rests h = (rests k (omega arith) refl).1 n h.0 h.1 h.2

  -- the oldest that doesn't rest is so at the moment
  pub is_up : (s k : ℕ) → IsOldestActive scene step s k → IsOldestUp (scene k).core s
  is_up s k old = record { context = old.context; older = λ t some less. old.older t some less k (omega arith) refl }

  pub rests_joins_none : IsEndlessRun scene step → (k t n : ℕ) → RestsOn scene step t k →
      step k ≡ performs (Join t n) → ⊥
  rests_joins_none run k t n rests is = let c = (scene k).core in
      let now = known_next scene step run (λ w. (w.core.stamp t ≡ c.stamp t) × Has (w.core.queue n) (waiter_of c t)) k
      (performs (Join t n)) is (
        refl,
        subst (λ q. Has q (waiter_of c t))
            (sym (put_here c.queue n (joined (c.queue n) (waiter_of c t)))) (joined_new (c.queue n) (waiter_of c t)),
      ) in
      (rests (suc k) (omega arith) now.0).1 n (waiter_of c t) now.1 refl

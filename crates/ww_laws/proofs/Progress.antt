-- Whenever somebody waits, somebody takes a lock or gives up.
use Rattle.std.proofs.Common.{◌≡◌, ◌≢◌, ◌⊎◌, inl, inr, ⊎_elim, ℕ, zero, suc, ◌+◌, ◌<◌, ◌≤◌, Bool, true, false, List, [], ◌∷◌, length, refl, sym, ◌∙◌, subst, arith}
use Rattle.ww_queue.specs.declared.entry.Entry.{Entry}
use Rattle.ww_queue.specs.Queue.{Has, StandsNot, Once}
use Rattle.ww_queue.proofs.Rooms.{waiters_fit}
use Rattle.ww_model.specs.declared.state.Holder.{Holder}
use Rattle.ww_model.specs.declared.state.Holder.TheVariants.{Nobody, Taken, Handed}
use Rattle.ww_model.specs.declared.event.Event.TheVariants.{FastGive, Take, Give, Die, Leave}
use Rattle.ww_model.specs.Event.{given_to}
use Rattle.ww_model.specs.Snapshot.{IsFirst}
use Rattle.ww_model.proofs.Puts.{put_here}
use Rattle.ww_model.proofs.Leaving.{waiters_are_seats}
use Rattle.ww_laws.specs.Scene.{Scene, Step, performs}
use Rattle.ww_laws.specs.Sleepers.{IsEndlessRun}
use Rattle.ww_laws.specs.Premises.{WaitersGoOn, HoldersGoOn}
use Rattle.ww_laws.specs.GoingOn.{TakesOrGivesUp, SomebodyGoesOn, EndsWait}
use Rattle.ww_laws.proofs.Steps.{entry_next, taken_or_not, seats_next}
use Rattle.ww_laws.proofs.Runs.{Ended, orderly_at, lawful_at, known_next, may_be, release_between, along, Never, search_to}
use Rattle.ww_laws.proofs.Links.{link_breaks}
use Rattle.ww_laws.proofs.Dues.{IsTaken, handed_ends, free_taken}
use Rattle.ww_laws.proofs.Leaves.{HasHolder, Leaf, handed, free, holder, link, leaf_of}

-- ---- whether somebody takes a lock or gives up

takes_or_not : (x : Step) → TakesOrGivesUp x ⊎ (TakesOrGivesUp x → ⊥)
takes_or_not (performs (Take t m)) = inl (t, inl (m, refl))
takes_or_not (performs (Die t m)) = inl (t, inr (m, inl refl))
takes_or_not (performs (Leave t m)) = inl (t, inr (m, inr refl))
takes_or_not _ = inr (λ r. ⊎_elim (λ t. let z = t.1 in cc) (λ g. ⊎_elim (λ z. cc) (λ z. cc) g.1) r.1)

-- who ends a wait does
ends_takes : (s n : ℕ) (x : Step) → EndsWait s n x → TakesOrGivesUp x
ends_takes s n x (inl take) = (s, inl (n, take))
ends_takes s n x (inr how) = (s, inr (n, how))

-- ---- a lock that is released while somebody waits is there for the first waiter

pub data GivenTo (o : Holder) (q : List Entry) : Type 0 where
  to_first : (e : Entry) → Has q e → o ≡ Handed e.seat → GivenTo o q
  to_none : (e : Entry) → Has q e → IsFirst q e.seat → o ≡ Nobody → GivenTo o q

pub given : (asked : Bool) (q : List Entry) (e : Entry) → Has q e → GivenTo (given_to asked q) q
given asked [] e h = absurd h
given true (x ∷ xs) e h = to_first x (inl refl) refl
given false (x ∷ xs) e h = to_none x (inl refl) (x, xs, refl, refl) refl

module _ (scene : ℕ → Scene) (step : ℕ → Step) (run : IsEndlessRun scene step) where
  -- the seats wait, each in some list
  abbrev pub AllWait : ℕ → List Entry → Type 0
  AllWait i ws = (e : Entry) → Has ws e → (n : ℕ) × Has ((scene i).core.queue n) e

  pub seats_at : (i j : ℕ) → i ≤ j → (scene j).core.seats ≡ (scene i).core.seats
  seats_at i j later = along scene step run (λ w. w.core.seats ≡ (scene i).core.seats) i j later refl
      (λ k _ _ same. seats_next (scene k) (step k) (run.may k) ∙ same)

  -- there are no more of them than seats
  pub few : (i : ℕ) (ws : List Entry) → Once ws → AllWait i ws → length ws ≤ (scene i).core.seats
  few i ws once all = waiters_fit (scene i).core.seats ws once
      (λ e h. let a = all e h in waiters_are_seats (scene i).core (orderly_at scene step run i).reached a.0 e a.1)

  -- who has a lock that somebody waits for, and later hasn't, has released it to the first waiter
  pub given_later : (t n i j : ℕ) (e : Entry) → i ≤ j → (scene i).core.owner n ≡ Taken t →
      (scene j).core.owner n ≢ Taken t → ((k : ℕ) → i ≤ k → k < j → Has ((scene k).core.queue n) e) →
      (k : ℕ) × (i ≤ k) × (k < j) × GivenTo ((scene (suc k)).core.owner n) ((scene (suc k)).core.queue n)
  given_later t n i j e later own gone waits = let r = release_between scene step run t n i j later own gone in
      let k = r.at in let c = (scene k).core in let here = waits k r.from r.before in
      let to : GivenTo ((scene (suc k)).core.owner n) ((scene (suc k)).core.queue n) = ⊎_elim
      (λ fast. let can = may_be scene step run k (performs (FastGive t n)) fast in
      absurd (subst (λ q. Has q e) can.possible.base.empty here))
      (λ give. known_next scene step run (λ w. GivenTo (w.core.owner n) (w.core.queue n)) k (performs (Give t n)) give
      (subst (λ o. GivenTo o (c.queue n)) (sym (put_here c.owner n (given_to (c.asked n) (c.queue n))))
      (given (c.asked n) (c.queue n) e here)))
      r.how in (k, r.from, r.before, to)

module _ (scene : ℕ → Scene) (step : ℕ → Step) (run : IsEndlessRun scene step) (go : WaitersGoOn scene step)
    (holders : HoldersGoOn scene step) where
  abbrev Goal : ℕ → Type 0
  Goal i = (j : ℕ) × (i ≤ j) × TakesOrGivesUp (step j)

  goal_from : (i j : ℕ) → i ≤ j → Goal j → Goal i
  goal_from i j later g = let more = g.1 in (g.0, omega arith, g.2)

  by_end : (e : Entry) (n i : ℕ) → Ended scene step e n i → Goal i
  by_end e n i end = (end.at, end.later, ends_takes e.seat n (step end.at) end.ends)

  by_take : (n i : ℕ) → IsTaken scene step run go n i → Goal i
  by_take n i t = (t.at, t.later, (t.seat, inl (n, t.takes)))

  by_given : (n i : ℕ) → GivenTo ((scene i).core.owner n) ((scene i).core.queue n) → Goal i
  by_given n i (to_first e h own) = by_end e n i (handed_ends scene step run go e n i h own)
  by_given n i (to_none e h first own) = by_take n i (free_taken scene step run go e n i h first own)

  -- nobody takes a lock or gives up before
  quiet_to : (i j : ℕ) → i ≤ j → Goal i ⊎ Never (λ k. TakesOrGivesUp (step k)) i j
  quiet_to i j later = ⊎_elim (λ f. inl (f.at, f.from, f.holds)) inr
      (search_to (λ k. TakesOrGivesUp (step k)) (λ k. takes_or_not (step k)) i j later)

  stay : (i j : ℕ) → i ≤ j → Never (λ k. TakesOrGivesUp (step k)) i j → (e : Entry) (n : ℕ) →
      Has ((scene i).core.queue n) e → Has ((scene j).core.queue n) e
  stay i j later calm e n h = along scene step run (λ w. Has (w.core.queue n) e) i j later h
      (λ k from below. entry_next (scene k) (step k) e n
      (λ ends. calm k from below (ends_takes e.seat n (step k) ends)))

  -- once the holder waits too, there is one waiter more
  abbrev Joined : ℕ → List Entry → Type 0
  Joined i ws = (j : ℕ) → i ≤ j → (x : Entry) → StandsNot ws x.seat → AllWait scene step run j (x ∷ ws) →
      (e : Entry) (n : ℕ) →
      Has ((scene j).core.queue n) e → Goal j

  -- the holder releases the lock, or comes to wait
  by_holder : (i : ℕ) (ws : List Entry) → AllWait scene step run i ws → Joined i ws → HasHolder (scene i).core → Goal i
  by_holder i ws all more a = let n = a.lock in let e = a.waiter in let h = a.holder in
      let later = holders i h n a.owns a.idle in
      let j = later.0 in let after = later.1 in ⊎_elim (λ g. g)
      (λ calm. ⊎_elim
      (λ still. ⊎_elim (λ gone. absurd (gone still))
      (λ there. let x = there.1.0 in goal_from i j after (more j after x
      (λ y hy is. let w = all y hy in a.idle w.0 y w.1 (is ∙ there.1.2))
      (λ y. ⊎_elim (λ is. (there.0, subst (λ z. Has ((scene j).core.queue there.0) z) (sym is) there.1.1))
      (λ hy. let w = all y hy in (w.0, stay i j after calm y w.0 w.1)))
      e n (stay i j after calm e n a.stands))) later.2)
      (λ gone. let r = given_later scene step run h n i j e after a.owns gone
      (λ k from before. stay i k from (λ x b c. calm x b (omega arith)) e n a.stands) in
      let from = r.1 in goal_from i (suc r.0) (omega arith) (by_given n (suc r.0) r.3))
      (taken_or_not ((scene j).core.owner n) h))
      (quiet_to i j after)

  by_leaf : (i : ℕ) → (HasHolder (scene i).core → Goal i) → Leaf (scene i).core → Goal i
  by_leaf i held (handed a) = by_end a.waiter a.lock i (handed_ends scene step run go a.waiter a.lock i a.stands a.owns)
  by_leaf i held (free a) = by_take a.lock i (free_taken scene step run go a.waiter a.lock i a.stands a.first a.free)
  by_leaf i held (holder a) = held a
  by_leaf i held (link k) = ⊎_elim (by_end k.waiter k.lock i) (by_end k.owner k.place i)
      (link_breaks scene step run go i k)

  -- there are only as many waiters as seats
  on : (fuel i : ℕ) (ws : List Entry) → Once ws → AllWait scene step run i ws →
      (scene i).core.seats < length ws + fuel → (e : Entry) (n : ℕ) → Has ((scene i).core.queue n) e → Goal i
  on zero i ws once all room e n h = let full = few scene step run i ws once all in absurd (omega arith)
  on (suc fuel) i ws once all room e n h = by_leaf i
      (by_holder i ws all (λ j later x new wait y m there. let same = seats_at scene step run i j later in
      on fuel j (x ∷ ws) (new, once) wait (omega arith) y m there))
      (leaf_of (scene i).core (orderly_at scene step run i).reached (lawful_at scene step run i) e n h)

pub somebody_goes_on : SomebodyGoesOn
somebody_goes_on scene step run go holders i s n h =
    on scene step run go holders (suc (scene i).core.seats) i [] tt (λ e none. absurd none) (omega arith) h.0 n h.1

-- Nobody waits while others do nothing but die and try again.
use Rattle.std.proofs.Common.{◌≡◌, ◌≢◌, ◌⊎◌, inl, inr, ⊎_elim, ℕ, zero, suc, ◌+◌, ◌<◌, ◌≤◌, Bool, true, false, List, [], ◌∷◌, length, refl, sym, ap, ◌∙◌, subst, arith}
use Rattle.std.proofs.lemmas.Bool.{cases_lt}
use Rattle.ww_queue.specs.declared.entry.Entry.{Entry}
use Rattle.ww_queue.specs.Queue.{Has, Stands, StandsNot, Once}
use Rattle.ww_queue.proofs.Joins.{joined_has}
use Rattle.ww_queue.proofs.Leaves.{left_has}
use Rattle.ww_queue.proofs.Rooms.{waiters_fit}
use Rattle.ww_model.specs.declared.state.Holder.{Holder}
use Rattle.ww_model.specs.declared.state.Holder.TheVariants.{Nobody, Taken}
use Rattle.ww_model.specs.declared.event.Event.TheVariants.{Fast, FastGive, Join, Take, Give, Die, Leave}
use Rattle.ww_model.specs.State.{InNoQueue, waiter_of, dies}
use Rattle.ww_model.specs.Event.{given_to}
use Rattle.ww_model.proofs.Puts.{put_here}
use Rattle.ww_model.proofs.Options.{some_of}
use Rattle.ww_model.proofs.Dues.{dies_why}
use Rattle.ww_laws.specs.Scene.{Scene, Step, performs, May, next}
use Rattle.ww_laws.specs.Sleepers.{IsEndlessRun}
use Rattle.ww_laws.specs.Premises.{WaitersGoOn, HoldersGoOn, BacksOff}
use Rattle.ww_laws.specs.GoingOn.{EndsWait, TakesOrIsCalledOff, NoLivelock}
use Rattle.ww_laws.proofs.Steps.{ends_or_not, entry_next, list_next, taken_or_free}
use Rattle.ww_laws.proofs.Runs.{changes, orderly_at, lawful_at, made_next, known_next, may_be, release_between, along, search_to}
use Rattle.ww_laws.proofs.Dues.{handed_takes, free_taken}
use Rattle.ww_laws.proofs.Leaves.{waits_or_not}
use Rattle.ww_laws.proofs.Progress.{GivenTo, to_first, to_none, given, somebody_goes_on}
use Rattle.ww_laws.proofs.Handoff.{locks_at}
use Rattle.ww_laws.proofs.Served.{gone}

-- ---- of one step

takes_or_not : (x : Step) → TakesOrIsCalledOff x ⊎ (TakesOrIsCalledOff x → ⊥)
takes_or_not (performs (Fast t m)) = inl (t, m, inl refl)
takes_or_not (performs (Take t m)) = inl (t, m, inr (inl refl))
takes_or_not (performs (Leave t m)) = inl (t, m, inr (inr refl))
takes_or_not _ = inr (λ r. ⊎_elim (λ is. cc) (⊎_elim (λ is. cc) (λ is. cc)) r.2)

-- a free lock stays free while nobody takes one
free_next : (w : Scene) (x : Step) (k : ℕ) → May w x → (TakesOrIsCalledOff x → ⊥) → w.core.owner k ≡ Nobody →
    (next w x).core.owner k ≡ Nobody
free_next w x k may on free = ⊎_elim (λ taken. absurd (on (taken.0, k, ⊎_elim inl (λ take. inr (inl take)) taken.1)))
    (λ still. still) (taken_or_free w x k may free)

-- who stands in a list after a step joined it by it, or stood there
pub stood_next : (w : Scene) (x : Step) (t m : ℕ) → Stands ((next w x).core.queue m) t →
    Stands (w.core.queue m) t ⊎ (x ≡ performs (Join t m))
stood_next w x t m = let q = w.core.queue m in
    list_next (λ p. Stands p t → Stands q t ⊎ (x ≡ performs (Join t m))) w x m inl
    (λ u joins h. ⊎_elim (λ new. inr (joins ∙ ap (λ s. performs (Join s m)) (sym (ap (λ (y : Entry). y.seat) new) ∙ h.2)))
    (λ old. inl (h.0, old, h.2)) (joined_has q (waiter_of w.core u) h.0 h.1))
    (λ u _ h. inl (h.0, left_has q u h.0 h.1, h.2))

-- ---- who dies stands in no list

module _ (scene : ℕ → Scene) (step : ℕ → Step) (run : IsEndlessRun scene step) where
  idle_or_not : (t x : ℕ) → InNoQueue (scene x).core t ⊎ (InNoQueue (scene x).core t → ⊥)
  idle_or_not t x = ⊎_elim (λ h. inr (λ none. let k = h.1 in none h.0 k.0 k.1 k.2)) inl
      (waits_or_not (scene x).core (orderly_at scene step run x).reached t)

  pub after_death : (j t m : ℕ) → step j ≡ performs (Die t m) → InNoQueue (scene (suc j)).core t
  after_death j t m dies x f h is = let c = (scene j).core in let l = (lawful_at scene step run j).base in
      let can = may_be scene step run j (performs (Die t m)) dies in let k = can.possible.base.waits in
      let none : StandsNot ((scene (suc j)).core.queue m) t =
      made_next scene step run (λ w. StandsNot (w.core.queue m) t) j
      (gone (scene j) (step j) t m l (inr (inl dies))) in ⊎_elim
      (λ old. let at : x ≡ m = l.queues.one_queue x m old.0 k.0 old.1 k.1 (old.2 ∙ sym k.2) in
      none f (subst (λ y. Has ((scene (suc j)).core.queue y) f) at h) is)
      (λ joins. let z = sym dies ∙ joins in cc)
      (stood_next (scene j) (step j) t x (subst (λ (w : Scene). Stands (w.core.queue x) t) (run.goes_on j) (f, h, is)))

  -- who stands in a list later has joined one in between
  pub joined_between : (i j t : ℕ) → i ≤ j → InNoQueue (scene i).core t → (InNoQueue (scene j).core t → ⊥) →
      (x : ℕ) × (i ≤ x) × (x < j) × ((m : ℕ) × (step x ≡ performs (Join t m)))
  joined_between i j t later idle waits = let change = changes (λ x. InNoQueue (scene x).core t)
      (λ x. idle_or_not t x) i j later idle waits in let x = change.at in
      let before = change.held x change.from (omega arith) in (
        x,
        change.from,
        change.before,
        ⊎_elim
            (λ there. ⊎_elim
            (λ old. absurd (before there.0 old.0 old.1 old.2))
            (λ joins. (there.0, joins))
            (stood_next (scene x) (step x) t there.0
            (subst (λ (w : Scene). Stands (w.core.queue there.0) t) (run.goes_on x) there.1)))
            (λ none. absurd (change.gone none))
            (waits_or_not (scene (suc x)).core (orderly_at scene step run (suc x)).reached t),
      )

-- ---- along a run

module _ (scene : ℕ → Scene) (step : ℕ → Step) (run : IsEndlessRun scene step) (go : WaitersGoOn scene step)
    (holders : HoldersGoOn scene step) (backs : BacksOff scene step) (e : Entry) (n : ℕ) where
  abbrev Stop : ℕ → Type 0
  Stop k = EndsWait e.seat n (step k) ⊎ TakesOrIsCalledOff (step k)

  stop_or_not : (k : ℕ) → Stop k ⊎ (Stop k → ⊥)
  stop_or_not k = ⊎_elim (λ ends. inl (inl ends))
      (λ on. ⊎_elim (λ takes. inl (inr takes)) (λ none. inr (⊎_elim on none)) (takes_or_not (step k)))
      (ends_or_not e.seat n (step k))

  abbrev Goal : ℕ → Type 0
  Goal i = (j : ℕ) × (i ≤ j) × Stop j

  goal_from : (i j : ℕ) → i ≤ j → Goal j → Goal i
  goal_from i j later g = let more = g.1 in (g.0, omega arith, g.2)

  -- lock k is free from then on, at this time
  abbrev Freed : ℕ → ℕ → Type 0
  Freed i k = (j : ℕ) × (i ≤ j) × ((scene j).core.owner k ≡ Nobody)

  freed_from : (i j k : ℕ) → i ≤ j → Goal j ⊎ Freed j k → Goal i ⊎ Freed i k
  freed_from i j k later (inl g) = inl (goal_from i j later g)
  freed_from i j k later (inr f) = let more = f.1 in inr (f.0, omega arith, f.2)

  -- ---- who releases a lock frees it, or it is taken

  by_given : (k i : ℕ) → GivenTo ((scene i).core.owner k) ((scene i).core.queue k) → Goal i
  by_given k i (to_first f h own) = let t = handed_takes scene step run go f k i h own in
      (t.0.at, t.0.later, inr (f.seat, k, inr (inl t.1)))
  by_given k i (to_none f h first own) = let t = free_taken scene step run go f k i h first own in
      (t.at, t.later, inr (t.seat, k, inr (inl t.takes)))

  given_then : (i k : ℕ) (q : List Entry) (o : Holder) (b : Bool) → (scene i).core.queue k ≡ q →
      (scene i).core.owner k ≡ given_to b q → Goal i ⊎ Freed i k
  given_then i k [] o true list own = inr (i, omega arith, own)
  given_then i k [] o false list own = inr (i, omega arith, own)
  given_then i k (x ∷ xs) o b list own = inl (by_given k i (subst (λ p. GivenTo p ((scene i).core.queue k)) (sym own)
      (subst (λ q. GivenTo (given_to b (x ∷ xs)) q) (sym list) (given b (x ∷ xs) x (inl refl)))))

  releases : (i j t k : ℕ) → i ≤ j → (scene i).core.owner k ≡ Taken t → (scene j).core.owner k ≢ Taken t →
      Goal i ⊎ Freed i k
  releases i j t k later own gone = let r = release_between scene step run t k i j later own gone in let y = r.at in
      let from = r.from in let c = (scene y).core in ⊎_elim
      (λ fast. inr (
        suc y,
        omega arith,
        known_next scene step run
            (λ w. w.core.owner k ≡ Nobody) y (performs (FastGive t k)) fast (put_here c.owner k Nobody),
      ))
      (λ give. freed_from i (suc y) k (omega arith) (given_then (suc y) k (c.queue k) (c.owner k) (c.asked k)
      (known_next scene step run (λ w. w.core.queue k ≡ c.queue k) y (performs (Give t k)) give refl)
      (known_next scene step run (λ w. w.core.owner k ≡ given_to (c.asked k) (c.queue k)) y (performs (Give t k)) give
      (put_here c.owner k (given_to (c.asked k) (c.queue k))))))
      r.how

  -- ---- who dies releases what it has

  dead : (j t m k : ℕ) → step j ≡ performs (Die t m) → (scene j).core.owner k ≡ Taken t → Goal j ⊎ Freed j k
  dead j t m k dies own = let own' : (scene (suc j)).core.owner k ≡ Taken t =
      known_next scene step run (λ w. w.core.owner k ≡ Taken t) j (performs (Die t m)) dies own in
      let idle = after_death scene step run j t m dies in let later = holders (suc j) t k own' idle in let y =
      later.0 in
      let after = later.1 in
      freed_from j (suc j) k (omega arith) (⊎_elim
      (λ none. releases (suc j) y t k after own' none)
      (λ waits. let join = joined_between scene step run (suc j) y t after idle
      (λ none. let h = waits.1 in none waits.0 h.0 h.1 h.2) in let x = join.0 in let from = join.1 in
      let none = backs j x t m join.3.0 (omega arith) dies (inr (inl join.3.1)) in let more = none.1 in
      releases (suc j) none.0 t k (omega arith) own' (none.3 k))
      later.2)

  -- ---- each death frees one lock more, while nobody takes one

  AllFree : ℕ → List Entry → Type 0
  AllFree i ls = (a : Entry) → Has ls a → ((scene i).core.owner a.seat ≡ Nobody) × (a.seat < (scene i).core.locks)

  few_free : (i : ℕ) (ls : List Entry) → Once ls → AllFree i ls → length ls ≤ (scene i).core.locks
  unfolding AllFree
  few_free i ls once all = waiters_fit (scene i).core.locks ls once (λ a h. (all a h).1)

  abbrev Calm : ℕ → ℕ → Type 0
  Calm i j = (k : ℕ) → i ≤ k → k < j → Stop k → ⊥

  free_on : (i j k : ℕ) → i ≤ j → Calm i j → (scene i).core.owner k ≡ Nobody → (scene j).core.owner k ≡ Nobody
  free_on i j k later calm own = along scene step run (λ w. w.core.owner k ≡ Nobody) i j later own
      (λ x a b. free_next (scene x) (step x) k (run.may x) (λ takes. calm x a b (inr takes)))

  stay : (i j : ℕ) → i ≤ j → Calm i j → Has ((scene i).core.queue n) e → Has ((scene j).core.queue n) e
  stay i j later calm h = along scene step run (λ w. Has (w.core.queue n) e) i j later h
      (λ x a b. entry_next (scene x) (step x) e n (λ ends. calm x a b (inl ends)))

  -- a lock that somebody had is free at a later time
  freed : (i j y t k : ℕ) (ls : List Entry) → Once ls → AllFree i ls → Has ((scene i).core.queue n) e → i ≤ j → j ≤ y →
      (scene j).core.owner k ≡ Taken t → (scene y).core.owner k ≡ Nobody →
      ((ls' : List Entry) → Once ls' → AllFree y ls' → suc (length ls) ≤ length ls' → Has ((scene y).core.queue n) e →
      Goal y) → Goal i
  unfolding AllFree
  freed i j y t k ls once all h a b own free next = ⊎_elim
      (λ f. (f.at, f.from, f.holds))
      (λ calm. let x : Entry = record { seat = k; stamp = 0; holds = false } in
      let same = locks_at scene step run i y (omega arith) in
      let l = (lawful_at scene step run j).base in let same' = locks_at scene step run i j a in
      let below : k < (scene i).core.locks = ⊎_elim (λ z. omega arith) (λ beyond. let none = l.owners.beyond k beyond in
      absurd (cc)) (cases_lt k (scene j).core.locks) in
      goal_from i y (omega arith) (next (x ∷ ls) (
        (λ z hz is. let old = free_on i j z.seat a (λ q c d. calm q c (omega arith)) (all z hz).0 in
            let o = ap (scene j).core.owner is in cc),
        once,
      )
      (λ z. ⊎_elim
      (λ is. let seat = ap (λ (u : Entry). u.seat) is in
      (ap (scene y).core.owner seat ∙ free, let low = seat in omega arith))
      (λ hz. (free_on i y z.seat (omega arith) calm (all z hz).0, let low = (all z hz).1 in omega arith)))
      (omega arith) (stay i y (omega arith) calm h)))
      (search_to Stop stop_or_not i y (omega arith))

  died : (i j t m : ℕ) (ls : List Entry) → Once ls → AllFree i ls → Has ((scene i).core.queue n) e → i ≤ j →
      step j ≡ performs (Die t m) →
      ((y : ℕ) → i ≤ y → (ls' : List Entry) → Once ls' → AllFree y ls' → suc (length ls) ≤ length ls' →
      Has ((scene y).core.queue n) e → Goal y) → Goal i
  died i j t m ls once all h later die next = let c = (scene j).core in let l = (lawful_at scene step run j).base in
      let can = may_be scene step run j (performs (Die t m)) die in
      let cause = some_of (dies c t m) can.possible.signs in
      let d = dies_why c t m cause.0 cause.1 in let own = (l.queues.at m).holds d.entry d.stands d.holds in
      let k = own.0 in
      let has : c.owner k ≡ Taken t = own.1 ∙ ap Taken d.seat in ⊎_elim
      (λ g. goal_from i j later g)
      (λ f. let y = f.0 in let after = f.1 in freed i j y t k ls once all h later after has f.2 (next y (omega arith)))
      (dead j t m k die has)

  on : (fuel i : ℕ) (ls : List Entry) → Once ls → AllFree i ls → (scene i).core.locks < length ls + fuel →
      Has ((scene i).core.queue n) e → Goal i
  on zero i ls once all room h = let full = few_free i ls once all in absurd (omega arith)
  on (suc fuel) i ls once all room h = let g = somebody_goes_on scene step run go holders i e.seat n (e, h, refl) in
      let j = g.0 in let later = g.1 in ⊎_elim
      (λ take. (j, later, inr (g.2.0, take.0, inr (inl take.1))))
      (λ up. ⊎_elim
      (λ die. died i j g.2.0 up.0 ls once all h later die (λ y after ls' once' all' grown there.
      let same = locks_at scene step run i y after in on fuel y ls' once' all' (omega arith) there))
      (λ leave. (j, later, inr (g.2.0, up.0, inr (inr leave)))) up.1)
      g.2.1

  pub ends_or_taken : (i : ℕ) → Has ((scene i).core.queue n) e → Goal i
  unfolding AllFree
  ends_or_taken i h = on (suc (scene i).core.locks) i [] tt (λ a none. absurd none) (omega arith) h

pub no_livelock : NoLivelock
no_livelock scene step run go holders backs i s n h = let g =
    ends_or_taken scene step run go holders backs h.0 n i h.1 in
    (g.0, g.1, ⊎_elim (λ ends. inl (subst (λ x. EndsWait x n (step g.0)) h.2 ends)) inr g.2)

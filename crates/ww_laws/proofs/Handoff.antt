-- Whenever somebody waits, some wait ends, if whoever is first in a list asks for its lock.
use Rattle.std.proofs.Common.{◌≡◌, ◌≢◌, ◌⊎◌, inl, inr, ⊎_elim, ℕ, zero, suc, ◌+◌, ◌<◌, ◌≤◌, ◌==◌, true, false, List, [], ◌∷◌, length, refl, sym, ap, ◌∙◌, subst, arith, true≢false}
use Rattle.std.proofs.lemmas.Bool.{cases_Bool, cases_lt}
use mathlib.Core.Logic.{dite}
use native.Mathlib.Decide.{ℕ_discrete}
use Rattle.ww_queue.specs.declared.entry.Entry.{Entry}
use Rattle.ww_queue.specs.Queue.{Has, StandsNot, Once, joined, left}
use Rattle.ww_queue.proofs.Outcomes.{by_test, same_number}
use Rattle.ww_queue.proofs.Joins.{joined_new}
use Rattle.ww_queue.proofs.Rooms.{waiters_fit}
use Rattle.ww_model.specs.declared.state.Holder.TheVariants.{Nobody, Handed}
use Rattle.ww_model.specs.declared.event.Event.TheVariants.{Guard, Join, Take, Give, Die, Leave}
use Rattle.ww_model.specs.State.{State, waiter_of, InNoQueue}
use Rattle.ww_model.specs.Event.{Possible, after, given_to}
use Rattle.ww_model.specs.Lawful.{IsBase}
use Rattle.ww_model.specs.Snapshot.{IsFirst}
use Rattle.ww_model.proofs.Puts.{put_here}
use Rattle.ww_laws.specs.Scene.{Scene, Step, performs, May, next}
use Rattle.ww_laws.specs.Sleepers.{IsEndlessRun}
use Rattle.ww_laws.specs.Premises.{WaitersGoOn, HoldersGoOn, FirstsAsk}
use Rattle.ww_laws.specs.GoingOn.{EndsWait, EndsSomeWait, WaitsEnd}
use Rattle.ww_laws.proofs.Steps.{entry_next, taken_or_not, locks_next, list_next, asked_next}
use Rattle.ww_laws.proofs.Endless.{FoundAt}
use Rattle.ww_laws.proofs.Runs.{number_is, Stays, Ended, ended_from, orderly_at, lawful_at, known_next, may_be, enters, comes_in, goes_out, along, Never, search_to}
use Rattle.ww_laws.proofs.Links.{link_breaks}
use Rattle.ww_laws.proofs.Dues.{due_called, handed_ends, held_free}
use Rattle.ww_laws.proofs.Leaves.{stands_or_not, HasHolder, Leaf, handed, free, holder, link, leaf_of}
use Rattle.ww_laws.proofs.Progress.{GivenTo, to_first, to_none, AllWait, seats_at, few, given_later}

-- ---- whether a wait ends, or a lock is handed over

-- by the step a lock is released that was asked for
pub record HandsOver (c : State) (x : Step) : Type 0 where
  pub seat : ℕ
  pub lock : ℕ
  pub gives : x ≡ performs (Give seat lock)
  pub asked : c.asked lock ≡ true

abbrev Stops : State → Step → Type 0
Stops c x = EndsSomeWait c x ⊎ HandsOver c x

-- which step ends whose wait
one_waiter : (s t n m : ℕ) (x : Step) → EndsWait s n x → EndsWait t m x → (s ≡ t) × (n ≡ m)
one_waiter s t n m x (inl a) = ⊎_elim (λ b. (cc, cc)) (⊎_elim (λ b. absurd (cc)) (λ b. absurd (cc)))
one_waiter s t n m x (inr (inl a)) = ⊎_elim (λ b. absurd (cc)) (⊎_elim (λ b. (cc, cc)) (λ b. absurd (cc)))
one_waiter s t n m x (inr (inr a)) = ⊎_elim (λ b. absurd (cc)) (⊎_elim (λ b. absurd (cc)) (λ b. (cc, cc)))

-- where it is that of somebody who waits there
by_waiter : (c : State) (t m : ℕ) (x : Step) → EndsWait t m x → Stops c x ⊎ (Stops c x → ⊥)
by_waiter c t m x ends = ⊎_elim (λ h. inl (inl (record { seat = t; lock = m; stands = h; ends = ends })))
    (λ none. inr (⊎_elim (λ r. let same = one_waiter r.seat t r.lock m x r.ends ends in let h = r.stands in
    none h.0 (subst (λ k. Has (c.queue k) h.0) same.1 h.1) (h.2 ∙ same.0))
    (λ r. let z = r.gives in ⊎_elim (λ is. cc) (⊎_elim (λ is. cc) (λ is. cc)) ends)))
    (stands_or_not (c.queue m) t)

stops_or_not : (c : State) (x : Step) → Stops c x ⊎ (Stops c x → ⊥)
stops_or_not c (performs (Take t m)) = by_waiter c t m (performs (Take t m)) (inl refl)
stops_or_not c (performs (Die t m)) = by_waiter c t m (performs (Die t m)) (inr (inl refl))
stops_or_not c (performs (Leave t m)) = by_waiter c t m (performs (Leave t m)) (inr (inr refl))
stops_or_not c (performs (Give t m)) = ⊎_elim
    (λ asked. inl (inr (record { seat = t; lock = m; gives = refl; asked = asked })))
    (λ isnt. inr (⊎_elim (λ r. ⊎_elim (λ is. cc) (⊎_elim (λ is. cc) (λ is. cc)) r.ends)
    (λ r. let z = r.gives in let b : r.lock ≡ m = cc in true≢false (sym r.asked ∙ ap c.asked b ∙ isnt))))
    (cases_Bool (c.asked m))
stops_or_not c _ = inr (⊎_elim (λ r. ⊎_elim (λ is. cc) (⊎_elim (λ is. cc) (λ is. cc)) r.ends) (λ r. let z = r.gives in
    cc))

ends_stops : (c : State) (e : Entry) (n : ℕ) (x : Step) → Has (c.queue n) e → EndsWait e.seat n x → Stops c x
ends_stops c e n x h ends = inl (record { seat = e.seat; lock = n; stands = (e, h, refl); ends = ends })

-- ---- what stays while nothing stops

-- a lock that was asked for stays so
asked_on_next : (w : Scene) (x : Step) (n : ℕ) → IsBase w.core → May w x → (Stops w.core x → ⊥) →
    w.core.asked n ≡ true → (next w x).core.asked n ≡ true
asked_on_next w x n l may on asked = let own = (l.owners.at n).asked_taken asked in
    let e = some_there (w.core.queue n) own.1 in
    asked_next w x n e.0 may own.0
    (entry_next w x e.0 n (λ ends. on (ends_stops w.core e.0 n x e.1 ends)) e.1) asked
    (λ s gives. on (inr (record { seat = s; lock = n; gives = gives; asked = asked })))
  where
    some_there : (q : List Entry) → q ≢ [] → (e : Entry) × Has q e
    some_there [] some = absurd (some refl)
    some_there (e ∷ es) some = (e, inl refl)

-- so does the list, but for who joins it
abbrev Joins : ℕ → Step → Type 0
Joins n x = (t : ℕ) × (x ≡ performs (Join t n))

joins_or_not : (n : ℕ) (x : Step) → Joins n x ⊎ (Joins n x → ⊥)
joins_or_not n (performs (Join t m)) = dite (ℕ_discrete m n) (λ is. inl (t, ap (λ k. performs (Join t k)) is))
    (λ isnt. inr (λ j. isnt (let z = j.1 in let same : m ≡ n = cc in same)))
joins_or_not n _ = inr (λ j. let z = j.1 in cc)

left_absent : (q : List Entry) (s : ℕ) → StandsNot q s → left q s ≡ q
left_absent [] s none = refl
left_absent (e ∷ es) s none = by_test (e.seat == s) es (e ∷ left es s) (λ q. q ≡ e ∷ es)
    (λ is. absurd (none e (inl refl) (same_number e.seat s is)))
    (λ _. ap (λ xs. e ∷ xs) (left_absent es s (λ x h. none x (inr h))))

list_stays : (w : Scene) (x : Step) (n : ℕ) → (Stops w.core x → ⊥) → (Joins n x → ⊥) →
    (next w x).core.queue n ≡ w.core.queue n
list_stays w x n on none = let q = w.core.queue n in list_next (λ p. p ≡ q) w x n refl
    (λ t joins. absurd (none (t, joins)))
    (λ t ends. left_absent q t
    (λ e h own. on (ends_stops w.core e n x h (subst (λ y. EndsWait y n x) (sym own) ends))))

-- who joins a list stood in none, and stands there then
joins_new : (c : State) → IsBase c → (t n : ℕ) → Possible c (Join t n) → InNoQueue c t
joins_new c l t n can m e h own = let at : m ≡ n =
    l.guards.own_guard m n e h (can.base.inside.guard ∙ ap suc (sym own)) in
    can.base.not_waiting e (subst (λ k. Has (c.queue k) e) at h) own

joins_here : (c : State) (t n : ℕ) → Has ((after c (Join t n)).queue n) (waiter_of c t)
joins_here c t n = subst (λ q. Has q (waiter_of c t)) (sym (put_here c.queue n (joined (c.queue n) (waiter_of c t))))
    (joined_new (c.queue n) (waiter_of c t))

-- ---- along a run

module _ (scene : ℕ → Scene) (step : ℕ → Step) (run : IsEndlessRun scene step) where
  -- the locks, as many entries, were asked for
  abbrev AllAsked : ℕ → List Entry → Type 0
  AllAsked i ls = (a : Entry) → Has ls a → (scene i).core.asked a.seat ≡ true

  pub locks_at : (i j : ℕ) → i ≤ j → (scene j).core.locks ≡ (scene i).core.locks
  locks_at i j later = along scene step run (λ w. w.core.locks ≡ (scene i).core.locks) i j later refl
      (λ k _ _ same. locks_next (scene k) (step k) (run.may k) ∙ same)

  few_asked : (i : ℕ) (ls : List Entry) → Once ls → AllAsked i ls → length ls ≤ (scene i).core.locks
  few_asked i ls once all = let l = lawful_at scene step run i in waiters_fit (scene i).core.locks ls once
      (λ a h. ⊎_elim (λ below. below)
      (λ beyond. let t = ((l.base.owners.at a.seat).asked_taken (all a h)).0 in let own = t.1 in
      let none = l.base.owners.beyond a.seat beyond in absurd (cc)) (cases_lt a.seat (scene i).core.locks))

module _ (scene : ℕ → Scene) (step : ℕ → Step) (run : IsEndlessRun scene step) (go : WaitersGoOn scene step)
    (holders : HoldersGoOn scene step) (asks : FirstsAsk scene step) where
  abbrev Goal : ℕ → Type 0
  Goal i = (j : ℕ) × (i ≤ j) × EndsSomeWait (scene j).core (step j)

  goal_from : (i j : ℕ) → i ≤ j → Goal j → Goal i
  goal_from i j later g = let more = g.1 in (g.0, omega arith, g.2)

  by_end : (e : Entry) (n i : ℕ) → Ended scene step e n i → Goal i
  by_end e n i end = let later = end.later in (
    end.at,
    later,
    record { seat = e.seat; lock = n; stands = (e, end.stays.here end.at later (omega arith), refl); ends = end.ends },
  )

  by_handed : (e : Entry) (n i : ℕ) → Has ((scene i).core.queue n) e → (scene i).core.owner n ≡ Handed e.seat → Goal i
  by_handed e n i h own = by_end e n i (handed_ends scene step run go e n i h own)

  -- where a lock was handed over, its first waiter's wait ends
  by_handing : (i : ℕ) → HandsOver (scene i).core (step i) → Goal i
  by_handing i r = let c = (scene i).core in let n = r.lock in
      let can = may_be scene step run i (performs (Give r.seat n)) r.gives in
      goal_from i (suc i) (omega arith) (first (c.queue n) refl (can.possible.base.waiter r.asked)
      (known_next scene step run (λ w. (w.core.owner n ≡ given_to true (c.queue n)) × (w.core.queue n ≡ c.queue n)) i
      (performs
      (Give r.seat n)) r.gives
      (put_here c.owner n (given_to (c.asked n) (c.queue n)) ∙ ap (λ b. given_to b (c.queue n)) r.asked, refl)))
    where
      first : (q : List Entry) → (scene i).core.queue r.lock ≡ q → (scene i).core.queue r.lock ≢ [] →
          ((scene (suc i)).core.owner r.lock ≡ given_to true ((scene i).core.queue r.lock))
          × ((scene (suc i)).core.queue r.lock ≡ (scene i).core.queue r.lock) → Goal (suc i)
      first [] is some now = absurd (some is)
      first (x ∷ xs) is some now = by_handed x r.lock (suc i) (subst (λ q. Has q x) (sym (now.1 ∙ is)) (inl refl))
          (now.0 ∙ ap (given_to true) is)

  by_stop : (i : ℕ) → Stops (scene i).core (step i) → Goal i
  by_stop i (inl ends) = (i, omega arith, ends)
  by_stop i (inr hands) = by_handing i hands

  -- nothing stops before
  abbrev Calm : ℕ → ℕ → Type 0
  Calm i j = (k : ℕ) → i ≤ k → k < j → Stops (scene k).core (step k) → ⊥

  quiet_to : (i j : ℕ) → i ≤ j → Goal i ⊎ Calm i j
  quiet_to i j later = ⊎_elim (λ f. inl (goal_from i f.at f.from (by_stop f.at f.holds))) inr
      (search_to (λ k. Stops (scene k).core (step k)) (λ k. stops_or_not (scene k).core (step k)) i j later)

  calm_to : (i j k : ℕ) → k ≤ j → Calm i j → Calm i k
  calm_to i j k below calm x a b = calm x a (omega arith)

  stay : (i j : ℕ) → i ≤ j → Calm i j → (e : Entry) (n : ℕ) → Has ((scene i).core.queue n) e →
      Has ((scene j).core.queue n) e
  stay i j later calm e n h = along scene step run (λ w. Has (w.core.queue n) e) i j later h
      (λ k from below before. entry_next (scene k) (step k) e n
      (λ ends. calm k from below (ends_stops (scene k).core e n (step k) before ends)) before)

  asked_on : (i j : ℕ) → i ≤ j → Calm i j → (n : ℕ) → (scene i).core.asked n ≡ true → (scene j).core.asked n ≡ true
  asked_on i j later calm n asked = along scene step run (λ w. w.core.asked n ≡ true) i j later asked
      (λ k from below. asked_on_next (scene k) (step k) n (lawful_at scene step run k).base (run.may k)
      (calm k from below))

  wait_on : (i j : ℕ) → i ≤ j → Calm i j → (ws : List Entry) → AllWait scene step run i ws → AllWait scene step run j ws
  wait_on i j later calm ws all e h = let w = all e h in (w.0, stay i j later calm e w.0 w.1)

  ask_on : (i j : ℕ) → i ≤ j → Calm i j → (ls : List Entry) → AllAsked scene step run i ls →
      AllAsked scene step run j ls
  ask_on i j later calm ls all a h = asked_on i j later calm a.seat (all a h)

  -- ---- later there is one waiter more, or one lock more that was asked for

  abbrev More : ℕ → List Entry → List Entry → Type 0
  More i ws ls = (j : ℕ) → i ≤ j → (ws' ls' : List Entry) → Once ws' → Once ls' → AllWait scene step run j ws' →
      AllAsked scene step run j ls' →
      suc (length ws + length ls) ≤ length ws' + length ls' → (e : Entry) (n : ℕ) → Has ((scene j).core.queue n) e →
      Goal j

  -- the known waiters and locks of this time
  record Known (i : ℕ) (ws ls : List Entry) : Type 0 where
    once : Once ws
    each : Once ls
    wait : AllWait scene step run i ws
    asked : AllAsked scene step run i ls
    more : More i ws ls

  -- somebody joined a list
  by_join : (i j : ℕ) (ws ls : List Entry) → Known i ws ls → i ≤ j → Calm i j → (t m : ℕ) →
      step j ≡ performs (Join t m) →
      (e : Entry) (n : ℕ) → Has ((scene i).core.queue n) e → Goal i
  by_join i j ws ls known later calm t m joins e n h = let c = (scene j).core in let x = waiter_of c t in
      let can = may_be scene step run j (performs (Join t m)) joins in
      let none = joins_new c (lawful_at scene step run j).base t m can.possible in ⊎_elim (λ g. g)
      (λ calm'. goal_from i (suc j) (omega arith) (known.more (suc j) (omega arith) (x ∷ ws) ls
      ((λ y hy own. let w = wait_on i j later calm ws known.wait y hy in none w.0 y w.1 own), known.once) known.each
      (λ y. ⊎_elim
      (λ is. (
        m,
        subst (λ z. Has ((scene (suc j)).core.queue m) z) (sym is)
            (known_next scene step run (λ w. Has (w.core.queue m) x) j (performs (Join t m)) joins (joins_here c t m)),
      ))
      (wait_on i (suc j) (omega arith) calm' ws known.wait y))
      (ask_on i (suc j) (omega arith) calm' ls known.asked) (omega arith) e n
      (stay i (suc j) (omega arith) calm' e n h)))
      (quiet_to i (suc j) (omega arith))

  -- ---- a free lock

  known_at : (i j : ℕ) (ws ls : List Entry) → Known i ws ls → i ≤ j → Calm i j → Known j ws ls
  known_at i j ws ls known later calm = record {
    once = known.once;
    each = known.each;
    wait = wait_on i j later calm ws known.wait;
    asked = ask_on i j later calm ls known.asked;
    more = λ k after. known.more k (omega arith);
  }

  -- somebody joins the list at some time before j, or nobody does
  join_or_none : (i j n : ℕ) → i ≤ j → FoundAt (λ k. Joins n (step k)) i j ⊎ Never (λ k. Joins n (step k)) i j
  join_or_none i j n later = search_to (λ k. Joins n (step k)) (λ k. joins_or_not n (step k)) i j later

  -- while nobody joins the list it stays
  list_on : (i j n : ℕ) → i ≤ j → Calm i j → ((k : ℕ) → i ≤ k → k < j → Joins n (step k) → ⊥) →
      (scene j).core.queue n ≡ (scene i).core.queue n
  list_on i j n later calm none = along scene step run (λ w. w.core.queue n ≡ (scene i).core.queue n) i j later refl
      (λ k from below same. list_stays (scene k) (step k) n (calm k from below) (none k from below) ∙ same)

  -- the first waiter has come inside, and found the lock as it is
  looked : (i k : ℕ) (ws ls : List Entry) → Known i ws ls → i ≤ k → (e : Entry) (n : ℕ) →
      Has ((scene i).core.queue n) e →
      IsFirst ((scene i).core.queue n) e.seat → (scene i).core.owner n ≡ Nobody → Stays scene step e n i (suc k) →
      step k ≡ performs (Guard e.seat n) → (scene (suc k)).core.guard n ≡ suc e.seat → Goal i
  looked i k ws ls known later e n h first own stays enters inside = let s = e.seat in let m = suc k in
      let there = stays.here m (omega arith) (omega arith) in ⊎_elim
      (λ ended. by_end e n i (ended_from scene step e n i m (omega arith) stays ended))
      (λ z. let j = z.at in let from = z.later in ⊎_elim (λ g. g)
      (λ calm. ⊎_elim
      (λ join. let b = join.before in let a = join.from in
      by_join i join.at ws ls known a (calm_to i j join.at (omega arith) calm) join.holds.0 n join.holds.1 e n h)
      (λ none. let same = list_on i j n (omega arith) calm none in
      ⊎_elim
      (λ asked. let a : Entry = record { seat = n; stamp = 0; holds = false } in
      goal_from i j (omega arith) (known.more j (omega arith) ws (a ∷ ls) known.once (
        (λ x hx is. let yes = known.asked x hx in let l = lawful_at scene step run i in
            let t = ((l.base.owners.at x.seat).asked_taken yes).0 in let o = ap (scene i).core.owner is in
            let q = t.1 in absurd (cc)),
        known.each,
      )
      (wait_on i j (omega arith) calm ws known.wait)
      (λ x. ⊎_elim (λ is. ap (scene j).core.asked (ap (λ (y : Entry). y.seat) is) ∙ asked)
      (ask_on i j (omega arith) calm ls known.asked x))
      (omega arith) e n (stay i j (omega arith) calm e n h)))
      (λ hand. let l = lawful_at scene step run j in let w = (l.base.owners.at n).handed_stands hand.0 hand.1 in
      goal_from i j (omega arith) (by_handed w.0 n j w.1 (hand.1 ∙ ap Handed (sym w.2))))
      (asks k j s n z.heeds (omega arith) enters (e, stays.here k later (omega arith), refl)
      (λ x a b. z.inside x (omega arith) b) z.how (subst (λ q. IsFirst q s) (sym same) first)))
      (join_or_none i j n (omega arith)))
      (quiet_to i j (omega arith)))
      (goes_out scene step run go e n m there inside)

  by_free : (i : ℕ) (ws ls : List Entry) → Known i ws ls → (e : Entry) (n : ℕ) → Has ((scene i).core.queue n) e →
      IsFirst ((scene i).core.queue n) e.seat → (scene i).core.owner n ≡ Nobody → Goal i
  by_free i ws ls known e n h first own = let s = e.seat in ⊎_elim
      (λ inside. ⊎_elim (by_end e n i) (λ z. absurd (held_free scene step run go e n i own z))
      (goes_out scene step run go e n i h inside))
      (λ out. ⊎_elim (by_end e n i)
      (λ come. let in_it = enters scene step run e n i out come in
      looked i in_it.at ws ls known in_it.from e n h first own in_it.stays in_it.how in_it.inside)
      (comes_in scene step run go e n i h (due_called scene step run go i s n (inr (own, first)))))
      (number_is ((scene i).core.guard n) (suc s))

  by_given : (i : ℕ) (ws ls : List Entry) → Known i ws ls → (n : ℕ) →
      GivenTo ((scene i).core.owner n) ((scene i).core.queue n) → Goal i
  by_given i ws ls known n (to_first e h own) = by_handed e n i h own
  by_given i ws ls known n (to_none e h first own) = by_free i ws ls known e n h first own

  -- ---- a holder that waits for none

  by_holder : (i : ℕ) (ws ls : List Entry) → Known i ws ls → HasHolder (scene i).core → Goal i
  by_holder i ws ls known a = let n = a.lock in let e = a.waiter in let h = a.holder in
      let later = holders i h n a.owns a.idle in
      let j = later.0 in let after = later.1 in ⊎_elim (λ g. g)
      (λ calm. ⊎_elim
      (λ still. ⊎_elim (λ gone. absurd (gone still))
      (λ there. let x = there.1.0 in goal_from i j after (known.more j after (x ∷ ws) ls
      ((λ y hy is. let w = known.wait y hy in a.idle w.0 y w.1 (is ∙ there.1.2)), known.once) known.each
      (λ y. ⊎_elim (λ is. (there.0, subst (λ z. Has ((scene j).core.queue there.0) z) (sym is) there.1.1))
      (wait_on i j after calm ws known.wait y))
      (ask_on i j after calm ls known.asked) (omega arith) e n (stay i j after calm e n a.stands))) later.2)
      (λ gone. let r = given_later scene step run h n i j e after a.owns gone
      (λ k from before. stay i k from (calm_to i j k (omega arith) calm) e n a.stands) in
      let k = r.0 in let from = r.1 in let before = r.2 in goal_from i (suc k) (omega arith)
      (by_given (suc k) ws ls (known_at i (suc k) ws ls known (omega arith) (calm_to i j (suc k) (omega arith) calm)) n
      r.3))
      (taken_or_not ((scene j).core.owner n) h))
      (quiet_to i j after)

  by_leaf : (i : ℕ) (ws ls : List Entry) → Known i ws ls → Leaf (scene i).core → Goal i
  by_leaf i ws ls known (handed a) = by_handed a.waiter a.lock i a.stands a.owns
  by_leaf i ws ls known (free a) = by_free i ws ls known a.waiter a.lock a.stands a.first a.free
  by_leaf i ws ls known (holder a) = by_holder i ws ls known a
  by_leaf i ws ls known (link k) = ⊎_elim (by_end k.waiter k.lock i) (by_end k.owner k.place i)
      (link_breaks scene step run go i k)

  on : (fuel i : ℕ) (ws ls : List Entry) → Once ws → Once ls → AllWait scene step run i ws →
      AllAsked scene step run i ls →
      (scene i).core.seats + (scene i).core.locks < length ws + length ls + fuel → (e : Entry) (n : ℕ) →
      Has ((scene i).core.queue n) e → Goal i
  on zero i ws ls once each wait asked room e n h = let a = few scene step run i ws once wait in
      let b = few_asked scene step run i ls each asked in absurd (omega arith)
  on (suc fuel) i ws ls once each wait asked room e n h = by_leaf i ws ls (record {
    once = once;
    each = each;
    wait = wait;
    asked = asked;
    more = λ j later ws' ls' once' each' wait' asked' grown x m there.
        let same = seats_at scene step run i j later in let same' = locks_at scene step run i j later in
        on fuel j ws' ls' once' each' wait' asked' (omega arith) x m there;
  }) (leaf_of (scene i).core (orderly_at scene step run i).reached (lawful_at scene step run i) e n h)

pub waits_end : WaitsEnd
waits_end scene step run go holders asks i s n h =
    on scene step run go holders asks (suc ((scene i).core.seats + (scene i).core.locks)) i [] [] tt tt
    (λ e none. absurd none) (λ a none. absurd none)
    (omega arith) h.0 n h.1

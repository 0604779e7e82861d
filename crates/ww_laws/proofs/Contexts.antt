-- In Wait-Die each context gets each lock that it waits for, if programs come to an end.
use Rattle.std.proofs.Common.{◌≡◌, ◌≢◌, ◌⊎◌, inl, inr, ⊎_elim, ℕ, zero, suc, ◌+◌, ◌<◌, ◌≤◌, true, List, [], ◌∷◌, length, refl, sym, ap, ◌∙◌, subst, arith}
use Rattle.std.proofs.lemmas.Bool.{cases_lt}
use mathlib.Core.Logic.{dite}
use native.Mathlib.Decide.{ℕ_discrete}
use Rattle.ww_queue.specs.declared.kind.Kind.TheVariants.{WaitDie}
use Rattle.ww_queue.specs.declared.entry.Entry.{Entry}
use Rattle.ww_queue.specs.Queue.{Has, Stands, StandsNot, Once}
use Rattle.ww_queue.proofs.Aheads.{before_older, before_first}
use Rattle.ww_model.specs.declared.state.Holder.TheVariants.{Nobody, Taken, Handed}
use Rattle.ww_model.specs.declared.event.Event.{Event}
use Rattle.ww_model.specs.declared.event.Event.TheVariants.{Fast, FastGive, Take, Give, Die, End, Leave}
use Rattle.ww_model.specs.State.{State, OwnsNone, dies}
use Rattle.ww_model.specs.Event.{after, given_to}
use Rattle.ww_model.specs.Run.{Reached}
use Rattle.ww_model.proofs.Puts.{put_here, put_was}
use Rattle.ww_model.proofs.Holders.{not_given}
use Rattle.ww_model.proofs.Options.{some_of}
use Rattle.ww_model.proofs.Dues.{dies_why}
use Rattle.ww_model.proofs.Beyond.{stamps_beyond}
use Rattle.ww_laws.specs.Scene.{Scene, Step, performs, next}
use Rattle.ww_laws.specs.Sleepers.{IsEndlessRun}
use Rattle.ww_laws.specs.Premises.{InTheEnd, WaitersGoOn, HoldersRelease, WaitsForEver, RestsOn, IsOldestActive, IsOver, FirstsAsk, BacksOff, TakesContendedFirst, ContextsEndOrDie}
use Rattle.ww_laws.specs.GoingOn.{EndsWait, ContextsAreServed, OldestWaitDieIsServed}
use Rattle.ww_laws.specs.Backing.{ContextsAreOver}
use Rattle.ww_laws.proofs.Steps.{taken_next}
use Rattle.ww_laws.proofs.Endless.{holds_at}
use Rattle.ww_laws.proofs.Runs.{Ended, ended_from, until_at, orderly_at, lawful_at, kind_at, known_next, may_be, search_to, along}
use Rattle.ww_laws.proofs.Links.{Link, link_breaks}
use Rattle.ww_laws.proofs.Climbs.{owner_holds}
use Rattle.ww_laws.proofs.Dues.{handed_takes}
use Rattle.ww_laws.proofs.Progress.{seats_at, few}
use Rattle.ww_laws.proofs.Livelock.{after_death, joined_between}
use Rattle.ww_laws.proofs.Rests.{lives, rests_on, rests_stands_not, is_up}
use Rattle.ww_laws.proofs.Served.{same_context, drawn_on, never_ends, Locked, wait_ends}
use Rattle.ww_laws.proofs.OldestServed.{oldest_on}
use Rattle.ww_laws.proofs.Ending.{ends_or_not, same_on}

-- ---- who comes to own a lock

gained_after : (c : State) (v : Event) (s n : ℕ) → c.owner n ≢ Taken s → (after c v).owner n ≡ Taken s →
    (v ≡ Fast s n) ⊎ (v ≡ Take s n)
gained_after c (Fast t m) s n not has = ⊎_elim (λ a. let is = a.0 in let z = a.1 in inl (cc)) (λ a. absurd (not a.1))
    (put_was c.owner m (Taken t) n (λ o. o ≡ Taken s) has)
gained_after c (FastGive t m) s n not has = ⊎_elim (λ a. let z = a.1 in absurd (cc)) (λ a. absurd (not a.1))
    (put_was c.owner m Nobody n (λ o. o ≡ Taken s) has)
gained_after c (Take t m) s n not has = ⊎_elim (λ a. let is = a.0 in let z = a.1 in inr (cc)) (λ a. absurd (not a.1))
    (put_was c.owner m (Taken t) n (λ o. o ≡ Taken s) has)
gained_after c (Give t m) s n not has = ⊎_elim (λ a. absurd (not_given (c.asked m) (c.queue m) s a.1))
    (λ a. absurd (not a.1))
    (put_was c.owner m (given_to (c.asked m) (c.queue m)) n (λ o. o ≡ Taken s) has)
gained_after c _ s n not has = absurd (not has)

pub gained_next : (w : Scene) (x : Step) (s n : ℕ) → w.core.owner n ≢ Taken s → (next w x).core.owner n ≡ Taken s →
    (x ≡ performs (Fast s n)) ⊎ (x ≡ performs (Take s n))
gained_next w (performs v) s n not has =
    ⊎_elim (λ is. inl (ap performs is)) (λ is. inr (ap performs is)) (gained_after w.core v s n not has)
gained_next w _ s n not has = absurd (not has)

-- ---- which seat has the context with a stamp

find_below : (c : State) (b k : ℕ) → ((u : ℕ) × (c.stamp u ≡ b)) ⊎ ((u : ℕ) → u < k → c.stamp u ≢ b)
find_below c b zero = inr (λ u below. absurd (omega arith))
find_below c b (suc k) = ⊎_elim inl
    (λ none. dite (ℕ_discrete (c.stamp k) b) (λ is. inl (k, is))
    (λ isnt. inr (λ u below. dite (ℕ_discrete u k) (λ same is. isnt (ap c.stamp (sym same) ∙ is))
    (λ other. none u (omega arith)))))
    (find_below c b k)

pub find : (c : State) (b : ℕ) → Reached c → 0 < b → ((u : ℕ) × (c.stamp u ≡ b)) ⊎ ((u : ℕ) → c.stamp u ≢ b)
find c b reached some = ⊎_elim inl
    (λ none. inr (λ u is. ⊎_elim (λ below. none u below is)
    (λ beyond. let z = stamps_beyond c reached u beyond in absurd (omega arith)) (cases_lt u c.seats)))
    (find_below c b c.seats)

module _ (scene : ℕ → Scene) (step : ℕ → Step) (run : IsEndlessRun scene step) (go : WaitersGoOn scene step)
    (release : HoldersRelease scene step) (asks : FirstsAsk scene step) (backs : BacksOff scene step)
    (tries : TakesContendedFirst scene step) (ends : ContextsEndOrDie scene step) (start : ℕ)
    (dying : (scene start).core.kind ≡ WaitDie) where
  dying_at : (k : ℕ) → start ≤ k → (scene k).core.kind ≡ WaitDie
  dying_at k from = kind_at scene step run start k from ∙ dying

  abbrev stamp_at : ℕ → ℕ → ℕ
  stamp_at k t = (scene k).core.stamp t

  -- who waits for ever keeps a lock
  kept : (t n m k : ℕ) → (scene k).core.owner n ≡ Taken t → ((x : ℕ) → k ≤ x → Stands ((scene x).core.queue m) t) →
      (x : ℕ) → k ≤ x → (scene x).core.owner n ≡ Taken t
  kept t n m k own ever x from = along scene step run (λ w. w.core.owner n ≡ Taken t) k x from own
      (λ y after below has. taken_next (scene y) (step y) t n m (run.may y) (lawful_at scene step run y).base has
      (ever y after))

  -- ---- who died at a lock that another keeps gets none

  module _ (i j u x w : ℕ) (before : i < j) (died : step i ≡ performs (Die u x))
      (keeps : (k : ℕ) → i ≤ k → (scene k).core.owner x ≡ Taken w)
      (same : (k : ℕ) → i < k → k ≤ j → stamp_at k u ≡ stamp_at i u) where
    other : w ≢ u
    other is = let can = may_be scene step run i (performs (Die u x)) died in let o = can.possible.base.other in
        let own = keeps i (omega arith) in
        ⊎_elim (λ taken. o.1 (let z : o.0 ≡ w = cc in z ∙ is)) (λ handed. cc) o.2

    not_its : (k : ℕ) → i ≤ k → (scene k).core.owner x ≢ Taken u
    not_its k from has = let own = keeps k from in other (let z : w ≡ u = cc in z)

    gains : (k n : ℕ) → i < k → k ≤ j → (step k ≡ performs (Fast u n)) ⊎ (step k ≡ performs (Take u n)) → ⊥
    gains k n from to (inl fast) = let can = may_be scene step run k (performs (Fast u n)) fast in
        let at = tries i k u x n from died (inl fast) (λ y a b. (not_its y (omega arith), same y a (omega arith))) in
        let free = can.possible.base.idle.free in let own = ap (scene k).core.owner at ∙ keeps k (omega arith) in cc
    gains k n from to (inr take) = let can = may_be scene step run k (performs (Take u n)) take in
        let at = tries i k u x n from died (inr (inr take)) (λ y a b. (
          not_its y (omega arith),
          same y a
              (omega arith),
        )) in
        let own = ap (scene k).core.owner at ∙ keeps k (omega arith) in
        ⊎_elim (λ free. let z : ⊥ = cc in z) (λ handed. let z : ⊥ = cc in z) can.possible.base.free

    gets_none : (y : ℕ) → step j ≡ performs (Die u y) → ⊥
    gets_none y again = let can = may_be scene step run j (performs (Die u y)) again in
        let h = can.possible.base.waits in
        let join = joined_between scene step run (suc i) j u (omega arith) (after_death scene step run i u x died)
        (λ none. none y h.0 h.1 h.2) in let p = join.0 in let from = join.1 in let to = join.2 in
        let bare = backs i p u x join.3.0 (omega arith) died (inr (inl join.3.1)) in
        let since = bare.1 in let upto = bare.2 in
        let cause = some_of (dies (scene j).core u y) can.possible.signs in
        let d = dies_why (scene j).core u y cause.0 cause.1 in
        let own = ((lawful_at scene step run j).base.queues.at y).holds d.entry d.stands d.holds in
        (holds_at (λ k. OwnsNone (scene k).core u) bare.0 j (omega arith) bare.3
        (λ k a b none n has. gains k n (omega arith) (omega arith) (gained_next (scene k) (step k) u n (none n)
        (subst (λ (v : Scene). v.core.owner n ≡ Taken u) (run.goes_on k) has)))) own.0 (own.1 ∙ ap Taken d.seat)

  -- ---- older contexts wait for ever, rest, or are there no more

  -- the seat waits for ever, and another keeps the lock
  record IsFixed (t k : ℕ) : Type 0 where
    lock : ℕ
    stands : (x : ℕ) → k ≤ x → Stands ((scene x).core.queue lock) t
    owner : ℕ
    owns : (x : ℕ) → k ≤ x → (scene x).core.owner lock ≡ Taken owner

  fixed_on : (t k j : ℕ) → k ≤ j → IsFixed t k → IsFixed t j
  fixed_on t k j later f = record {
    lock = f.lock;
    stands = λ x from. f.stands x (omega arith);
    owner = f.owner;
    owns = λ x from. f.owns x (omega arith);
  }

  -- where it stands
  fixed_there : (t k n : ℕ) → Stands ((scene k).core.queue n) t → (f : IsFixed t k) → f.lock ≡ n
  fixed_there t k n h f = let g = f.stands k (omega arith) in
      (lawful_at scene step run k).base.queues.one_queue f.lock n g.0 h.0 g.1 h.1 (g.2 ∙ sym h.2)

  -- it is fixed, or rests
  abbrev IsSettled : ℕ → ℕ → Type 0
  IsSettled t k = IsFixed t k ⊎ RestsOn scene step t k

  -- each context with a stamp below this one is settled
  abbrev Settled : ℕ → ℕ → Type 0
  Settled b k = (t : ℕ) → 0 < stamp_at k t → stamp_at k t < b → IsSettled t k

  record SettledFrom (b k : ℕ) : Type 0 where
    at : ℕ
    from : k ≤ at
    settled : Settled b at

  settled_on : (b k j : ℕ) → k ≤ j → b ≤ (scene k).core.drawn → Settled b k → Settled b j
  settled_on b k j later drawn settled t some less =
      let same = same_context scene step run k j t b later drawn some (omega arith) in
      ⊎_elim (λ f. inl (fixed_on t k j later f)) (λ r. inr (rests_on scene step t k j later same r))
      (settled t (omega arith) (omega arith))

  -- so is the one with this stamp, if its seat is settled, or has that context no more
  settle : (b k j u : ℕ) → k ≤ j → 0 < b → b ≤ (scene k).core.drawn → Settled b k → stamp_at k u ≡ b →
      (stamp_at j u ≡ b → IsSettled u j) → Settled (suc b) j
  settle b k j u later some drawn settled its fix t there less = dite (ℕ_discrete (stamp_at j t) b)
      (λ is. let same = same_context scene step run k j t b later drawn there (omega arith) in
      let who = (lawful_at scene step run k).base.stamps.differ t u (omega arith) (same ∙ is ∙ sym its) in
      subst (λ s. IsSettled s j) (sym who) (fix (ap (scene j).core.stamp (sym who) ∙ is)))
      (λ isnt. settled_on b k j later drawn settled t there (omega arith))

  -- the lock where a waiter waits is locked up, or its wait ends
  locked_for : (e : Entry) (n k : ℕ) → Has ((scene k).core.queue n) e → 0 < e.stamp → Settled e.stamp k →
      Ended scene step e n k ⊎ Locked scene step run go release asks e n k
  locked_for e n k h some settled = wait_ends scene step run go release asks e n k (record {
    here = h;
    context = some;
    older = λ t there less. ⊎_elim (λ f. inl (f.lock, f.stands)) inr (settled t there less);
  })

  by_ever : (b k u : ℕ) → 0 < b → b ≤ (scene k).core.drawn → Settled b k → stamp_at k u ≡ b →
      WaitsForEver scene step u k → SettledFrom (suc b) k
  by_ever b k u some drawn settled its ever = let m = ever.0 in let h = ever.1 k (omega arith) in
      let stamp : h.0.stamp ≡ b =
      ((lawful_at scene step run k).base.queues.at m).stamps h.0 h.1 ∙ ap (scene k).core.stamp h.2 ∙ its in ⊎_elim
      (λ end. absurd (never_ends scene step run h.0 m k
      (λ x from. subst (Stands ((scene x).core.queue m)) (sym h.2) (ever.1 x from)) end))
      (λ l. let later = l.later in record {
        at = l.at;
        from = l.later;
        settled = settle b k l.at u l.later some drawn settled its (λ _. inl (record {
          lock = m;
          stands = λ x from. ever.1 x (omega arith);
          owner = l.owner;
          owns = l.owns;
        }));
      })
      (locked_for h.0 m k h.1 (omega arith) (subst (λ y. Settled y k) (sym stamp) settled))

  settled_from : (b k j : ℕ) → k ≤ j → SettledFrom b j → SettledFrom b k
  settled_from b k j later s = let more = s.from in record { at = s.at; from = omega arith; settled = s.settled }

  -- its context ends, or rests, or it waits for ever
  by_end : (b k j u : ℕ) → k ≤ j → 0 < b → b ≤ (scene k).core.drawn → Settled b k → stamp_at k u ≡ b →
      IsOver scene step u j ⊎ WaitsForEver scene step u j → SettledFrom (suc b) k
  by_end b k j u later some drawn settled its (inl (inr rests)) = record {
    at = j;
    from = later;
    settled = settle b k j u later some drawn settled its (λ _. inr rests);
  }
  by_end b k j u later some drawn settled its (inl (inl over)) = record {
    at = suc j;
    from = omega arith;
    settled = settle b k (suc j) u (omega arith) some drawn settled its
        (λ is. let none = known_next scene step run (λ w. w.core.stamp u ≡ 0) j (performs (End u)) over
        (put_here (scene j).core.stamp u 0) in absurd (omega arith));
  }
  by_end b k j u later some drawn settled its (inr ever) = dite (ℕ_discrete (stamp_at j u) b)
      (λ is. settled_from (suc b) k j later
      (by_ever b j u some (drawn_on scene step run k j b later drawn) (settled_on b k j later drawn settled) is ever))
      (λ isnt. record {
        at = j;
        from = later;
        settled = settle b k j u later some drawn settled its (λ is. absurd (isnt is));
      })

  -- where a context has to die another keeps the lock, which waits itself, if all older ones are fixed
  keeper : (b k u x : ℕ) → start ≤ k → Settled b k → stamp_at k u ≡ b → step k ≡ performs (Die u x) →
      (w : ℕ) × ((y : ℕ) → k ≤ y → (scene y).core.owner x ≡ Taken w)
  keeper b k u x from settled its died = let c = (scene k).core in let l = (lawful_at scene step run k).base in
      let can = may_be scene step run k (performs (Die u x)) died in
      let cause = some_of (dies c u x) can.possible.signs in let d = dies_why c u x cause.0 cause.1 in
      let stamp = (l.queues.at x).stamps d.entry d.stands ∙ ap c.stamp d.seat ∙ its in ⊎_elim
      (λ owner. let t = owner.0 in let a = owner.2 in let a' = owner.3 in let a'' = owner.4 in
      ⊎_elim
      (λ f. ⊎_elim
      (λ own. (t, kept t x f.lock k own f.stands))
      (λ own. let h = (l.owners.at x).handed_stands t own in
      let there = fixed_there t k x h f in absurd (never_ends scene step run h.0 x k
      (λ y after. subst (Stands ((scene y).core.queue x)) (sym h.2)
      (subst (λ m. Stands ((scene y).core.queue m) t) there (f.stands y after)))
      (handed_takes scene step run go h.0 x k h.1 (own ∙ ap Handed (sym h.2))).0))
      owner.1)
      (λ r. ⊎_elim (λ own. absurd ((r k (omega arith) refl).0 x own))
      (λ own. absurd (rests_stands_not scene step k t x r ((l.owners.at x).handed_stands t own))) owner.1)
      (settled t (omega arith) (omega arith)))
      (λ ahead. let e = ahead.0 in let there = before_first (c.queue x) e d.entry ahead.1 in
      let older = before_older (c.queue x) e d.entry (l.queues.at x).ascends ahead.1 ahead.2 d.context in
      let mine = (l.queues.at x).stamps e there in let some = ahead.2 in
      ⊎_elim
      (λ f. let at = fixed_there e.seat k x (e, there, refl) f in
      (f.owner, λ y after. subst (λ m. (scene y).core.owner m ≡ Taken f.owner) at (f.owns y after)))
      (λ r. absurd (rests_stands_not scene step k e.seat x r (e, there, refl)))
      (settled e.seat (omega arith) (omega arith)))
      (d.older (dying_at k from))

  -- it dies
  by_death : (b k u x : ℕ) → start ≤ k → 0 < b → b ≤ (scene k).core.drawn → Settled b k → stamp_at k u ≡ b →
      step k ≡ performs (Die u x) → SettledFrom (suc b) k
  by_death b k u x from some drawn settled its died = let w = keeper b k u x from settled its died in
      let after : stamp_at (suc k) u ≡ b =
      known_next scene step run (λ v. v.core.stamp u ≡ b) k (performs (Die u x)) died its in
      let drawn' = drawn_on scene step run k (suc k) b (omega arith) drawn in
      let settled' = settled_on b k (suc k) (omega arith) drawn settled in
      let end = ends (suc k) u (omega arith) in let j = end.0 in let later = end.1 in
      settled_from (suc b) k (suc k) (omega arith) (⊎_elim
      (λ over. by_end b (suc k) j u later some drawn' settled' after (inl over))
      (⊎_elim (λ ever. by_end b (suc k) j u later some drawn' settled' after (inr ever))
      (λ again. dite (ℕ_discrete (stamp_at j u) b)
      (λ is. absurd (gets_none k j u x w.0 (omega arith) died w.1
      (λ y a z. same_context scene step run y j u b z (drawn_on scene step run k y b (omega arith) drawn) (omega arith)
      (omega arith) ∙ is ∙ sym its) again.0 again.1))
      (λ isnt. record {
        at = j;
        from = later;
        settled = settle b (suc k) j u later some drawn' settled' after (λ is. absurd (isnt is));
      })))
      end.2)

  -- one context more
  more : (b k : ℕ) → start ≤ k → b ≤ (scene k).core.drawn → Settled b k → SettledFrom (suc b) k
  more b k from drawn settled = dite (ℕ_discrete b 0)
      (λ none. record { at = k; from = omega arith; settled = λ t some less. absurd (omega arith) })
      (λ some. ⊎_elim
      (λ u. let its = u.1 in let end = ends k u.0 (omega arith) in let j = end.0 in let later = end.1 in ⊎_elim
      (λ over. by_end b k j u.0 later (omega arith) drawn settled its (inl over))
      (⊎_elim (λ ever. by_end b k j u.0 later (omega arith) drawn settled its (inr ever))
      (λ died. dite (ℕ_discrete (stamp_at j u.0) b)
      (λ is. settled_from (suc b) k j later (by_death b j u.0 died.0 (omega arith) (omega arith)
      (drawn_on scene step run k j b later drawn) (settled_on b k j later drawn settled) is died.1))
      (λ isnt. record {
        at = j;
        from = later;
        settled = settle b k j u.0 later (omega arith) drawn settled its (λ is. absurd (isnt is));
      })))
      end.2)
      (λ none. record {
        at = k;
        from = omega arith;
        settled = λ t there less. dite (ℕ_discrete (stamp_at k t) b) (λ is. absurd (none t is))
            (λ isnt. settled t there (omega arith));
      })
      (find (scene k).core b (orderly_at scene step run k).reached (omega arith)))

  settled_to : (b k : ℕ) → start ≤ k → b ≤ (scene k).core.drawn → SettledFrom b k
  settled_to zero k from drawn = record { at = k; from = omega arith; settled = λ t some less. absurd (omega arith) }
  settled_to (suc b) k from drawn = let s = settled_to b k from (omega arith) in let later = s.from in
      settled_from (suc b) k s.at later
      (more b s.at (omega arith) (drawn_on scene step run k s.at b later (omega arith)) s.settled)

  -- ---- from an owner to the next

  -- a waiter keeps its entry while it stands in the list
  ever_has : (f : Entry) (m k : ℕ) → Has ((scene k).core.queue m) f →
      ((x : ℕ) → k ≤ x → Stands ((scene x).core.queue m) f.seat) → (x : ℕ) → k ≤ x → Has ((scene x).core.queue m) f
  ever_has f m k h ever x from = ⊎_elim (λ end. absurd (never_ends scene step run f m k ever end))
      (λ stays. stays.here x from (omega arith)) (until_at scene step f m k x from run h)

  -- each of these waits for ever
  abbrev AllEver : ℕ → List Entry → Type 0
  AllEver k ws = (y : Entry) → Has ws y → (m : ℕ) × ((x : ℕ) → k ≤ x → Has ((scene x).core.queue m) y)

  -- the owner that keeps the lock of one that waits for ever is younger
  younger : (f g : Entry) (m o k : ℕ) → start ≤ k → ((x : ℕ) → k ≤ x → Has ((scene x).core.queue m) f) →
      ((x : ℕ) → k ≤ x → Has ((scene x).core.queue o) g) → f.holds ≡ true → 0 < f.stamp →
      (scene k).core.owner m ≡ Taken g.seat → f.stamp < g.stamp
  younger f g m o k from fs gs holds some own = let l = lawful_at scene step run k in
      let here = fs k (omega arith) in let there = gs k (omega arith) in
      let has = owner_holds (scene k).core l g m o there own in
      let mine = (l.base.queues.at m).stamps f here in let its = (l.base.queues.at o).stamps g there in
      let isnt : f.stamp ≢ g.stamp = (λ is. (l.base.owners.at m).taken_stands_not g.seat own f here
      (l.base.stamps.differ f.seat g.seat (omega arith) (omega arith))) in ⊎_elim
      (λ less. let link : Link (scene k).core = record {
        waiter = f;
        lock = m;
        stands = here;
        holds = holds;
        context = some;
        owner = g;
        place = o;
        waits = there;
        owns = own;
        wounds = λ wounding. let z = dying_at k from in absurd (cc);
        dies = λ _. (has.1, less);
      } in absurd (⊎_elim
      (never_ends scene step run f m k (λ x a. (f, fs x a, refl)))
      (never_ends scene step run g o k (λ x a. (g, gs x a, refl)))
      (link_breaks scene step run go k link)))
      (λ most. omega arith)
      (cases_lt g.stamp f.stamp)

  -- with these waits the owner that keeps the lock of the youngest
  next_of_chain : (k : ℕ) (ws : List Entry) → start ≤ k → Once ws → AllEver k ws → (f : Entry) (m : ℕ) →
      ((x : ℕ) → k ≤ x → Has ((scene x).core.queue m) f) → f.holds ≡ true → 0 < f.stamp →
      ((y : Entry) → Has ws y → y.stamp ≤ f.stamp) → ((p : ℕ) → k ≤ p → (g : Entry) (o : ℕ) →
      StandsNot ws g.seat → AllEver p (g ∷ ws) → ((x : ℕ) → p ≤ x → Has ((scene x).core.queue o) g) →
      g.holds ≡ true → 0 < g.stamp → ((y : Entry) → Has (g ∷ ws) y → y.stamp ≤ g.stamp) → ⊥) → ⊥
  next_of_chain k ws from once all f m fs holds some old next = let l = (lawful_at scene step run k).base in
      let here = fs k (omega arith) in let mine = (l.queues.at m).stamps f here in let bound = l.stamps.below f.seat in
      let s = settled_to f.stamp k from (omega arith) in let at = s.from in ⊎_elim
      (λ end. never_ends scene step run f m s.at (λ x a. (f, fs x (omega arith), refl)) end)
      (λ locked. let p = locked.at in let later = locked.later in let o = locked.ever.0 in
      let h = locked.ever.1 p (omega arith) in let g = h.0 in
      let gs = ever_has g o p h.1 (λ x a. subst (Stands ((scene x).core.queue o)) (sym h.2) (locked.ever.1 x a)) in
      let own = locked.owns p (omega arith) ∙ ap Taken (sym h.2) in
      let l' = lawful_at scene step run p in let has = owner_holds (scene p).core l' g m o h.1 own in
      let less = younger f g m o p (omega arith) (λ x a. fs x (omega arith)) gs holds some own in
      next p (omega arith) g o
      (λ y hy is. let z = all y hy in let its = (l'.base.queues.at z.0).stamps y (z.1 p (omega arith)) in
      let same = ap (scene p).core.stamp is in let theirs = (l'.base.queues.at o).stamps g h.1 in
      let low = old y hy in omega arith)
      (λ y. ⊎_elim (λ is. (o, λ x a. subst (Has ((scene x).core.queue o)) (sym is) (gs x a)))
      (λ hy. let z = all y hy in (z.0, λ x a. z.1 x (omega arith))))
      gs has.0 has.1
      (λ y. ⊎_elim (λ is. let same = ap (λ (z : Entry). z.stamp) is in omega arith)
      (λ hy. let low = old y hy in omega arith)))
      (locked_for f m s.at (fs s.at at) some s.settled)

  -- So there are ever more of them: each waits for a younger one.
  no_chain : (fuel k : ℕ) (ws : List Entry) → start ≤ k → Once ws → AllEver k ws → (f : Entry) (m : ℕ) →
      ((x : ℕ) → k ≤ x → Has ((scene x).core.queue m) f) → f.holds ≡ true → 0 < f.stamp →
      ((y : Entry) → Has ws y → y.stamp ≤ f.stamp) → (scene k).core.seats < length ws + fuel → ⊥
  no_chain zero k ws from once all f m fs holds some old room =
      let full = few scene step run k ws once (λ y hy. let z = all y hy in (z.0, z.1 k (omega arith))) in omega arith
  no_chain (suc fuel) k ws from once all f m fs holds some old room =
      next_of_chain k ws from once all f m fs holds some old (λ p later g o new all' gs holds' some' old'.
      let same = seats_at scene step run k p later in
      no_chain fuel p (g ∷ ws) (omega arith) (new, once) all' g o gs holds' some' old' (omega arith))

  -- ---- the wait of a context ends

  context_ends : (e : Entry) (n k : ℕ) → start ≤ k → Has ((scene k).core.queue n) e → 0 < e.stamp →
      Ended scene step e n k
  context_ends e n k from h some = let l = (lawful_at scene step run k).base in let mine = (l.queues.at n).stamps e h in
      let bound = l.stamps.below e.seat in let s = settled_to e.stamp k from (omega arith) in let at = s.from in
      ⊎_elim (λ end. end)
      (λ stays. ⊎_elim (λ end. ended_from scene step e n k s.at at stays end)
      (λ locked. let p = locked.at in let later = locked.later in let o = locked.ever.0 in
      let h' = locked.ever.1 p (omega arith) in let g = h'.0 in
      let gs = ever_has g o p h'.1 (λ x a. subst (Stands ((scene x).core.queue o)) (sym h'.2) (locked.ever.1 x a)) in
      let own = locked.owns p (omega arith) ∙ ap Taken (sym h'.2) in
      let has = owner_holds (scene p).core (lawful_at scene step run p) g n o h'.1 own in
      absurd (no_chain (suc (scene p).core.seats) p (g ∷ []) (omega arith) ((λ y none. absurd none), tt)
      (λ y. ⊎_elim (λ is. (o, λ x a. subst (Has ((scene x).core.queue o)) (sym is) (gs x a))) (λ none. absurd none))
      g o gs has.0 has.1
      (λ y. ⊎_elim (λ is. let same = ap (λ (z : Entry). z.stamp) is in omega arith) (λ none. absurd none))
      (omega arith)))
      (locked_for e n s.at (stays.here s.at at (omega arith)) some s.settled))
      (until_at scene step e n k s.at at run h)

  -- ---- each context is over

  over_in_the_end : (s k : ℕ) → start ≤ k → 0 < stamp_at k s → InTheEnd k (IsOver scene step s)
  over_in_the_end s k from some = let b = stamp_at k s in let bound = (lawful_at scene step run k).base.stamps.below s in
      let old = settled_to b k from (omega arith) in let first = old.from in
      let all = more b old.at (omega arith) (drawn_on scene step run k old.at b first (omega arith)) old.settled in
      let j = all.at in let later = all.from in dite (ℕ_discrete (stamp_at j s) b)
      (λ is. ⊎_elim
      (λ f. let h = f.stands j (omega arith) in
      let mine = ((lawful_at scene step run j).base.queues.at f.lock).stamps h.0 h.1 in
      let same = ap (scene j).core.stamp h.2 in
      absurd (never_ends scene step run h.0 f.lock j
      (λ x after. subst (Stands ((scene x).core.queue f.lock)) (sym h.2) (f.stands x after))
      (context_ends h.0 f.lock j (omega arith) h.1 (omega arith))))
      (λ rests. (j, omega arith, inr rests))
      (all.settled s (omega arith) (omega arith)))
      (λ isnt. ⊎_elim (λ found. (found.at, found.from, inl found.holds))
      (λ on. absurd (isnt (same_on scene step run s k j (omega arith) some on)))
      (search_to (λ x. step x ≡ performs (End s)) (λ x. ends_or_not s (step x)) k j (omega arith)))

pub contexts_are_over : ContextsAreOver
contexts_are_over scene step run go release ends asks backs tries = λ i s dying some.
    over_in_the_end scene step run go release asks backs tries ends i dying s i (omega arith) some

pub contexts_are_served : ContextsAreServed
contexts_are_served scene step run go release ends asks backs tries i s n dying some h =
    let mine = ((lawful_at scene step run i).base.queues.at n).stamps h.0 h.1 in
    let same = ap (scene i).core.stamp h.2 in
    let end = context_ends scene step run go release asks backs tries ends i dying h.0 n i (omega arith) h.1
    (omega arith) in (end.at, end.later, subst (λ x. EndsWait x n (step end.at)) h.2 end.ends)

pub oldest_wait_die_is_served : OldestWaitDieIsServed
oldest_wait_die_is_served scene step run go release ends asks backs tries i s n dying old h =
    let e = h.0 in let l = (lawful_at scene step run i).base in let mine = (l.queues.at n).stamps e h.1 in
    let old' = subst (λ u. IsOldestActive scene step u i) (sym h.2) old in let some = old'.context in
    let end = context_ends scene step run go release asks backs tries ends i dying e n i (omega arith) h.1
    (omega arith) in
    let j = end.at in let c = (scene j).core in (
      j,
      end.later,
      ⊎_elim (λ take. inl (take ∙ ap (λ u. performs (Take u n)) h.2))
          (⊎_elim
          (λ die. let can = may_be scene step run j (performs (Die e.seat n)) die in
          let cause = some_of (dies c e.seat n) can.possible.signs in
          absurd (lives c (lawful_at scene step run j).base e.seat
          (is_up scene step e.seat j (oldest_on scene step run go e n i j end.later end.stays old'))
          (kind_at scene step run i j end.later ∙ dying) n cause.0 (dies_why c e.seat n cause.0 cause.1)))
          (λ leaves. inr (leaves ∙ ap (λ u. performs (Leave u n)) h.2)))
          end.ends,
    )

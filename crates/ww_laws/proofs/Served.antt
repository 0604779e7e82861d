-- A context ahead of which nobody comes gets its lock, or an owner that waits itself keeps it.
use Rattle.std.proofs.Common.{◌≡◌, ◌≢◌, ◌⊎◌, inl, inr, ⊎_elim, ℕ, zero, suc, ◌+◌, ◌<◌, ◌≤◌, Bool, true, false, List, [], ◌∷◌, refl, sym, ap, ◌∙◌, subst, arith}
use Rattle.std.proofs.lemmas.Bool.{cases_Bool}
use mathlib.Core.Logic.{dite}
use native.Mathlib.Decide.{ℕ_discrete}
use Rattle.ww_queue.specs.declared.entry.Entry.{Entry}
use Rattle.ww_queue.specs.Entry.{is_older}
use Rattle.ww_queue.specs.Queue.{Has, Before, Stands, StandsNot, Ascends, left}
use Rattle.ww_queue.proofs.Outcomes.{older_true}
use Rattle.ww_queue.proofs.Leaves.{left_gone}
use Rattle.ww_model.specs.declared.state.Holder.{Holder}
use Rattle.ww_model.specs.declared.state.Holder.TheVariants.{Nobody, Taken, Handed}
use Rattle.ww_model.specs.declared.event.Event.{Event}
use Rattle.ww_model.specs.declared.event.Event.TheVariants.{Begin, End, Fast, FastGive, Guard, Join, Take, Give}
use Rattle.ww_model.specs.State.{State, HasOther, waiter_of}
use Rattle.ww_model.specs.Event.{after, given_to}
use Rattle.ww_model.specs.Lawful.{IsBase}
use Rattle.ww_model.proofs.Puts.{put_here, put_cases, put_was}
use Rattle.ww_model.proofs.Cancels.{not_free}
use Rattle.ww_model.proofs.Holders.{not_given}
use Rattle.ww_laws.specs.Scene.{Scene, Step, performs, May, next}
use Rattle.ww_laws.specs.Sleepers.{IsEndlessRun}
use Rattle.ww_laws.specs.Premises.{WaitersGoOn, HoldersRelease, WaitsForEver, RestsOn, FirstsAsk}
use Rattle.ww_laws.specs.GoingOn.{EndsWait}
use Rattle.ww_laws.proofs.Steps.{by_event, taken_or_not, taken_next, list_next, not_whose, asked_next}
use Rattle.ww_laws.proofs.Runs.{number_is, Stays, Ended, Comes, Sleeps, stays_more, stays_less, ended_from, until_at, lawful_at, made_next, known_next, may_be, enters, release_between, comes_in, goes_out, along}
use Rattle.ww_laws.proofs.Dues.{due_called, handed_ends, handed_takes, held_free}
use Rattle.ww_laws.proofs.Rests.{rests_on, rests_stands_not, rests_joins_none}
use Rattle.ww_laws.proofs.Ahead.{ahead, Leads, ahead_left, ahead_less, before_left, leads_left, ahead_joined, before_joined, leads_joined, none_older}

-- ---- of one step

-- the list without it
list_then : (w : Scene) (x : Step) (s n : ℕ) → EndsWait s n x → (next w x).core.queue n ≡ left (w.core.queue n) s
list_then w x s n (inl is) = ap (λ y. (next w y).core.queue n) is ∙ put_here w.core.queue n (left (w.core.queue n) s)
list_then w x s n (inr (inl is)) = ap (λ y. (next w y).core.queue n) is ∙
    put_here w.core.queue n (left (w.core.queue n) s)
list_then w x s n (inr (inr is)) = ap (λ y. (next w y).core.queue n) is ∙
    put_here w.core.queue n (left (w.core.queue n) s)

-- whose wait ends stands in the list no more
pub gone : (w : Scene) (x : Step) (s n : ℕ) → IsBase w.core → EndsWait s n x → StandsNot ((next w x).core.queue n) s
gone w x s n l ends = subst (λ q. StandsNot q s) (sym (list_then w x s n ends))
    (left_gone (w.core.queue n) s (l.queues.at n).once)

-- ---- contexts

-- A context that isn't younger than a stamp that was drawn is the seat's for as long.
context_after : (c : State) (v : Event) (t b : ℕ) → b ≤ c.drawn →
    (b ≤ (after c v).drawn) × (0 < (after c v).stamp t → (after c v).stamp t ≤ b → c.stamp t ≡ (after c v).stamp t)
context_after c (Begin s) t b drawn = (
  omega arith,
  put_cases c.stamp s (c.drawn + 1) t
      (λ y. 0 < y → y ≤ b → c.stamp t ≡ y) (λ _ _ old. absurd (omega arith)) (λ _ _ _. refl),
)
context_after c (End s) t b drawn = (
  drawn,
  put_cases c.stamp s 0 t (λ y. 0 < y → y ≤ b → c.stamp t ≡ y)
      (λ _ some. absurd (omega arith)) (λ _ _ _. refl),
)
context_after c _ t b drawn = (drawn, λ _ _. refl)

abbrev IsSameContext : State → ℕ → ℕ → State → Type 0
IsSameContext c t b d = (b ≤ d.drawn) × (0 < d.stamp t → d.stamp t ≤ b → c.stamp t ≡ d.stamp t)

context_next : (w : Scene) (x : Step) (t b : ℕ) → May w x → b ≤ w.core.drawn →
    IsSameContext w.core t b (next w x).core
context_next w x t b may drawn = by_event (IsSameContext w.core t b) w x may (drawn, λ _ _. refl)
    (λ v _ _. context_after w.core v t b drawn)

module _ (scene : ℕ → Scene) (step : ℕ → Step) (run : IsEndlessRun scene step) where
  same_contexts : (k j t b : ℕ) → k ≤ j → b ≤ (scene k).core.drawn →
      IsSameContext (scene k).core t b (scene j).core
  same_contexts k j t b later drawn = along scene step run (λ w. IsSameContext (scene k).core t b w.core) k j later
      (drawn, λ _ _. refl)
      (λ x _ _ so. let one = context_next (scene x) (step x) t b (run.may x) so.0 in
      (one.0, λ some old. let same = one.1 some old in so.1 (omega arith) (omega arith) ∙ same))

  pub same_context : (k j t b : ℕ) → k ≤ j → b ≤ (scene k).core.drawn → 0 < (scene j).core.stamp t →
      (scene j).core.stamp t ≤ b → (scene k).core.stamp t ≡ (scene j).core.stamp t
  same_context k j t b later drawn some old = (same_contexts k j t b later drawn).1 some old

  pub drawn_on : (k j b : ℕ) → k ≤ j → b ≤ (scene k).core.drawn → b ≤ (scene j).core.drawn
  drawn_on k j b later drawn = (same_contexts k j 0 b later drawn).0

  -- who waits in the list of one lock does so later too
  pub ever_on : (t k j : ℕ) → k ≤ j → WaitsForEver scene step t k → WaitsForEver scene step t j
  ever_on t k j later ever = (ever.0, λ x from. ever.1 x (omega arith))

  -- who stands in a list all the time doesn't end its wait there
  pub never_ends : (f : Entry) (m k : ℕ) → ((x : ℕ) → k ≤ x → Stands ((scene x).core.queue m) f.seat) →
      Ended scene step f m k → ⊥
  never_ends f m k ever end = let y = end.at in let later = end.later in let on = ever (suc y) (omega arith) in
      made_next scene step run (λ v. StandsNot (v.core.queue m) f.seat) y
      (gone (scene y) (step y) f.seat m (lawful_at scene step run y).base end.ends) on.0 on.1 on.2

  -- who stands in a list joins none
  joins_none : (k t n : ℕ) → WaitsForEver scene step t k → step k ≡ performs (Join t n) → ⊥
  joins_none k t n ever is = let h = ever.1 k (omega arith) in let l = (lawful_at scene step run k).base in
      let can = may_be scene step run k (performs (Join t n)) is in
      let at : ever.0 ≡ n = l.guards.own_guard ever.0 n h.0 h.1 (can.possible.base.inside.guard ∙ ap suc (sym h.2)) in
      can.possible.base.not_waiting h.0 (subst (λ m. Has ((scene k).core.queue m) h.0) at h.1) h.2

-- nobody comes to stand ahead of it
ahead_next : (w : Scene) (x : Step) (n : ℕ) (e : Entry) → IsBase w.core → Has (w.core.queue n) e → 0 < e.stamp →
    ((t : ℕ) → x ≡ performs (Join t n) → is_older (w.core.stamp t) e.stamp ≡ false) → (EndsWait e.seat n x → ⊥) →
    ahead ((next w x).core.queue n) e.seat ≤ ahead (w.core.queue n) e.seat
ahead_next w x n e l h some not on = let q = w.core.queue n in
    list_next (λ p. ahead p e.seat ≤ ahead q e.seat) w x n (omega arith)
    (λ t joins. ahead_joined q (waiter_of w.core t) e (l.queues.at n).ascends some h (not t joins))
    (λ t ends. ahead_left q t e.seat (λ own. not_whose e.seat t n x on ends (sym own)))

-- two waiters keep their order
before_next : (w : Scene) (x : Step) (n : ℕ) (f e : Entry) → (EndsWait f.seat n x → ⊥) → (EndsWait e.seat n x → ⊥) →
    Before (w.core.queue n) f e → Before ((next w x).core.queue n) f e
before_next w x n f e a b h = let q = w.core.queue n in list_next (λ p. Before p f e) w x n h
    (λ t _. before_joined q (waiter_of w.core t) f e h)
    (λ t ends. before_left q t f e (not_whose f.seat t n x a ends) (not_whose e.seat t n x b ends) h)

-- the first stays the first, if no older context joins the list
leads_next : (w : Scene) (x : Step) (n : ℕ) (f : Entry) → (EndsWait f.seat n x → ⊥) →
    ((t : ℕ) → x ≡ performs (Join t n) → is_older (w.core.stamp t) f.stamp ≡ false) →
    Leads (w.core.queue n) f → Leads ((next w x).core.queue n) f
leads_next w x n f on not h = let q = w.core.queue n in list_next (λ p. Leads p f) w x n h
    (λ t joins. leads_joined q (waiter_of w.core t) f (not t joins) h)
    (λ t ends. leads_left q t f (not_whose f.seat t n x on ends) h)

-- a lock is handed only to the first
handed_is : (asked : Bool) (q : List Entry) (f : Entry) (g : ℕ) → Leads q f → given_to asked q ≡ Handed g → g ≡ f.seat
handed_is asked [] f g first is = let z = first.1 in absurd (cc)
handed_is true (x ∷ xs) f g first is = let z = first.1 in let same : x ≡ f = cc in let y : x.seat ≡ g = cc in
    sym y ∙ ap (λ (u : Entry). u.seat) same
handed_is false (x ∷ xs) f g first is = absurd (cc)

abbrev OnlyFor : State → ℕ → Entry → Type 0
OnlyFor c n f = (g : ℕ) → c.owner n ≡ Handed g → g ≡ f.seat

only_after : (c : State) (v : Event) (n : ℕ) (f : Entry) → Leads (c.queue n) f → OnlyFor c n f → OnlyFor (after c v) n f
only_after c (Fast t m) n f first only g is = ⊎_elim (λ a. let z = a.1 in absurd (cc)) (λ a. only g a.1)
    (put_was c.owner m (Taken t) n (λ o. o ≡ Handed g) is)
only_after c (FastGive t m) n f first only g is = ⊎_elim (λ a. let z = a.1 in absurd (cc)) (λ a. only g a.1)
    (put_was c.owner m Nobody n (λ o. o ≡ Handed g) is)
only_after c (Take t m) n f first only g is = ⊎_elim (λ a. let z = a.1 in absurd (cc)) (λ a. only g a.1)
    (put_was c.owner m (Taken t) n (λ o. o ≡ Handed g) is)
only_after c (Give t m) n f first only g is = ⊎_elim
    (λ a. handed_is (c.asked m) (c.queue m) f g (subst (λ k. Leads (c.queue k) f) a.0 first) a.1) (λ a. only g a.1)
    (put_was c.owner m (given_to (c.asked m) (c.queue m)) n (λ o. o ≡ Handed g) is)
only_after c _ n f first only g is = only g is

only_next : (w : Scene) (x : Step) (n : ℕ) (f : Entry) → May w x → Leads (w.core.queue n) f → OnlyFor w.core n f →
    OnlyFor (next w x).core n f
only_next w x n f may first only = by_event (λ d. OnlyFor d n f) w x may only
    (λ e _ _. only_after w.core e n f first only)

-- so it is handed to nobody that leaves the guard where another has the lock
not_handed : (c : State) (n : ℕ) (f : Entry) → HasOther c f.seat n → OnlyFor c n f → (g : ℕ) → c.owner n ≡ Handed g → ⊥
not_handed c n f other only g is = not_free (c.owner n) f.seat other
    (inr (subst (λ x. c.owner n ≡ Handed x) (only g is) is))

not_both : (o : Holder) (g : ℕ) → o ≡ Nobody → o ≡ Handed g → ⊥
not_both o g a b = cc

-- a lock that was asked for stays so while its owner has it and a waiter stands in the list
asked_stays : (w : Scene) (x : Step) (n b : ℕ) (e : Entry) → May w x →
    (w.core.owner n ≡ Taken b) × ((next w x).core.owner n ≡ Taken b) → Has ((next w x).core.queue n) e →
    w.core.asked n ≡ true → (next w x).core.asked n ≡ true
asked_stays w x n b e may own there asked = asked_next w x n e may (b, own.0) there asked
    (λ s gives. let c = w.core in not_given (c.asked n) (c.queue n) b
    (sym (ap (λ y. (next w y).core.owner n) gives ∙ put_here c.owner n (given_to (c.asked n) (c.queue n))) ∙ own.1))

-- ---- along a run

module _ (scene : ℕ → Scene) (step : ℕ → Step) (run : IsEndlessRun scene step) (go : WaitersGoOn scene step)
    (release : HoldersRelease scene step) (asks : FirstsAsk scene step) (e : Entry) (n : ℕ) where
  -- the lock has one owner from some time on, which waits itself all the time
  pub record Locked (k : ℕ) : Type 0 where
    pub at : ℕ
    pub later : k ≤ at
    pub owner : ℕ
    pub owns : (x : ℕ) → at ≤ x → (scene x).core.owner n ≡ Taken owner
    pub ever : WaitsForEver scene step owner at

  -- the wait ends, or the lock is locked up
  abbrev pub Out : ℕ → Type 0
  Out k = Ended scene step e n k ⊎ Locked k

  -- the waiter has a context, and stands in the list; and each older context waits for ever, or rests on
  pub record Waits (k : ℕ) : Type 0 where
    pub here : Has ((scene k).core.queue n) e
    pub context : 0 < e.stamp
    pub older : (t : ℕ) → 0 < (scene k).core.stamp t → (scene k).core.stamp t < e.stamp →
        WaitsForEver scene step t k ⊎ RestsOn scene step t k

  abbrev ahead_at : ℕ → ℕ
  ahead_at k = ahead ((scene k).core.queue n) e.seat

  -- it still does later, and no more stand ahead of it
  record Still (k j : ℕ) : Type 0 where
    waits : Waits j
    few : ahead_at j ≤ ahead_at k

  -- later it does, and fewer stand ahead of it
  record Less (k : ℕ) : Type 0 where
    at : ℕ
    later : k ≤ at
    waits : Waits at
    fewer : ahead_at at < ahead_at k

  abbrev Goal : ℕ → Type 0
  Goal k = Out k ⊎ Less k

  old_drawn : (k : ℕ) → Waits k → e.stamp ≤ (scene k).core.drawn
  old_drawn k w = let l = (lawful_at scene step run k).base in let same = (l.queues.at n).stamps e w.here in
      let bound = l.stamps.below e.seat in omega arith

  older_on : (k j : ℕ) → k ≤ j → Waits k → (t : ℕ) → 0 < (scene j).core.stamp t →
      (scene j).core.stamp t < e.stamp → WaitsForEver scene step t j ⊎ RestsOn scene step t j
  older_on k j later w t some old =
      let same = same_context scene step run k j t e.stamp later (old_drawn k w) some (omega arith) in
      ⊎_elim (λ ever. inl (ever_on scene step run t k j later ever))
      (λ rests. inr (rests_on scene step t k j later same rests)) (w.older t (omega arith) (omega arith))

  -- no seat joins the list as an older context
  joins_younger : (k : ℕ) (f : Entry) → Waits k → f.stamp ≤ e.stamp → (t : ℕ) → step k ≡ performs (Join t n) →
      is_older ((scene k).core.stamp t) f.stamp ≡ false
  joins_younger k f w old t is = ⊎_elim
      (λ older. let o = older_true ((scene k).core.stamp t) f.stamp older in let a = o.0 in let b = o.1 in
      absurd (⊎_elim (λ ever. joins_none scene step run k t n ever is)
      (λ rests. rests_joins_none scene step run k t n rests is) (w.older t a (omega arith)))) (λ not. not)
      (cases_Bool (is_older ((scene k).core.stamp t) f.stamp))

  still_at : (k j : ℕ) → k ≤ j → Waits k → Stays scene step e n k j → Still k j
  still_at k j later w stays = record {
    waits = waits_at j later (omega arith);
    few = along scene step run (λ y. ahead (y.core.queue n) e.seat ≤ ahead_at k) k j later (omega arith)
        (λ x from below less. let v = waits_at x from (omega arith) in
        let one = ahead_next (scene x) (step x) n e (lawful_at scene step run x).base v.here w.context
        (joins_younger x e v (omega arith)) (stays.on x from below) in omega arith);
  }
    where
      waits_at : (x : ℕ) → k ≤ x → x ≤ j → Waits x
      waits_at x from to = record { here = stays.here x from to; context = w.context; older = older_on k x from w }

  stay : (k j : ℕ) → k ≤ j → Waits k → Out k ⊎ (Stays scene step e n k j × Still k j)
  stay k j later w = ⊎_elim (λ end. inl (inl end)) (λ stays. inr (stays, still_at k j later w stays))
      (until_at scene step e n k j later run w.here)

  out_from : (k j : ℕ) → k ≤ j → Stays scene step e n k j → Out j → Out k
  out_from k j later stays (inl end) = inl (ended_from scene step e n k j later stays end)
  out_from k j later stays (inr locked) = let more = locked.later in inr (record {
    at = locked.at;
    later = omega arith;
    owner = locked.owner;
    owns = locked.owns;
    ever = locked.ever;
  })

  goal_from : (k j : ℕ) → k ≤ j → Stays scene step e n k j → Still k j → Goal j → Goal k
  goal_from k j later stays s (inl out) = inl (out_from k j later stays out)
  goal_from k j later stays s (inr less) = let a = less.later in let b = less.fewer in let c = s.few in
      inr (record { at = less.at; later = omega arith; waits = less.waits; fewer = omega arith })

  -- what is shown at a later time
  then : (k j : ℕ) → k ≤ j → Waits k → (Waits j → Goal j) → Goal k
  then k j later w next = ⊎_elim inl (λ s. goal_from k j later s.0 s.1 (next s.1.waits)) (stay k j later w)

  -- ---- who is first

  -- it is the first itself, or a seat without a context ahead of it is, or an older context that waits there for ever
  record Head (k : ℕ) (f : Entry) : Type 0 where
    first : Leads ((scene k).core.queue n) f
    who : (e ≡ f) ⊎ (((f.stamp ≡ 0) × Before ((scene k).core.queue n) f e)
        ⊎ ((f.stamp < e.stamp) × ((x : ℕ) → k ≤ x → Stands ((scene x).core.queue n) f.seat)))

  head_of : (k : ℕ) → Waits k → (f : Entry) × Head k f
  head_of k w = at_head ((scene k).core.queue n) refl w.here
    where
      ever_here : (f : Entry) → Has ((scene k).core.queue n) f → WaitsForEver scene step f.seat k → (x : ℕ) → k ≤ x →
          Stands ((scene x).core.queue n) f.seat
      ever_here f there ever x from = let h = ever.1 k (omega arith) in
          let at : ever.0 ≡ n = (lawful_at scene step run k).base.queues.one_queue ever.0 n h.0 f h.1 there h.2 in
          subst (λ m. Stands ((scene x).core.queue m) f.seat) at (ever.1 x from)

      at_head : (q : List Entry) → (scene k).core.queue n ≡ q → Has q e → (f : Entry) × Head k f
      at_head [] is h = absurd h
      at_head (f ∷ fs) is h = (
        f,
        record {
          first = (fs, is);
          who = ⊎_elim inl (λ later. let l = (lawful_at scene step run k).base in
              let there = subst (λ q. Has q f) (sym is) (inl refl) in
              let order = subst Ascends is (l.queues.at n).ascends in
              let its = (l.queues.at n).stamps f there in let some = w.context in
              inr (dite (ℕ_discrete f.stamp 0)
              (λ none. inl (none, subst (λ q. Before q f e) (sym is) (inl (refl, later))))
              (λ one. let less = order.0 e later (omega arith) (omega arith) in
              inr (
                less,
                ⊎_elim (ever_here f there)
                    (λ rests. absurd (rests_stands_not scene step k f.seat n rests (f, there, refl)))
                    (w.older f.seat (omega arith) (omega arith)),
              )))) h;
        },
      )

  here_head : (k : ℕ) (f : Entry) → Head k f → Has ((scene k).core.queue n) f
  here_head k f h = subst (λ q. Has q f) (sym h.first.1) (inl refl)

  abbrev IsNotYounger : Entry → Type 0
  IsNotYounger f = (f.stamp ≡ 0) ⊎ (f.stamp ≤ e.stamp)

  -- no seat joins ahead of the first
  not_passed : (k : ℕ) (f : Entry) → Waits k → IsNotYounger f → (t : ℕ) → step k ≡ performs (Join t n) →
      is_older ((scene k).core.stamp t) f.stamp ≡ false
  not_passed k f w (inl none) t is = none_older ((scene k).core.stamp t) f none
  not_passed k f w (inr old) t is = joins_younger k f w old t is

  of_head : (k : ℕ) (f : Entry) → Head k f → IsNotYounger f
  of_head k f h = ⊎_elim (λ is. let same = ap (λ (x : Entry). x.stamp) is in inr (omega arith))
      (⊎_elim (λ a. inl a.0) (λ a. let less = a.0 in inr (omega arith))) h.who

  -- the first stays the first
  leads_on : (k j : ℕ) (f : Entry) → k ≤ j → ((x : ℕ) → k ≤ x → x < j → Waits x) → IsNotYounger f →
      Stays scene step f n k j →
      Leads ((scene k).core.queue n) f → Leads ((scene j).core.queue n) f
  leads_on k j f later w who stays first = along scene step run (λ y. Leads (y.core.queue n) f) k j later first
      (λ x from below. leads_next (scene x) (step x) n f (stays.on x from below) (not_passed x f (w x from below) who))

  -- ---- where the wait of the first ends

  head_ends : (k : ℕ) (f : Entry) → Waits k → Head k f → Ended scene step f n k → Goal k
  head_ends k f w h end = ⊎_elim
      (λ is. inl (inl (subst (λ (x : Entry). Ended scene step x n k) (sym is) end)))
      (⊎_elim (λ a. let j = end.at in let later = end.later in ⊎_elim inl
      (λ s. let es = s.0 in let c = (scene j).core in let l = (lawful_at scene step run j).base in
      let before : Before (c.queue n) f e = along scene step run (λ y. Before (y.core.queue n) f e) k j later a.1
      (λ x from below. before_next (scene x) (step x) n f e (end.stays.on x from below) (es.on x from (omega arith))) in
      let less = ahead_less (c.queue n) f e (l.queues.at n).once before in
      let list : (scene (suc j)).core.queue n ≡ left (c.queue n) f.seat =
      made_next scene step run (λ y. y.core.queue n ≡ left (c.queue n) f.seat) j
      (list_then (scene j) (step j) f.seat n end.ends) in
      let now : ahead ((scene (suc j)).core.queue n) e.seat < ahead (c.queue n) e.seat =
      subst (λ q. ahead q e.seat < ahead (c.queue n) e.seat) (sym list) less in
      let upto = still_at k j later w (record {
        here = λ x b d. es.here x b (omega arith);
        on = λ x b d. es.on x b (omega arith);
      }) in
      inr (fewer k j later s.1.waits now upto.few))
      (stay k (suc j) (omega arith) w))
      (λ a. absurd (never_ends scene step run f n k a.1 end)))
      h.who
    where
      fewer : (k j : ℕ) → k ≤ j → Waits (suc j) →
          ahead ((scene (suc j)).core.queue n) e.seat < ahead ((scene j).core.queue n) e.seat →
          ahead_at j ≤ ahead_at k → Less k
      fewer k j later w now few = record { at = suc j; later = omega arith; waits = w; fewer = omega arith }

  -- ---- a taken lock is released

  record Released (k t : ℕ) : Type 0 where
    at : ℕ
    later : k ≤ at
    held : (x : ℕ) → k ≤ x → x ≤ at → (scene x).core.owner n ≡ Taken t
    gives : step at ≡ performs (Give t n)

  by_release : (k j t : ℕ) → k ≤ j → Waits k → (scene k).core.owner n ≡ Taken t → (scene j).core.owner n ≢ Taken t →
      Out k ⊎ Released k t
  by_release k j t later w own gone = let r = release_between scene step run t n k j later own gone in
      let y = r.at in let from = r.from in ⊎_elim
      (λ fast. ⊎_elim inl
      (λ stays. let can = may_be scene step run y (performs (FastGive t n)) fast in
      absurd (subst (λ q. Has q e) can.possible.base.empty (stays.here y from (omega arith))))
      (⊎_elim (λ end. inl (inl end)) inr (until_at scene step e n k y from run w.here)))
      (λ give. inr (record { at = y; later = from; held = r.held; gives = give }))
      r.how

  -- an owner that waits for ever keeps it
  locked_up : (k t : ℕ) → (scene k).core.owner n ≡ Taken t → WaitsForEver scene step t k → Locked k
  locked_up k t own ever = record {
    at = k;
    later = omega arith;
    owner = t;
    owns = λ x from. along scene step run (λ w. w.core.owner n ≡ Taken t) k x from own
        (λ y after below has. taken_next (scene y) (step y) t n ever.0 (run.may y) (lawful_at scene step run y).base
        has (ever.1 y after));
    ever = ever;
  }

  released : (k t : ℕ) → Waits k → (scene k).core.owner n ≡ Taken t → Out k ⊎ Released k t
  released k t w own = let r = release k t n own in let j = r.0 in let later = r.1 in ⊎_elim
      (λ gone. by_release k j t later w own gone)
      (λ waits. ⊎_elim
      (λ has. ⊎_elim inl (λ s. inl (out_from k j later s.0 (inr (locked_up j t has waits))))
      (stay k j later w))
      (λ gone. by_release k j t later w own gone)
      (taken_or_not ((scene j).core.owner n) t))
      r.2

  -- ---- the lock by its owner

  -- it is handed to the first
  by_first : (k : ℕ) (f : Entry) → Waits k → Head k f → (scene k).core.owner n ≡ Handed f.seat → Goal k
  by_first k f w h own = head_ends k f w h (handed_ends scene step run go f n k (here_head k f h) own)

  after_give : (k t : ℕ) → step k ≡ performs (Give t n) →
      (scene (suc k)).core.owner n ≡ given_to ((scene k).core.asked n) ((scene k).core.queue n)
  after_give k t is = let c = (scene k).core in
      known_next scene step run (λ v. v.core.owner n ≡ given_to (c.asked n) (c.queue n)) k (performs (Give t n)) is
      (put_here c.owner n (given_to (c.asked n) (c.queue n)))

  list_give : (k t : ℕ) → step k ≡ performs (Give t n) → (scene (suc k)).core.queue n ≡ (scene k).core.queue n
  list_give k t is = let c = (scene k).core in
      known_next scene step run (λ v. v.core.queue n ≡ c.queue n) k (performs (Give t n)) is refl

  -- its owner releases it when it was asked for
  gives_asked : (k t : ℕ) → Waits k → step k ≡ performs (Give t n) → (scene k).core.asked n ≡ true → Goal k
  gives_asked k t w is asked = then k (suc k) (omega arith) w (λ v. let f = head_of (suc k) v in
      let first = f.1.first in by_first (suc k) f.0 v f.1
      (after_give k t is ∙ ap (λ b. given_to b ((scene k).core.queue n)) asked ∙
      ap (given_to true) (sym (list_give k t is) ∙ first.1)))

  -- it was asked for
  by_asked : (k t : ℕ) → Waits k → (scene k).core.owner n ≡ Taken t → (scene k).core.asked n ≡ true → Goal k
  by_asked k t w own asked = ⊎_elim inl
      (λ r. let j = r.at in let later = r.later in ⊎_elim inl
      (λ s. goal_from k j later s.0 s.1 (gives_asked j t s.1.waits r.gives
      (along scene step run (λ v. v.core.asked n ≡ true) k j later asked
      (λ x from below. asked_stays (scene x) (step x) n t e (run.may x) (
        r.held x from (omega arith),
        subst (λ (v : Scene). v.core.owner n ≡ Taken t) (run.goes_on x) (r.held (suc x) (omega arith) (omega arith)),
      )
      (subst (λ (v : Scene). Has (v.core.queue n) e) (run.goes_on x) (s.0.here (suc x) (omega arith) (omega arith)))))))
      (stay k j later w))
      (released k t w own)

  -- while the first waits for a lock that was free, it is handed to nobody else
  only_on : (k j : ℕ) (f : Entry) → k ≤ j → (scene k).core.owner n ≡ Nobody →
      ((x : ℕ) → k ≤ x → x ≤ j → Leads ((scene x).core.queue n) f) → OnlyFor (scene j).core n f
  only_on k j f later own leads = along scene step run (λ y. OnlyFor y.core n f) k j later
      (λ g is. absurd (not_both ((scene k).core.owner n) g own is))
      (λ x a b. only_next (scene x) (step x) n f (run.may x) (leads x a (omega arith)))

  -- the first has gone inside, and goes to sleep again: it has asked
  slept : (k i : ℕ) (f : Entry) → Waits k → Head k f → k ≤ i → (scene k).core.owner n ≡ Nobody →
      Stays scene step f n k (suc i) →
      step i ≡ performs (Guard f.seat n) → Sleeps scene step f n (suc i) → Goal k
  slept k i f w h from own stays enters z = let j = z.at in let later = z.later in
      let fs = stays_more scene step f n k (suc i) j (omega arith) stays z.stays in ⊎_elim inl
      (λ st. let es = st.0 in let v = st.1.waits in
      let each = λ (x : ℕ) (a : k ≤ x) (b : x < j). (still_at k x a w
      (stays_less scene step e n k x j (omega arith) es)).waits in
      let leads = λ (x : ℕ) (a : k ≤ x) (b : x ≤ j). leads_on k x f a (λ y c d. each y c (omega arith)) (of_head k f h)
      (stays_less scene step f n k x j b fs) h.first in
      let now = leads j (omega arith) (omega arith) in ⊎_elim
      (λ asked. let t = ((lawful_at scene step run j).base.owners.at n).asked_taken asked in
      goal_from k j (omega arith) es st.1 (by_asked j t.0.0 v t.0.1 asked))
      (λ hand. absurd (not_handed (scene j).core n f (z.may.possible.base.contended z.may.waits) (only_on k j f
      (omega arith) own leads) hand.0 hand.1))
      (asks i j f.seat n z.heeds (omega arith) enters (f, stays.here i from (omega arith), refl)
      (λ x a b. z.inside x (omega arith) b) z.how (f, now.0, now.1, refl)))
      (stay k j (omega arith) w)

  -- it comes inside
  came : (k : ℕ) (f : Entry) → Waits k → Head k f → (scene k).core.owner n ≡ Nobody →
      (scene k).core.guard n ≢ suc f.seat →
      Comes scene step f n k → Goal k
  came k f w h own out come = let in_it = enters scene step run f n k out come in let i = in_it.at in
      let from = in_it.from in let m = suc i in ⊎_elim
      (λ end. head_ends k f w h (ended_from scene step f n k m (omega arith) in_it.stays end))
      (λ z. slept k i f w h from own in_it.stays in_it.how z)
      (goes_out scene step run go f n m (in_it.stays.here m (omega arith) (omega arith)) in_it.inside)

  -- it is free: the first comes inside, and takes it or asks for it
  by_free : (k : ℕ) → Waits k → (scene k).core.owner n ≡ Nobody → Goal k
  by_free k w own = let head = head_of k w in let f = head.0 in let h = head.1 in let there = here_head k f h in
      let s = f.seat in ⊎_elim
      (λ inside. ⊎_elim (head_ends k f w h) (λ z. absurd (held_free scene step run go f n k own z))
      (goes_out scene step run go f n k there inside))
      (λ out. ⊎_elim (head_ends k f w h) (came k f w h own out)
      (comes_in scene step run go f n k there (due_called scene step run go k s n
      (inr (own, (f, h.first.0, h.first.1, refl))))))
      (number_is ((scene k).core.guard n) (suc s))

  -- somebody has taken it
  by_taken : (k t : ℕ) → Waits k → (scene k).core.owner n ≡ Taken t → Goal k
  by_taken k t w own = ⊎_elim inl
      (λ r. let j = r.at in then k j r.later w (λ v. ⊎_elim (gives_asked j t v r.gives)
      (λ isnt. then j (suc j) (omega arith) v (λ u. by_free (suc j) u
      (after_give j t r.gives ∙ ap (λ b. given_to b ((scene j).core.queue n)) isnt)))
      (cases_Bool ((scene j).core.asked n))))
      (released k t w own)

  -- it was handed to somebody, who takes it
  by_handed : (k g : ℕ) → Waits k → (scene k).core.owner n ≡ Handed g → Goal k
  by_handed k g w own = let a = ((lawful_at scene step run k).base.owners.at n).handed_stands g own in
      let t = handed_takes scene step run go a.0 n k a.1 (own ∙ ap Handed (sym a.2)) in let j = t.0.at in
      let later = t.0.later in
      then k (suc j) (omega arith) w (λ v. by_taken (suc j) a.0.seat v
      (known_next scene step run (λ y. y.core.owner n ≡ Taken a.0.seat) j (performs (Take a.0.seat n)) t.1
      (put_here (scene j).core.owner n (Taken a.0.seat))))

  by_owner : (k : ℕ) → Waits k → (o : Holder) → (scene k).core.owner n ≡ o → Goal k
  by_owner k w Nobody own = by_free k w own
  by_owner k w (Taken t) own = by_taken k t w own
  by_owner k w (Handed g) own = by_handed k g w own

  -- each time fewer stand ahead
  served : (fuel k : ℕ) → Waits k → ahead_at k ≤ fuel → Out k
  served zero k w bound = ⊎_elim (λ out. out) (λ less. let z = less.fewer in absurd (omega arith))
      (by_owner k w ((scene k).core.owner n) refl)
  served (suc fuel) k w bound = ⊎_elim (λ out. out)
      (λ less. let z = less.fewer in let later = less.later in ⊎_elim (λ out. out)
      (λ s. out_from k less.at later s.0 (served fuel less.at less.waits (omega arith)))
      (stay k less.at later w))
      (by_owner k w ((scene k).core.owner n) refl)

  pub wait_ends : (k : ℕ) → Waits k → Out k
  wait_ends k w = served (ahead_at k) k w (omega arith)

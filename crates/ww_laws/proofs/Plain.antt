-- Runs that keep all that is asked of them: a run that comes to rest does, and so does it with a step more in front.
use Rattle.std.proofs.Common.{◌≡◌, ◌≢◌, ◌⊎◌, inl, inr, ⊎_elim, ℕ, zero, suc, ◌+◌, ◌<◌, ◌≤◌, ◌==◌, ◌&&◌, ◌||◌, Bool, true, false, not, List, [], ◌∷◌, refl, sym, ap, ◌∙◌, subst, arith, true≢false}
use Rattle.std.proofs.lemmas.Bool.{cases_lt}
use mathlib.Core.Logic.{dite}
use native.Mathlib.Decide.{ℕ_discrete}
use Rattle.ww_queue.specs.declared.entry.Entry.{Entry}
use Rattle.ww_queue.specs.Queue.{Has, Stands, StandsNot}
use Rattle.ww_queue.proofs.Outcomes.{both_true, same_number}
use Rattle.ww_model.specs.declared.state.Holder.TheVariants.{Taken}
use Rattle.ww_model.specs.declared.event.Event.{Event}
use Rattle.ww_model.specs.declared.event.Event.TheVariants.{Begin, Fast, Join, Take, Die, Unguard, End}
use Rattle.ww_model.specs.State.{State, put, is_taken_by, OwnsSome}
use Rattle.ww_model.specs.Event.{actor, after}
use Rattle.ww_model.specs.Lawful.{IsLawful}
use Rattle.ww_model.specs.Run.{Reached}
use Rattle.ww_model.proofs.Outcomes.{or_true, taken_true}
use Rattle.ww_model.proofs.Beyond.{queues_beyond}
use Rattle.ww_model.proofs.Puts.{put_else, put_cases}
use Rattle.ww_model.proofs.Kept.{reached_is_lawful}
use Rattle.ww_model.proofs.Waiters.{has_waiter, stands_waiter}
use Rattle.ww_laws.proofs.Tests.{passes, may}
use Rattle.ww_laws.specs.Scene.{Phase, acting, going_to_sleep, asleep, Scene, Step, performs, leaves_to_sleep, finds_no_sign, finds_no_cancel, wakes, falls_asleep, rises, May, next, woken_by, IsReached, goes_on}
use Rattle.ww_laws.specs.Sleepers.{IsEndlessRun}
use Rattle.ww_laws.proofs.Woken.{owing_more, debt_else}
use Rattle.ww_laws.proofs.Keeping.{reached_is_orderly}
use Rattle.ww_laws.specs.Premises.{WaitersGoOn, HoldersGoOn, HoldersRelease, RestsOn, IsOver, ContextsEnd, WaitsOwning, FirstsAsk, Wants, BacksOff, TakesContendedFirst, ContextsEndOrDie, InTheEnd}
use Rattle.ww_laws.proofs.Steps.{taken_or_not, entry_next, ends_inside}
use Rattle.ww_laws.proofs.Runs.{phase_is, number_is}
use Rattle.ww_laws.proofs.Leaves.{stands_or_not, waits_or_not}

-- ---- plain steps: nobody goes to sleep by them, and no waiter leaves a guard

abbrev pub is_acting : Phase → Bool
is_acting acting = true
is_acting going_to_sleep = false
is_acting asleep = false

abbrev pub is_asleep : Phase → Bool
is_asleep acting = false
is_asleep going_to_sleep = false
is_asleep asleep = true

acts_by : (p : Phase) → is_acting p ≡ true → p ≡ acting
acts_by acting is = refl
acts_by going_to_sleep is = absurd (true≢false (sym is))
acts_by asleep is = absurd (true≢false (sym is))

acts_not : (p : Phase) → not (is_acting p) ≡ true → p ≢ acting
acts_not acting is = absurd (true≢false (sym is))
acts_not going_to_sleep is = λ z. cc
acts_not asleep is = λ z. cc

sleeps_not : (p : Phase) → not (is_asleep p) ≡ true → p ≢ asleep
sleeps_not acting is = λ z. cc
sleeps_not going_to_sleep is = λ z. cc
sleeps_not asleep is = absurd (true≢false (sym is))

-- who leaves the guard doesn't wait there
abbrev pub waits_not : State → Event → Bool
waits_not c (Unguard s n) = not (has_waiter s (c.queue n))
waits_not c _ = true

abbrev pub is_plain : Scene → Step → Bool
is_plain w (performs e) = is_acting (w.phase (actor e)) && (passes w.core e && waits_not w.core e)
is_plain w (leaves_to_sleep s n heeds) = false
is_plain w (finds_no_sign s) = is_acting (w.phase s) && (w.core.sign s == 0)
is_plain w (finds_no_cancel s) = is_acting (w.phase s) && (w.core.cancel s == 0)
is_plain w (wakes s v) = not (is_asleep (w.phase s))
is_plain w (falls_asleep s) = false
is_plain w (rises s) = not (is_acting (w.phase s))

pub may_plain : (w : Scene) (x : Step) → Reached w.core → is_plain w x ≡ true → May w x
may_plain w (performs e) r is = let p = both_true (is_acting (w.phase (actor e)))
    (passes w.core e && waits_not w.core e) is in
    let q = both_true (passes w.core e) (waits_not w.core e) p.1 in
    record { acts = acts_by (w.phase (actor e)) p.0; possible = may w.core r e q.0 }
may_plain w (leaves_to_sleep s n heeds) r is = absurd (true≢false (sym is))
may_plain w (finds_no_sign s) r is = let p = both_true (is_acting (w.phase s)) (w.core.sign s == 0) is in
    (acts_by (w.phase s) p.0, same_number (w.core.sign s) 0 p.1)
may_plain w (finds_no_cancel s) r is = let p = both_true (is_acting (w.phase s)) (w.core.cancel s == 0) is in
    (acts_by (w.phase s) p.0, same_number (w.core.cancel s) 0 p.1)
may_plain w (wakes s v) r is = sleeps_not (w.phase s) is
may_plain w (falls_asleep s) r is = absurd (true≢false (sym is))
may_plain w (rises s) r is = acts_not (w.phase s) is

-- no waiter leaves a guard by it but in order to sleep
plain_leaves : (w : Scene) (x : Step) (s n : ℕ) → is_plain w x ≡ true → x ≡ performs (Unguard s n) →
    StandsNot (w.core.queue n) s
plain_leaves w x s n plain is = let p = subst (λ y. is_plain w y ≡ true) is plain in
    let q = both_true (is_acting (w.phase s)) (passes w.core (Unguard s n) && waits_not w.core (Unguard s n)) p in
    let r = both_true (passes w.core (Unguard s n)) (waits_not w.core (Unguard s n)) q.1 in
    λ e h own. true≢false (sym r.1 ∙ ap not (stands_waiter s (w.core.queue n) (e, h, own)))

plain_stays_up : (w : Scene) (x : Step) (s n : ℕ) (heeds : Bool) → is_plain w x ≡ true → x ≢ leaves_to_sleep s n heeds
plain_stays_up w x s n heeds plain is = true≢false (sym (subst (λ y. is_plain w y ≡ true) is plain))

-- of each lock below 2
pub each_of_two : (P : ℕ → Type 0) → P 0 → P 1 → (n : ℕ) → n < 2 → P n
each_of_two P a b zero below = a
each_of_two P a b (suc zero) below = b
each_of_two P a b (suc (suc n)) below = absurd (omega arith)

-- the first seat has the first of two locks, or nobody waits
abbrev pub none_waits : List Entry → Bool
none_waits [] = true
none_waits (e ∷ es) = false

abbrev pub is_owning : Scene → Bool
is_owning w = is_taken_by 0 (w.core.owner 0) ||
    ((w.core.locks == 2) && (none_waits (w.core.queue 0) && none_waits (w.core.queue 1)))

none_there : (q : List Entry) → none_waits q ≡ true → q ≡ []
none_there [] is = refl
none_there (e ∷ es) is = absurd (true≢false (sym is))

owning_by : (w : Scene) → Reached w.core → is_owning w ≡ true → (n : ℕ) → Stands (w.core.queue n) 0 → OwnsSome w.core 0
owning_by w r is n h = ⊎_elim (λ own. (0, taken_true 0 (w.core.owner 0) own))
    (λ rest. let a = both_true (w.core.locks == 2) (none_waits (w.core.queue 0) && none_waits (w.core.queue 1)) rest in
    let b = both_true (none_waits (w.core.queue 0)) (none_waits (w.core.queue 1)) a.1 in
    let two = same_number w.core.locks 2 a.0 in
    let none : w.core.queue n ≡ [] = ⊎_elim
    (λ below. each_of_two (λ m. w.core.queue m ≡ []) (none_there (w.core.queue 0) b.0)
    (none_there (w.core.queue 1) b.1) n below)
    (λ beyond. queues_beyond w.core r n (omega arith)) (cases_lt n 2) in
    absurd (subst (λ q. Has q h.0) none h.1))
    (or_true (is_taken_by 0 (w.core.owner 0))
    ((w.core.locks == 2) && (none_waits (w.core.queue 0) && none_waits (w.core.queue 1))) is)

-- nobody dies by it but the second seat, and that wants no lock
abbrev pub fits_event : Event → Bool
fits_event (Die s n) = s == 1
fits_event (Fast s n) = not (s == 1)
fits_event (Join s n) = not (s == 1)
fits_event (Take s n) = not (s == 1)
fits_event _ = true

-- and it is no event of the third seat
abbrev pub fits : Step → Bool
fits (performs e) = not (actor e == 2) && fits_event e
fits _ = true

-- ---- what is asked of a run, all together

pub record Goes (scene : ℕ → Scene) (step : ℕ → Step) : Type 0 where
  pub run : IsEndlessRun scene step
  pub go : WaitersGoOn scene step
  pub holders : HoldersGoOn scene step
  pub release : HoldersRelease scene step
  pub up : (i s n : ℕ) (heeds : Bool) → step i ≢ leaves_to_sleep s n heeds
  pub fit : (i : ℕ) → fits (step i) ≡ true
  pub ends : ContextsEndOrDie scene step
  pub owning : WaitsOwning scene step 0 0

-- nobody goes to sleep, so nobody has to ask before
pub asks : (scene : ℕ → Scene) (step : ℕ → Step) → Goes scene step → FirstsAsk scene step
asks scene step g i j s n heeds later enters h inside leaves first = absurd (g.up j s n heeds leaves)

-- who dies wants no lock
wants_none : (scene : ℕ → Scene) (step : ℕ → Step) → Goes scene step → (i j s m n : ℕ) →
    step i ≡ performs (Die s m) → Wants s n (step j) → ⊥
wants_none scene step g i j s m n dies wants = let fit = g.fit j in
    let same : s ≡ 1 = same_number s 1
    (both_true (not (s == 2)) (s == 1) (subst (λ x. fits x ≡ true) dies (g.fit i))).1 in ⊎_elim
    (λ is. second s same (both s (subst (λ x. fits x ≡ true) is fit))) (⊎_elim
    (λ is. second s same (both s (subst (λ x. fits x ≡ true) is fit)))
    (λ is. second s same (both s (subst (λ x. fits x ≡ true) is fit))))
    wants
  where
    both : (s : ℕ) → (not (s == 2) && not (s == 1)) ≡ true → not (s == 1) ≡ true
    both s is = (both_true (not (s == 2)) (not (s == 1)) is).1

    second : (s : ℕ) → s ≡ 1 → not (s == 1) ≡ true → ⊥
    second s same is = true≢false (sym is ∙ ap (λ k. not (k == 1)) same)

-- so it need not have released all before, nor take the contended lock first
pub backs : (scene : ℕ → Scene) (step : ℕ → Step) → Goes scene step → BacksOff scene step
backs scene step g i j s m n later dies wants = absurd (wants_none scene step g i j s m n dies wants)

pub contended : (scene : ℕ → Scene) (step : ℕ → Step) → Goes scene step → TakesContendedFirst scene step
contended scene step g i j s m n later dies wants same = absurd (wants_none scene step g i j s m n dies wants)

-- an end of contexts that heeds no cancel is one
pub ends_of : (scene : ℕ → Scene) (step : ℕ → Step) → ContextsEndOrDie scene step → (s : ℕ) → ContextsEnd scene step s
ends_of scene step ends s i some = let end = ends i s some in
    (end.0, end.1, ⊎_elim inl (⊎_elim (λ ever. inr (inl ever)) (λ dies. inr (inr (dies.0, inl dies.1)))) end.2)

-- ---- a step more in front

-- the sequence with this in front
abbrev pub with_first : {A : Type 0} → A → (ℕ → A) → ℕ → A
with_first a f zero = a
with_first a f (suc i) = f i

-- what comes later in the rest comes later with the step in front
later_first : (P : ℕ → Type 0) (k i : ℕ) → k ≤ suc i → InTheEnd i (λ j. P (suc j)) → InTheEnd k P
later_first P k i from later = let a = later.1 in (suc later.0, omega arith, later.2)

-- a debt is paid, or stays
debt_next : (w : Scene) (x : Step) (s v : ℕ) → w.owes s v ≡ true → (x ≡ wakes s v) ⊎ ((next w x).owes s v ≡ true)
debt_next w (performs e) s v owed = inr (owing_more w.owes (actor e) (woken_by w.core e) s v owed)
debt_next w (wakes t u) s v owed = dite (ℕ_discrete v u)
    (λ is. dite (ℕ_discrete s t) (λ same. inl (cc))
    (λ isnt. inr (put_cases w.owes t (put (w.owes t) u false) s (λ f. f v ≡ true) (λ same. absurd (isnt same))
    (λ _. owed))))
    (λ isnt. inr (debt_else w.owes t u false s v isnt owed))
debt_next w _ s v owed = inr owed

-- a sleeper with a token rises, or goes on so
token_next : (w : Scene) (x : Step) (s : ℕ) → May w x → w.token s ≡ true → w.phase s ≡ asleep →
    (x ≡ rises s) ⊎ (((next w x).token s ≡ true) × ((next w x).phase s ≡ asleep))
token_next w (leaves_to_sleep t n heeds) s may token sleeps = inr (
  token,
  put_else w.phase t going_to_sleep s
      (λ is. let a = ap w.phase is in let b = may.acts in let z : ⊥ = cc in z) ∙ sleeps,
)
token_next w (wakes t u) s may token sleeps =
    inr (put_cases w.token u true s (λ b. b ≡ true) (λ _. refl) (λ _. token), sleeps)
token_next w (falls_asleep t) s may token sleeps =
    inr (token, put_cases w.phase t asleep s (λ p. p ≡ asleep) (λ _. refl) (λ _. sleeps))
token_next w (rises t) s may token sleeps = dite (ℕ_discrete s t) (λ is. inl (ap rises (sym is)))
    (λ isnt. inr (put_else w.token t false s isnt ∙ token, put_else w.phase t acting s isnt ∙ sleeps))
token_next w _ s may token sleeps = inr (token, sleeps)

-- a waiter that acts outside the guard goes on so, or goes inside
looks_next : (w : Scene) (x : Step) (s n : ℕ) → May w x → IsLawful w.core → Stands (w.core.queue n) s →
    w.phase s ≡ acting →
    w.core.guard n ≢ suc s → Stands ((next w x).core.queue n) s × ((next w x).phase s ≡ acting)
looks_next w (performs e) s n may l h acts out = (
  (
    h.0,
    entry_next w (performs e) h.0 n (λ ends. out (ends_inside w (performs e) h.0.seat n may ends ∙ ap suc h.2)) h.1,
    h.2,
  ),
  acts,
)
looks_next w (leaves_to_sleep t m heeds) s n may l h acts out = (
  h,
  put_else w.phase t going_to_sleep s
      (λ is. let k = may.waits in let at : n ≡ m = l.base.queues.one_queue n m h.0 k.0 h.1 k.1 (h.2 ∙ is ∙ sym k.2) in
      out (ap w.core.guard at ∙ may.possible.base.inside.guard ∙ ap suc (sym is))) ∙ acts,
)
looks_next w (falls_asleep t) s n may l h acts out = (
  h,
  put_else w.phase t asleep s
      (λ is. let a = ap w.phase is in let b = may.ready in let z : ⊥ = cc in z) ∙ acts,
)
looks_next w (rises t) s n may l h acts out = (
  h,
  put_cases w.phase t acting s (λ p. p ≡ acting) (λ _. refl) (λ _. acts),
)
looks_next w _ s n may l h acts out = (h, acts)

stamp_after : (c : State) (e : Event) (t : ℕ) → 0 < c.stamp t →
    (performs e ≡ performs (End t)) ⊎ (0 < (after c e).stamp t)
stamp_after c (Begin s) t some = inr (put_cases c.stamp s (c.drawn + 1) t (λ k. 0 < k) (λ _. omega arith) (λ _. some))
stamp_after c (End s) t some = dite (ℕ_discrete t s) (λ is. inl (ap (λ u. performs (End u)) (sym is)))
    (λ isnt. inr (put_cases c.stamp s 0 t (λ k. 0 < k) (λ is. absurd (isnt is)) (λ _. some)))
stamp_after c _ t some = inr some

module _ (w : Scene) (x : Step) (reached : IsReached w) (plain : is_plain w x ≡ true) (fit : fits x ≡ true)
    (owns : is_owning w ≡ true) (scene : ℕ → Scene) (step : ℕ → Step)
    (first : scene 0 ≡ next w x) (g : Goes scene step) where
  may_first : May w x
  may_first = may_plain w x (reached_is_orderly w reached).reached plain

  run_first : IsEndlessRun (with_first w scene) (with_first x step)
  run_first = record { begins = reached; may = mays; goes_on = goes }
    where
      mays : (i : ℕ) → May (with_first w scene i) (with_first x step i)
      mays zero = may_first
      mays (suc i) = g.run.may i

      goes : (i : ℕ) → with_first w scene (suc i) ≡ next (with_first w scene i) (with_first x step i)
      goes zero = first
      goes (suc i) = g.run.goes_on i

  -- what holds after the step holds of the first scene of the rest
  at_first : (P : Scene → Type 0) → P (next w x) → P (scene 0)
  at_first P h = subst P (sym first) h

  made_first : (i s v : ℕ) → (with_first w scene i).owes s v ≡ true →
      (j : ℕ) × (i ≤ j) × (with_first x step j ≡ wakes s v)
  made_first zero s v owed = ⊎_elim (λ is. (0, omega arith, is))
      (λ still. later_first _ 0 0 (omega arith) ((g.go v).scheduled.made 0 s (at_first (λ y. y.owes s v ≡ true) still)))
      (debt_next w x s v owed)
  made_first (suc i) s v owed = later_first _ (suc i) i (omega arith) ((g.go v).scheduled.made i s owed)

  heard_first : (i s : ℕ) → (with_first w scene i).token s ≡ true → (with_first w scene i).phase s ≡ asleep →
      (j : ℕ) × (i ≤ j) × (with_first x step j ≡ rises s)
  heard_first zero s token sleeps = ⊎_elim (λ is. (0, omega arith, is))
      (λ still. later_first _ 0 0 (omega arith) ((g.go s).scheduled.heard 0 (at_first (λ y. y.token s ≡ true) still.0)
      (at_first (λ y. y.phase s ≡ asleep) still.1)))
      (token_next w x s may_first token sleeps)
  heard_first (suc i) s token sleeps = later_first _ (suc i) i (omega arith) ((g.go s).scheduled.heard i token sleeps)

  settled_first : (i s : ℕ) → (with_first w scene i).phase s ≡ going_to_sleep →
      (j : ℕ) × (i ≤ j) × ((with_first w scene j).phase s ≢ going_to_sleep)
  settled_first zero s goes = ⊎_elim (λ acts. (1, omega arith, λ z. let y : ⊥ = cc in y)) (⊎_elim
      (λ still. later_first _ 0 0 (omega arith) ((g.go s).scheduled.settled 0 still))
      (λ sleeps. (1, omega arith, λ z. let y : ⊥ = cc in y))) (phase_is ((scene 0).phase s))
  settled_first (suc i) s goes = later_first _ (suc i) i (omega arith) ((g.go s).scheduled.settled i goes)

  leaves_first : (i s n : ℕ) → Stands ((with_first w scene i).core.queue n) s →
      (with_first w scene i).core.guard n ≡ suc s →
      (j : ℕ) × (i ≤ j) × (((with_first w scene j).core.guard n ≢ suc s) ⊎
      StandsNot ((with_first w scene j).core.queue n) s)
  leaves_first zero s n h inside = ⊎_elim
      (λ still. ⊎_elim
      (λ there. later_first _ 0 0 (omega arith) ((g.go s).scheduled.leaves 0 n there still))
      (λ none. (1, omega arith, inr none))
      (stands_or_not ((scene 0).core.queue n) s))
      (λ out. (1, omega arith, inl out)) (number_is ((scene 0).core.guard n) (suc s))
  leaves_first (suc i) s n h inside = later_first _ (suc i) i (omega arith) ((g.go s).scheduled.leaves i n h inside)

  looks_first : (i s n : ℕ) → Stands ((with_first w scene i).core.queue n) s → (with_first w scene i).phase s ≡ acting →
      (j : ℕ) × (i ≤ j) × ((with_first w scene j).core.guard n ≡ suc s)
  looks_first zero s n h acts = ⊎_elim (λ inside. (0, omega arith, inside))
      (λ out. let still = looks_next w x s n may_first
      (reached_is_lawful w.core (reached_is_orderly w reached).reached) h acts out in
      later_first _ 0 0 (omega arith) ((g.go s).scheduled.looks 0 n (at_first (λ y. Stands (y.core.queue n) s) still.0)
      (at_first (λ y. y.phase s ≡ acting) still.1))) (number_is (w.core.guard n) (suc s))
  looks_first (suc i) s n h acts = later_first _ (suc i) i (omega arith) ((g.go s).scheduled.looks i n h acts)

  sleeps_first : (i s n : ℕ) → with_first x step i ≡ performs (Unguard s n) →
      StandsNot ((with_first w scene i).core.queue n) s
  sleeps_first zero s n is = plain_leaves w x s n plain is
  sleeps_first (suc i) s n is = (g.go s).sleeps i n is

  holders_first : HoldersGoOn (with_first w scene) (with_first x step)
  holders_first zero s n own idle = ⊎_elim
      (λ still. ⊎_elim
      (λ waits. (1, omega arith, inr waits))
      (λ none. later_first _ 0 0 (omega arith) (g.holders 0 s n still none))
      (waits_or_not (scene 0).core (reached_is_orderly (scene 0) g.run.begins).reached s))
      (λ gone. (1, omega arith, inl gone)) (taken_or_not ((scene 0).core.owner n) s)
  holders_first (suc i) s n own idle = later_first _ (suc i) i (omega arith) (g.holders i s n own idle)

  shifted : (j s m : ℕ) → ((k : ℕ) → j ≤ k → Stands ((scene k).core.queue m) s) →
      (k : ℕ) → suc j ≤ k → Stands ((with_first w scene k).core.queue m) s
  shifted j s m always zero after = absurd (omega arith)
  shifted j s m always (suc k) after = always k (omega arith)

  release_later : (i s n : ℕ) → (scene i).core.owner n ≡ Taken s →
      (j : ℕ) × (suc i ≤ j) × (((with_first w scene j).core.owner n ≢ Taken s)
      ⊎ ((m : ℕ) × ((k : ℕ) → j ≤ k → Stands ((with_first w scene k).core.queue m) s)))
  release_later i s n own = let later = g.release i s n own in let a = later.1 in
      (suc later.0, omega arith, ⊎_elim inl (λ waits. inr (waits.0, shifted later.0 s waits.0 waits.1)) later.2)

  release_first : HoldersRelease (with_first w scene) (with_first x step)
  release_first zero s n own = ⊎_elim
      (λ still. let later = release_later 0 s n still in (later.0, omega arith, later.2))
      (λ gone. (1, omega arith, inl gone)) (taken_or_not ((scene 0).core.owner n) s)
  release_first (suc i) s n own = release_later i s n own

  up_first : (i s n : ℕ) (heeds : Bool) → with_first x step i ≢ leaves_to_sleep s n heeds
  up_first zero s n heeds = plain_stays_up w x s n heeds plain
  up_first (suc i) s n heeds = g.up i s n heeds

  fit_first : (i : ℕ) → fits (with_first x step i) ≡ true
  fit_first zero = fit
  fit_first (suc i) = g.fit i

  -- a context goes on, or ends
  stamp_next : (x : Step) (s : ℕ) → 0 < w.core.stamp s → (x ≡ performs (End s)) ⊎ (0 < (next w x).core.stamp s)
  stamp_next (performs e) s some = stamp_after w.core e s some
  stamp_next _ s some = inr some

  rests_first : (s j : ℕ) → RestsOn scene step s j → RestsOn (with_first w scene) (with_first x step) s (suc j)
  rests_first s j rests zero after = absurd (omega arith)
  rests_first s j rests (suc k) after = rests k (omega arith)

  ends_later : (i s : ℕ) → 0 < (scene i).core.stamp s → (j : ℕ) × (suc i ≤ j) ×
      (IsOver (with_first w scene) (with_first x step) s j
      ⊎ (((m : ℕ) × ((k : ℕ) → j ≤ k → Stands ((with_first w scene k).core.queue m) s))
      ⊎ ((m : ℕ) × (with_first x step j ≡ performs (Die s m)))))
  ends_later i s some = let later = g.ends i s some in let a = later.1 in (
    suc later.0,
    omega arith,
    ⊎_elim (λ over. inl (⊎_elim inl (λ rests. inr (rests_first s later.0 rests)) over))
        (λ rest. inr (⊎_elim (λ waits. inl (waits.0, shifted later.0 s waits.0 waits.1)) inr rest)) later.2,
  )

  ends_first : ContextsEndOrDie (with_first w scene) (with_first x step)
  ends_first zero s some = ⊎_elim (λ is. (0, omega arith, inl (inl is)))
      (λ still. let later = ends_later 0 s (at_first (λ y. 0 < y.core.stamp s) still) in
      (later.0, omega arith, later.2))
      (stamp_next x s some)
  ends_first (suc i) s some = ends_later i s some

  owning_first : WaitsOwning (with_first w scene) (with_first x step) 0 0
  owning_first zero n later h = owning_by w (reached_is_orderly w reached).reached owns n h
  owning_first (suc i) n later h = g.owning i n (omega arith) h

  pub goes_first : Goes (with_first w scene) (with_first x step)
  goes_first = record {
    run = run_first;
    go = λ s. record {
      scheduled = record {
        made = λ i t. made_first i t s;
        heard = λ i. heard_first i s;
        settled = λ i. settled_first i s;
        looks = λ i. looks_first i s;
        leaves = λ i. leaves_first i s;
      };
      sleeps = λ i. sleeps_first i s;
    };
    holders = holders_first;
    release = release_first;
    up = up_first;
    fit = fit_first;
    ends = ends_first;
    owning = owning_first;
  }

-- ---- a scene at rest

-- nobody owns, waits, is inside a guard, sleeps or has yet to wake anybody; and the first seat has no sign
pub record AtRest (w : Scene) : Type 0 where
  pub owner : (n s : ℕ) → w.core.owner n ≢ Taken s
  pub queue : (n : ℕ) → w.core.queue n ≡ []
  pub guard : (n s : ℕ) → w.core.guard n ≢ suc s
  pub phase : (s : ℕ) → w.phase s ≡ acting
  pub debts : (s v : ℕ) → w.owes s v ≢ true
  pub sign : w.core.sign 0 ≡ 0

-- the first seat looks at its sign again and again
abbrev pub rest : Scene → ℕ → Scene
rest w zero = w
rest w (suc i) = next (rest w i) (finds_no_sign 0)

rest_at : (w : Scene) → AtRest w → (i : ℕ) → AtRest (rest w i)
rest_at w r zero = r
rest_at w r (suc i) = let q = rest_at w r i in record {
  owner = q.owner;
  queue = q.queue;
  guard = q.guard;
  phase = q.phase;
  debts = q.debts;
  sign = q.sign;
}

pub goes_at_rest : (w : Scene) → IsReached w → AtRest w → Goes (rest w) (λ _. finds_no_sign 0)
goes_at_rest w reached r = record {
  run = record { begins = reached; may = λ i. ((rest_at w r i).phase 0, (rest_at w r i).sign); goes_on = λ i. refl };
  go = λ s. record {
    scheduled = record {
      made = λ i t owed. absurd ((rest_at w r i).debts t s owed);
      heard = λ i token sleeps. let acts = (rest_at w r i).phase s in absurd (cc);
      settled = λ i goes. let acts = (rest_at w r i).phase s in absurd (cc);
      looks = λ i n h. absurd (subst (λ q. Has q h.0) ((rest_at w r i).queue n) h.1);
      leaves = λ i n h inside. absurd ((rest_at w r i).guard n s inside);
    };
    sleeps = λ i n is. absurd (cc);
  };
  holders = λ i s n own. absurd ((rest_at w r i).owner n s own);
  release = λ i s n own. absurd ((rest_at w r i).owner n s own);
  up = λ i s n heeds is. cc;
  fit = λ i. refl;
  ends = λ i s some. (
    i,
    omega arith,
    inl (inr (λ k from same. (
      λ n. (rest_at w r k).owner n s,
      λ n e h own. subst (λ q. Has q e) ((rest_at w r k).queue n) h,
    ))),
  );
  owning = λ i n later h. absurd (subst (λ q. Has q h.0) ((rest_at w r i).queue n) h.1);
}

-- ---- plain steps that lead to rest

-- an endless run from this scene that keeps all that is asked
pub record GoesFrom (w : Scene) : Type 0 where
  pub scene : ℕ → Scene
  pub step : ℕ → Step
  pub from : scene 0 ≡ w
  pub goes : Goes scene step

abbrev pub lead : Scene → List Step → Scene
lead w [] = w
lead w (x ∷ xs) = lead (next w x) xs

abbrev pub all_fit : List Step → Bool
all_fit [] = true
all_fit (x ∷ xs) = fits x && all_fit xs

abbrev pub all_plain : Scene → List Step → Bool
all_plain w [] = true
all_plain w (x ∷ xs) = is_plain w x && all_plain (next w x) xs

pub reached_by : (w : Scene) → IsReached w → (xs : List Step) → all_plain w xs ≡ true → IsReached (lead w xs)
reached_by w reached [] is = reached
reached_by w reached (x ∷ xs) is = let p = both_true (is_plain w x) (all_plain (next w x) xs) is in
    reached_by (next w x) (goes_on w x reached (may_plain w x (reached_is_orderly w reached).reached p.0)) xs p.1

-- the first seat has its lock in each scene, or nobody waits
abbrev pub all_owning : Scene → List Step → Bool
all_owning w [] = true
all_owning w (x ∷ xs) = is_owning w && all_owning (next w x) xs

pub goes_from : (w : Scene) → IsReached w → (xs : List Step) → all_plain w xs ≡ true → all_fit xs ≡ true →
    all_owning w xs ≡ true → AtRest (lead w xs) → GoesFrom w
goes_from w reached [] is fit owns r = record {
  scene = rest w;
  step = λ _. finds_no_sign 0;
  from = refl;
  goes = goes_at_rest w reached r;
}
goes_from w reached (x ∷ xs) is fit owns r = let p = both_true (is_plain w x) (all_plain (next w x) xs) is in
    let f = both_true (fits x) (all_fit xs) fit in let o = both_true (is_owning w) (all_owning (next w x) xs) owns in
    let after = goes_from (next w x) (goes_on w x reached (may_plain w x (reached_is_orderly w reached).reached p.0)) xs
    p.1 f.1 o.1 r in record {
      scene = with_first w after.scene;
      step = with_first x after.step;
      from = refl;
      goes = goes_first w x reached p.0 f.0 o.0 after.scene after.step after.from after.goes;
    }

-- In each kind a run that comes to a deadlock, and from there one that keeps all that is asked.
use Rattle.std.proofs.Common.{◌≡◌, ◌≢◌, inl, ⊎_elim, ℕ, suc, ◌<◌, ◌==◌, Bool, true, false, not, List, [], ◌∷◌, refl, sym, ap, ◌∙◌, subst, arith, true≢false}
use Rattle.std.proofs.lemmas.Bool.{cases_Bool, cases_lt}
use native.Mathlib.Decide.{ℕ_discrete}
use Rattle.ww_queue.specs.declared.kind.Kind.{Kind}
use Rattle.ww_queue.specs.declared.kind.Kind.TheVariants.{WoundWait, WaitDie}
use Rattle.ww_queue.specs.declared.entry.Entry.{Entry}
use Rattle.ww_queue.specs.Queue.{Has, Stands}
use Rattle.ww_queue.proofs.Outcomes.{both_true}
use Rattle.ww_model.specs.declared.state.Holder.TheVariants.{Nobody, Taken}
use Rattle.ww_model.specs.declared.event.Event.{Event}
use Rattle.ww_model.specs.declared.event.Event.TheVariants.{Begin, Fast, FastGive, Guard, Join, Sign, Take, Give, Die, Unguard, End, Clear}
use Rattle.ww_model.specs.State.{put, OwnsNone, InNoQueue}
use Rattle.ww_model.specs.Event.{actor}
use Rattle.ww_model.proofs.Puts.{put_cases}
use Rattle.ww_model.proofs.Kept.{reached_is_lawful}
use Rattle.ww_model.proofs.Beyond.{queues_beyond, guards_are}
use Rattle.ww_laws.proofs.Tests.{passes, may}
use Rattle.ww_laws.specs.Scene.{acting, asleep, Scene, first_scene, Step, performs, leaves_to_sleep, finds_no_sign, wakes, falls_asleep, rises, MayLeaveToSleep, MayFallAsleep, put_debt, next, IsReached, begins, goes_on}
use Rattle.ww_laws.proofs.Woken.{debt_was, debt_here}
use Rattle.ww_laws.proofs.Keeping.{reached_is_orderly}
use Rattle.ww_laws.specs.Premises.{RestsOn}
use Rattle.ww_laws.specs.GoingOn.{AreDeadlocked, IsTheOldest, RestsForEver, DeadlocksAreReached}
use Rattle.ww_laws.proofs.Runs.{phase_is}
use Rattle.ww_laws.proofs.Ending.{same_on}
use Rattle.ww_laws.proofs.Idle.{who_wants_none_rests}
use Rattle.ww_laws.proofs.Plain.{all_plain, all_owning, each_of_two, lead, reached_by, fits, fits_event, Goes, AtRest, goes_from, asks, backs, contended, ends_of}
use Rattle.ww_model.specs.declared.state.Holder.{Holder}
use Rattle.ww_laws.proofs.Deadlocks.{are_deadlocked}

-- The third seat begins, takes a lock and releases it, and then rests. The first and the second take a lock each. The first joins the list of the second's lock, wounds it in
-- Wound-Wait, and falls asleep. Then the second joins the list of the first's lock: the two are deadlocked.
abbrev before : Kind → List Step
before WoundWait = performs (Begin 2) ∷ performs (Fast 2 0) ∷ performs (FastGive 2 0) ∷ performs (Begin 0)
    ∷ performs (Begin 1) ∷ performs (Fast 0 0) ∷ performs (Fast 1 1)
    ∷ performs (Guard 0 1) ∷ performs (Join 0 1) ∷ performs (Sign 0 1) ∷ wakes 0 1 ∷ finds_no_sign 0 ∷ []
before WaitDie = performs (Begin 2) ∷ performs (Fast 2 0) ∷ performs (FastGive 2 0) ∷ performs (Begin 0)
    ∷ performs (Begin 1) ∷ performs (Fast 0 0) ∷ performs (Fast 1 1)
    ∷ performs (Guard 0 1) ∷ performs (Join 0 1) ∷ finds_no_sign 0 ∷ []

abbrev joins : List Step
joins = performs (Guard 1 0) ∷ performs (Join 1 0) ∷ []

-- The second dies, releases its lock and wakes the first, which takes the lock, releases both, and ends its context.
-- Then the second ends its own.
abbrev resolves : List Step
resolves = performs (Die 1 0) ∷ performs (Unguard 1 0) ∷ performs (Guard 1 1) ∷ performs (Give 1 1)
    ∷ performs (Unguard 1 1) ∷ wakes 1 0 ∷ rises 0 ∷ performs (Guard 0 1) ∷ performs (Take 0 1) ∷ performs (Unguard 0 1)
    ∷ performs (FastGive 0 1) ∷ performs (FastGive 0 0) ∷ performs (End 0) ∷ performs (Clear 1) ∷ performs (End 1) ∷ []

abbrev looked : Kind → Scene
looked kind = lead (first_scene kind 2 3) (before kind)

abbrev left : Kind → Scene
left kind = next (looked kind) (leaves_to_sleep 0 1 false)

abbrev sleeping : Kind → Scene
sleeping kind = next (left kind) (falls_asleep 0)

abbrev deadlocked : Kind → Scene
deadlocked kind = lead (sleeping kind) joins

abbrev over : Kind → Scene
over kind = lead (deadlocked kind) resolves

-- the two as waiters
abbrev older : Entry
older = record { seat = 0; stamp = 2; holds = true }

abbrev younger : Entry
younger = record { seat = 1; stamp = 3; holds = true }

-- ---- the steps may be made

-- The steps are plain, but the one by which the first goes to sleep, which passes; and from the deadlock on the first owns its
-- lock, or nobody waits.
record AreAllowed (kind : Kind) : Type 0 where
  first : all_plain (first_scene kind 2 3) (before kind) ≡ true
  out : passes (looked kind).core (Unguard 0 1) ≡ true
  then : all_plain (sleeping kind) joins ≡ true
  resolving : all_plain (deadlocked kind) resolves ≡ true
  owning : all_owning (deadlocked kind) resolves ≡ true

are_allowed : (kind : Kind) → AreAllowed kind
unfolding put ℕ_discrete
are_allowed WoundWait = record { first = refl; out = refl; then = refl; resolving = refl; owning = refl }
are_allowed WaitDie = record { first = refl; out = refl; then = refl; resolving = refl; owning = refl }

reached_looked : (kind : Kind) → IsReached (looked kind)
reached_looked kind = reached_by (first_scene kind 2 3) (begins kind 2 3) (before kind) (are_allowed kind).first

-- the first, which waits and has found no sign, may go to sleep
may_leave_so : (kind : Kind) → (looked kind).phase 0 ≡ acting → Stands ((looked kind).core.queue 1) 0 →
    (looked kind).found_no_sign 0 ≡ true → MayLeaveToSleep (looked kind) 0 1 false
may_leave_so kind acts waits unsigned = record {
  acts = acts;
  possible = may (looked kind).core (reached_is_orderly (looked kind) (reached_looked kind)).reached (Unguard 0 1)
      (are_allowed kind).out;
  waits = waits;
  unsigned = λ _. unsigned;
  uncancelled = λ heeds. absurd (true≢false (sym heeds));
}

may_leave : (kind : Kind) → MayLeaveToSleep (looked kind) 0 1 false
unfolding put ℕ_discrete
may_leave WoundWait = may_leave_so WoundWait refl (older, inl refl, refl) refl
may_leave WaitDie = may_leave_so WaitDie refl (older, inl refl, refl) refl

abbrev no_debts : ℕ → ℕ → Bool
no_debts s v = false

-- a debt that was made and paid
abbrev paid_once : (ℕ → ℕ → Bool) → ℕ → ℕ → ℕ → ℕ → Bool
paid_once owes s v = put_debt (put_debt owes s v true) s v false

-- none is left then, if none was there before
none_left : (owes : ℕ → ℕ → Bool) (s v : ℕ) → ((a b : ℕ) → owes a b ≢ true) → (a b : ℕ) → paid_once owes s v a b ≢ true
none_left owes s v none a b is = ⊎_elim (λ paid. true≢false (sym paid.2))
    (λ old. ⊎_elim
    (λ new. true≢false (sym (subst (λ x. paid_once owes s v x v ≡ true) new.0 (subst
    (λ y. paid_once owes s v a y ≡ true) new.1 is)) ∙ debt_here (put_debt owes s v true) s v false))
    (λ older. none a b older) (debt_was owes s v true a b old))
    (debt_was (put_debt owes s v true) s v false a b is)

may_sleep : (kind : Kind) → MayFallAsleep (left kind) 0
unfolding put ℕ_discrete
may_sleep WoundWait = record {
  ready = refl;
  paid = λ v. ⊎_elim (λ is. absurd (none_left no_debts 0 1 (λ a b z. true≢false (sym z)) 0 v is))
      (λ isnt. isnt) (cases_Bool ((left WoundWait).owes 0 v));
}
may_sleep WaitDie = record { ready = refl; paid = λ v. refl }

reached_deadlocked : (kind : Kind) → IsReached (deadlocked kind)
reached_deadlocked kind = reached_by (sleeping kind) (goes_on (left kind) (falls_asleep 0)
    (goes_on (looked kind) (leaves_to_sleep 0 1 false) (reached_looked kind) (may_leave kind)) (may_sleep kind)) joins
    (are_allowed kind).then

reached_over : (kind : Kind) → IsReached (over kind)
reached_over kind = reached_by (deadlocked kind) (reached_deadlocked kind) resolves (are_allowed kind).resolving

-- ---- the deadlock

-- who owns the two locks and waits for them, where the first has no sign
record IsLike (w : Scene) (owner_0 owner_1 : Holder) (list_0 list_1 : List Entry) : Type 0 where
  first : w.core.owner 0 ≡ owner_0
  second : w.core.owner 1 ≡ owner_1
  list_first : w.core.queue 0 ≡ list_0
  list_second : w.core.queue 1 ≡ list_1
  locks : w.core.locks ≡ 2
  sign : w.core.sign 0 ≡ 0

is_dead : (kind : Kind) → IsLike (deadlocked kind) (Taken 0) (Taken 1) (younger ∷ []) (older ∷ [])
unfolding put ℕ_discrete
is_dead WoundWait =
    record { first = refl; second = refl; list_first = refl; list_second = refl; locks = refl; sign = refl }
is_dead WaitDie =
    record { first = refl; second = refl; list_first = refl; list_second = refl; locks = refl; sign = refl }

older_waits : (kind : Kind) → Stands ((deadlocked kind).core.queue 1) 0
older_waits kind = (older, subst (λ q. Has q older) (sym (is_dead kind).list_second) (inl refl), refl)

are_dead : (kind : Kind) → AreDeadlocked (deadlocked kind).core (0 ∷ 1 ∷ [])
are_dead kind = let l = is_dead kind in are_deadlocked (deadlocked kind).core l.first l.second (older_waits kind)
    (younger, subst (λ q. Has q younger) (sym l.list_first) (inl refl), refl)

sleeps : (kind : Kind) → (deadlocked kind).phase 0 ≡ asleep
unfolding put ℕ_discrete
sleeps WoundWait = refl
sleeps WaitDie = refl

-- ---- the oldest, and the one that rests

abbrev stamps : ℕ → ℕ
stamps = put (put (put (λ _. 0) 2 1) 0 2) 1 3

stamps_are : (kind : Kind) (t : ℕ) → (deadlocked kind).core.stamp t ≡ stamps t
stamps_are WoundWait t = refl
stamps_are WaitDie t = refl

stamps_of : (stamps 0 ≡ 2) × (stamps 2 ≡ 1)
unfolding put ℕ_discrete
stamps_of = (refl, refl)

-- only the third is older than the first
older_is : (t : ℕ) → 0 < stamps t → stamps t < 2 → t ≡ 2
older_is t = put_cases (put (put (λ _. 0) 2 1) 0 2) 1 3 t (λ k. 0 < k → k < 2 → t ≡ 2)
    (λ _ some less. absurd (omega arith)) (λ _.
    put_cases (put (λ _. 0) 2 1) 0 2 t (λ k. 0 < k → k < 2 → t ≡ 2) (λ _ some less. absurd (omega arith)) (λ _.
    put_cases (λ _. 0) 2 1 t (λ k. 0 < k → k < 2 → t ≡ 2) (λ is _ _. is) (λ _ some. absurd (omega arith))))

third_owns_none : (kind : Kind) → OwnsNone (deadlocked kind).core 2
third_owns_none kind n own = let c = (deadlocked kind).core in
    let o = reached_is_orderly (deadlocked kind) (reached_deadlocked kind) in let two = (is_dead kind).locks in ⊎_elim
    (λ below. each_of_two (λ m. c.owner m ≢ Taken 2) (λ z. let y = (is_dead kind).first in cc)
    (λ z. let y = (is_dead kind).second in cc) n below own)
    (λ beyond. let none = (reached_is_lawful c o.reached).base.owners.beyond n (omega arith) in cc) (cases_lt n 2)

alone : (q : List Entry) (x e : Entry) → q ≡ x ∷ [] → Has q e → e.seat ≡ x.seat
alone q x e is h = ⊎_elim (λ same. ap (λ (y : Entry). y.seat) same) (λ none. absurd none)
    (subst (λ p. Has p e) is h)

third_waits_not : (kind : Kind) → InNoQueue (deadlocked kind).core 2
third_waits_not kind n e h is = let c = (deadlocked kind).core in
    let o = reached_is_orderly (deadlocked kind) (reached_deadlocked kind) in let two = (is_dead kind).locks in ⊎_elim
    (λ below. each_of_two (λ m. Has (c.queue m) e → ⊥)
    (λ a. let own = alone (c.queue 0) younger e (is_dead kind).list_first a in
    omega arith)
    (λ a. let own = alone (c.queue 1) older e (is_dead kind).list_second a in
    omega arith) n below h)
    (λ beyond. subst (λ q. Has q e) (queues_beyond c o.reached n (omega arith)) h) (cases_lt n 2)

-- a run that begins there, in which the third does nothing
module _ (kind : Kind) (scene : ℕ → Scene) (step : ℕ → Step) (from : scene 0 ≡ deadlocked kind)
    (g : Goes scene step) where
  stamp_is : (t : ℕ) → (scene 0).core.stamp t ≡ stamps t
  stamp_is t = ap (λ (w : Scene). w.core.stamp t) from ∙ stamps_are kind t

  third_not : (i : ℕ) (e : Event) → step i ≡ performs e → actor e ≢ 2
  third_not i e is own = let fit = subst (λ x. fits x ≡ true) is (g.fit i) in
      true≢false (sym (both_true (not (actor e == 2)) (fits_event e) fit).0 ∙ ap (λ k. not (k == 2)) own)

  third_rests : RestsOn scene step 2 0
  third_rests = let mine = stamp_is 2 in let its = stamps_of.1 in
      who_wants_none_rests scene step g.run 2 0 (omega arith)
      (subst (λ (w : Scene). OwnsNone w.core 2) (sym from) (third_owns_none kind))
      (subst (λ (w : Scene). InNoQueue w.core 2) (sym from) (third_waits_not kind))
      (λ j n _ _. ⊎_elim (λ is. third_not j (Fast 2 n) is refl)
      (⊎_elim (λ is. third_not j (Join 2 n) is refl) (λ is. third_not j (Take 2 n) is refl)))

  rests_for_ever : RestsForEver scene step 2 0
  rests_for_ever = let mine = stamp_is 2 in let its = stamps_of.1 in let a = stamp_is 0 in let b = stamps_of.0 in
      record {
        context = λ i. same_on scene step g.run 2 0 i (omega arith) (omega arith)
            (λ k _ _ is. third_not k (End 2) is refl);
        some = omega arith;
        older = omega arith;
        rests = third_rests;
      }

  is_oldest : IsTheOldest scene step 0 1
  is_oldest = let a = stamp_is 0 in let b = stamps_of.0 in record {
    oldest = record {
      context = omega arith;
      older = λ t some less. let its = stamp_is t in
          subst (λ u. RestsOn scene step u 0) (sym (older_is t (omega arith) (omega arith))) third_rests;
    };
    unsigned = ap (λ (w : Scene). w.core.sign 0) from ∙ (is_dead kind).sign;
    owns = (0, ap (λ (w : Scene). w.core.owner 0) from ∙ (is_dead kind).first);
    waits = subst (λ (w : Scene). Stands (w.core.queue 1) 0) (sym from) (older_waits kind);
  }

-- ---- the rest

is_over : (kind : Kind) → IsLike (over kind) Nobody Nobody [] []
unfolding put ℕ_discrete
is_over WoundWait =
    record { first = refl; second = refl; list_first = refl; list_second = refl; locks = refl; sign = refl }
is_over WaitDie =
    record { first = refl; second = refl; list_first = refl; list_second = refl; locks = refl; sign = refl }

guards_over : (kind : Kind) → ((over kind).core.guard 0 ≡ 0) × ((over kind).core.guard 1 ≡ 0)
unfolding put ℕ_discrete
guards_over WoundWait = (refl, refl)
guards_over WaitDie = (refl, refl)

none_at_first : (a b : ℕ) → no_debts a b ≢ true
none_at_first a b is = true≢false (sym is)

debts_over : (kind : Kind) (s v : ℕ) → (over kind).owes s v ≢ true
unfolding put ℕ_discrete
debts_over WoundWait s v is = none_left (paid_once no_debts 0 1) 1 0 (none_left no_debts 0 1 none_at_first) s v is
debts_over WaitDie s v is = none_left no_debts 1 0 none_at_first s v is

at_rest : (kind : Kind) → AtRest (over kind)
at_rest kind = let w = over kind in let c = w.core in let o = reached_is_orderly w (reached_over kind) in
    let l = reached_is_lawful c o.reached in
    let two = (is_over kind).locks in record {
      owner = λ n s own. ⊎_elim
          (λ below. each_of_two (λ m. c.owner m ≢ Taken s) (λ z. let y = (is_over kind).first in cc)
          (λ z. let y = (is_over kind).second in cc) n below own)
          (λ beyond. let none = l.base.owners.beyond n (omega arith) in cc) (cases_lt n 2);
      queue = empty kind;
      guard = λ n s inside. let at = (guards_are c o.reached s n inside).lock in
          each_of_two (λ m. c.guard m ≢ suc s) (λ z. let y = (guards_over kind).0 in omega arith)
          (λ z. let y = (guards_over kind).1 in omega arith)
          n (omega arith) inside;
      phase = λ s. ⊎_elim (λ acts. acts) (λ other. absurd
          (no_rest kind s (⊎_elim (λ z y. let q : ⊥ = cc in q) (λ z y. let q : ⊥ = cc in q) other)))
          (phase_is (w.phase s));
      debts = debts_over kind;
      sign = (is_over kind).sign;
    }
  where
    empty : (kind : Kind) (n : ℕ) → (over kind).core.queue n ≡ []
    empty kind n = let c = (over kind).core in let o = reached_is_orderly (over kind) (reached_over kind) in
        let two = (is_over kind).locks in ⊎_elim
        (λ below. each_of_two (λ m. c.queue m ≡ []) (is_over kind).list_first (is_over kind).list_second n below)
        (λ beyond. queues_beyond c o.reached n (omega arith)) (cases_lt n 2)

    no_rest : (kind : Kind) (s : ℕ) → (over kind).phase s ≢ acting → ⊥
    no_rest kind s not = let r = (reached_is_orderly (over kind) (reached_over kind)).rests s not in let h = r.stands in
        subst (λ q. Has q h.0) (empty kind r.lock) h.1

pub deadlocks_are_reached : DeadlocksAreReached
deadlocks_are_reached kind = let g = goes_from (deadlocked kind) (reached_deadlocked kind) resolves
    (are_allowed kind).resolving refl
    (are_allowed kind).owning (at_rest kind) in record {
      scene = g.scene;
      step = g.step;
      of_kind = ap (λ (w : Scene). w.core.kind) g.from ∙ of_kind kind;
      run = g.goes.run;
      waiters = g.goes.go;
      holders = g.goes.holders;
      release = g.goes.release;
      backs = backs g.scene g.step g.goes;
      asks = asks g.scene g.step g.goes;
      seats = 0 ∷ 1 ∷ [];
      deadlocked = subst (λ (w : Scene). AreDeadlocked w.core (0 ∷ 1 ∷ [])) (sym g.from) (are_dead kind);
      sleeper = (0, inl refl, ap (λ (w : Scene). w.phase 0) g.from ∙ sleeps kind);
      oldest = is_oldest kind g.scene g.step g.from g.goes;
      rester = rests_for_ever kind g.scene g.step g.from g.goes;
      each_ends = g.goes.ends;
      contended = contended g.scene g.step g.goes;
      ends = ends_of g.scene g.step g.goes.ends 0;
      owning = g.goes.owning;
    }
  where
    of_kind : (kind : Kind) → (deadlocked kind).core.kind ≡ kind
    of_kind WoundWait = refl
    of_kind WaitDie = refl

-- Endless runs: a waiter that is woken comes inside its guard, and what it can do there.
use Rattle.std.proofs.Common.{◌≡◌, ◌≢◌, ◌⊎◌, inl, inr, ⊎_elim, ℕ, suc, ◌<◌, ◌≤◌, Bool, true, refl, sym, ◌∙◌, subst, arith, true≢false}
use Rattle.std.proofs.lemmas.Bool.{cases_Bool, cases_lt}
use mathlib.Core.Logic.{dite}
use native.Mathlib.Decide.{ℕ_discrete}
use Rattle.ww_queue.specs.declared.entry.Entry.{Entry}
use Rattle.ww_queue.specs.Queue.{Has}
use Rattle.ww_model.specs.declared.state.Holder.TheVariants.{Taken}
use Rattle.ww_model.specs.declared.event.Event.TheVariants.{FastGive, Guard, Give}
use Rattle.ww_model.specs.Lawful.{IsLawful}
use Rattle.ww_model.proofs.Puts.{put_here}
use Rattle.ww_model.proofs.Kept.{reached_is_lawful}
use Rattle.ww_laws.specs.Scene.{Phase, acting, going_to_sleep, asleep, Scene, Step, performs, leaves_to_sleep, wakes, rises, MayLeaveToSleep, May, next}
use Rattle.ww_laws.specs.Sleepers.{IsEndlessRun}
use Rattle.ww_laws.proofs.Keeping.{IsTold, IsOrderly, reached_is_orderly}
use Rattle.ww_laws.specs.Premises.{WaiterGoesOn, WaitersGoOn}
use Rattle.ww_laws.specs.GoingOn.{EndsWait}
use Rattle.ww_laws.proofs.Steps.{ends_or_not, entry_next, kind_next, leaves_by, enters_by, token_lost_by, taken_or_not, given_by}
use Rattle.ww_laws.proofs.Endless.{FoundAt, unless, holds_at, reached_at}

-- ---- along the numbers

-- it holds at no time from i on, and before j
abbrev pub Never : (ℕ → Type 0) → ℕ → ℕ → Type 0
Never P i j = (k : ℕ) → i ≤ k → k < j → P k → ⊥

pub search_to : (P : ℕ → Type 0) → ((k : ℕ) → P k ⊎ (P k → ⊥)) → (i j : ℕ) → i ≤ j →
    FoundAt P i j ⊎ Never P i j
search_to P dec i j later = unless P (Never P i) i j later (λ k a b. absurd (omega arith))
    (λ k from below none. ⊎_elim inl
    (λ isnt. inr (λ x a b. ⊎_elim (λ low. none x a low)
    (λ high. let is : k ≡ x = omega arith in subst (λ y. P y → ⊥) is isnt) (cases_lt x k))) (dec k))

-- the first time from i on after which it doesn't hold
pub record Change (P : ℕ → Type 0) (i j : ℕ) : Type 0 where
  pub at : ℕ
  pub from : i ≤ at
  pub before : at < j
  pub held : (k : ℕ) → i ≤ k → k ≤ at → P k
  pub gone : P (suc at) → ⊥

abbrev Held : (ℕ → Type 0) → ℕ → ℕ → Type 0
Held P i j = (k : ℕ) → i ≤ k → k ≤ j → P k

pub changes : (P : ℕ → Type 0) → ((k : ℕ) → P k ⊎ (P k → ⊥)) → (i j : ℕ) → i ≤ j → P i → (P j → ⊥) → Change P i j
changes P dec i j later h gone = ⊎_elim
    (λ f. record { at = f.at; from = f.from; before = f.before; held = f.holds.0; gone = f.holds.1 })
    (λ all. absurd (gone (all j later (omega arith))))
    (unless (λ k. Held P i k × (P (suc k) → ⊥)) (Held P i) i j later
    (λ k a b. let is : i ≡ k = omega arith in subst P is h)
    (λ k from below held. ⊎_elim
    (λ still. inr (λ x a b. ⊎_elim (λ low. held x a (omega arith))
    (λ high. let is : suc k ≡ x = omega arith in subst P is still) (cases_lt x (suc k))))
    (λ isnt. inl (held, isnt)) (dec (suc k))))

-- ---- of one scene

pub phase_is : (p : Phase) → (p ≡ acting) ⊎ ((p ≡ going_to_sleep) ⊎ (p ≡ asleep))
phase_is acting = inl refl
phase_is going_to_sleep = inr (inl refl)
phase_is asleep = inr (inr refl)

-- it acts, or was told to
abbrev pub IsCalled : Scene → ℕ → Type 0
IsCalled w s = (w.phase s ≡ acting) ⊎ IsTold w s

pub number_is : (m n : ℕ) → (m ≡ n) ⊎ (m ≢ n)
number_is m n = dite (ℕ_discrete m n) inl inr

module _ (scene : ℕ → Scene) (step : ℕ → Step) where
  -- the waiter stands in the list of the lock from i to j, and before j no step ends its wait
  pub record Stays (e : Entry) (n i j : ℕ) : Type 0 where
    pub here : (k : ℕ) → i ≤ k → k ≤ j → Has ((scene k).core.queue n) e
    pub on : (k : ℕ) → i ≤ k → k < j → EndsWait e.seat n (step k) → ⊥

  -- its wait ends at some time from i on
  pub record Ended (e : Entry) (n i : ℕ) : Type 0 where
    pub at : ℕ
    pub later : i ≤ at
    pub stays : Stays e n i at
    pub ends : EndsWait e.seat n (step at)

  -- it comes to be inside the guard at some time from i on
  pub record Comes (e : Entry) (n i : ℕ) : Type 0 where
    pub at : ℕ
    pub later : i ≤ at
    pub stays : Stays e n i at
    pub inside : (scene at).core.guard n ≡ suc e.seat

  -- it leaves the guard in order to sleep, and was inside from i to then
  pub record Sleeps (e : Entry) (n i : ℕ) : Type 0 where
    pub at : ℕ
    pub later : i ≤ at
    pub stays : Stays e n i at
    pub inside : (k : ℕ) → i ≤ k → k ≤ at → (scene k).core.guard n ≡ suc e.seat
    pub heeds : Bool
    pub how : step at ≡ leaves_to_sleep e.seat n heeds
    pub may : MayLeaveToSleep (scene at) e.seat n heeds

  pub stays_more : (e : Entry) (n i j k : ℕ) → i ≤ j → Stays e n i j → Stays e n j k → Stays e n i k
  stays_more e n i j k later a b = record {
    here = λ x from to. ⊎_elim (λ low. a.here x from low) (λ high. b.here x high to) (split x);
    on = λ x from to. ⊎_elim (λ low. ⊎_elim (λ is. b.on x (omega arith) to) (λ isnt. a.on x from (omega arith))
        (number_is x j))
        (λ high. b.on x high to) (split x);
  }
    where
      split : (x : ℕ) → (x ≤ j) ⊎ (j ≤ x)
      split x = ⊎_elim (λ low. inl (omega arith)) (λ high. inr high) (cases_lt x j)

  pub stays_less : (e : Entry) (n i j k : ℕ) → j ≤ k → Stays e n i k → Stays e n i j
  stays_less e n i j k less stays = record {
    here = λ x from to. stays.here x from (omega arith);
    on = λ x from to. stays.on x from (omega arith);
  }

  pub ended_from : (e : Entry) (n i j : ℕ) → i ≤ j → Stays e n i j → Ended e n j → Ended e n i
  ended_from e n i j later a b = let more = b.later in
      record { at = b.at; later = omega arith; stays = stays_more e n i j b.at later a b.stays; ends = b.ends }

  -- where the wait doesn't end before, the waiter stays
  pub until_at : (e : Entry) (n i j : ℕ) → i ≤ j → IsEndlessRun scene step → Has ((scene i).core.queue n) e →
      Ended e n i ⊎ Stays e n i j
  until_at e n i j later run h = ⊎_elim
      (λ f. inl (record { at = f.at; later = f.from; stays = f.holds.0; ends = f.holds.1 })) inr
      (unless (λ k. Stays e n i k × EndsWait e.seat n (step k)) (Stays e n i) i j later
      (record {
        here = λ k a b. let is : i ≡ k = omega arith in subst (λ x. Has ((scene x).core.queue n) e) is h;
        on = λ k a b. absurd (omega arith);
      })
      (λ k from below stays. ⊎_elim (λ ends. inl (stays, ends))
      (λ on. inr (record {
        here = λ x a b. ⊎_elim (λ low. stays.here x a (omega arith))
            (λ high. let is : suc k ≡ x = omega arith in subst (λ y. Has ((scene y).core.queue n) e) is
            (subst (λ (w : Scene). Has (w.core.queue n) e) (sym (run.goes_on k))
            (entry_next (scene k) (step k) e n on (stays.here k from (omega arith))))) (cases_lt x (suc k));
        on = λ x a b. ⊎_elim (λ low. stays.on x a low)
            (λ high. let is : k ≡ x = omega arith in subst (λ y. EndsWait e.seat n (step y) → ⊥) is on)
            (cases_lt x k);
      }))
      (ends_or_not e.seat n (step k))))

module _ (scene : ℕ → Scene) (step : ℕ → Step) (run : IsEndlessRun scene step) where
  pub orderly_at : (i : ℕ) → IsOrderly (scene i)
  orderly_at i = reached_is_orderly (scene i) (reached_at scene step run i)

  pub lawful_at : (i : ℕ) → IsLawful (scene i).core
  lawful_at i = reached_is_lawful (scene i).core (orderly_at i).reached

  -- what holds of the scene that a step makes holds next
  pub made_next : (P : Scene → Type 0) (i : ℕ) → P (next (scene i) (step i)) → P (scene (suc i))
  made_next P i h = subst P (sym (run.goes_on i)) h

  -- the same of a step that is known
  pub known_next : (P : Scene → Type 0) (i : ℕ) (x : Step) → step i ≡ x → P (next (scene i) x) → P (scene (suc i))
  known_next P i x is h = made_next P i (subst (λ y. P (next (scene i) y)) (sym is) h)

  pub may_be : (i : ℕ) (x : Step) → step i ≡ x → May (scene i) x
  may_be i x is = subst (May (scene i)) is (run.may i)

  -- what holds at i, and after each step from there if before it, holds at j
  pub along : (P : Scene → Type 0) (i j : ℕ) → i ≤ j → P (scene i) →
      ((k : ℕ) → i ≤ k → k < j → P (scene k) → P (next (scene k) (step k))) → P (scene j)
  along P i j later h on = holds_at (λ k. P (scene k)) i j later h
      (λ k from below before. made_next P k (on k from below before))

  -- ---- what happens between two times

  pub out_or_in : (s n k : ℕ) → ((scene k).core.guard n ≢ suc s) ⊎ ((scene k).core.guard n ≢ suc s → ⊥)
  out_or_in s n k = ⊎_elim (λ is. inr (λ out. out is)) inl (number_is ((scene k).core.guard n) (suc s))

  -- the waiter goes inside the guard at some time from i on
  pub record Enters (e : Entry) (n i : ℕ) : Type 0 where
    pub at : ℕ
    pub from : i ≤ at
    pub stays : Stays scene step e n i (suc at)
    pub how : step at ≡ performs (Guard e.seat n)
    pub inside : (scene (suc at)).core.guard n ≡ suc e.seat

  pub enters : (e : Entry) (n i : ℕ) → (scene i).core.guard n ≢ suc e.seat → Comes scene step e n i → Enters e n i
  enters e n i out come = let s = e.seat in
      let change = changes (λ k. (scene k).core.guard n ≢ suc s) (out_or_in s n) i come.at come.later out
      (λ x. x come.inside) in
      let k = change.at in let from = change.from in let before = change.before in
      let inside : (scene (suc k)).core.guard n ≡ suc s = ⊎_elim (λ is. is) (λ isnt. absurd (change.gone isnt))
      (number_is ((scene (suc k)).core.guard n) (suc s)) in record {
        at = k;
        from = from;
        stays = stays_less scene step e n i (suc k) come.at (omega arith) come.stays;
        how = enters_by (scene k) (step k) s n (change.held k from (omega arith))
            (subst (λ (w : Scene). w.core.guard n ≡ suc s) (run.goes_on k) inside);
        inside = inside;
      }

  -- the seat releases the lock at some time from i on, and has it until then
  pub record Releases (t n i j : ℕ) : Type 0 where
    pub at : ℕ
    pub from : i ≤ at
    pub before : at < j
    pub held : (k : ℕ) → i ≤ k → k ≤ at → (scene k).core.owner n ≡ Taken t
    pub how : (step at ≡ performs (FastGive t n)) ⊎ (step at ≡ performs (Give t n))

  pub release_between : (t n i j : ℕ) → i ≤ j → (scene i).core.owner n ≡ Taken t → (scene j).core.owner n ≢ Taken t →
      Releases t n i j
  release_between t n i j later own gone = let change = changes (λ k. (scene k).core.owner n ≡ Taken t)
      (λ k. taken_or_not ((scene k).core.owner n) t) i j later own gone in
      let k = change.at in let from = change.from in record {
        at = k;
        from = from;
        before = change.before;
        held = change.held;
        how = given_by (scene k) (step k) t n (run.may k) (change.held k from (omega arith))
            (λ kept. change.gone (made_next (λ w. w.core.owner n ≡ Taken t) k kept));
      }

  pub kind_at : (i j : ℕ) → i ≤ j → (scene j).core.kind ≡ (scene i).core.kind
  kind_at i j later = along (λ w. w.core.kind ≡ (scene i).core.kind) i j later refl
      (λ k _ _ same. kind_next (scene k) (step k) (run.may k) ∙ same)

module _ (scene : ℕ → Scene) (step : ℕ → Step) (run : IsEndlessRun scene step) (s : ℕ)
    (go : WaiterGoesOn scene step s) where
  -- ---- whoever is told acts

  abbrev ActsLater : ℕ → Type 0
  ActsLater i = (j : ℕ) × (i ≤ j) × ((scene j).phase s ≡ acting)

  risen : (i : ℕ) → step i ≡ rises s → (scene (suc i)).phase s ≡ acting
  risen i is = known_next scene step run (λ w. w.phase s ≡ acting) i (rises s) is (put_here (scene i).phase s acting)

  asleep_acts : (i : ℕ) → (scene i).token s ≡ true → (scene i).phase s ≡ asleep → ActsLater i
  asleep_acts i token sleeps = let up = go.scheduled.heard i token sleeps in let later = up.1 in
      (suc up.0, omega arith, risen up.0 up.2)

  acts_from : (i j : ℕ) → i ≤ j → ActsLater j → ActsLater i
  acts_from i j later up = let more = up.1 in (up.0, omega arith, up.2)

  going_acts : (i : ℕ) → (scene i).token s ≡ true → (scene i).phase s ≡ going_to_sleep → ActsLater i
  going_acts i token goes = let settled = go.scheduled.settled i goes in let j = settled.0 in let later = settled.1 in
      ⊎_elim
      (λ still. ⊎_elim (λ acts. (j, later, acts))
      (⊎_elim (λ going. absurd (settled.2 going)) (λ sleeps. acts_from i j later (asleep_acts j still sleeps)))
      (phase_is ((scene j).phase s)))
      (λ lost. let change = changes (λ k. (scene k).token s ≡ true) (λ k. token_or_not k) i j later token lost in
      let from = change.from in (
        suc change.at,
        omega arith,
        risen change.at (token_lost_by (scene change.at) (step change.at) s
            (change.held change.at from (omega arith))
            (λ kept. change.gone (made_next scene step run (λ w. w.token s ≡ true) change.at kept))),
      ))
      (token_or_not j)
    where
      token_or_not : (k : ℕ) → ((scene k).token s ≡ true) ⊎ ((scene k).token s ≡ true → ⊥)
      token_or_not k = ⊎_elim inl (λ isnt. inr (λ is. true≢false (sym is ∙ isnt))) (cases_Bool ((scene k).token s))

  token_acts : (i : ℕ) → (scene i).token s ≡ true → ActsLater i
  token_acts i token = ⊎_elim (λ acts. (i, omega arith, acts)) (⊎_elim (going_acts i token) (asleep_acts i token))
      (phase_is ((scene i).phase s))

  told_acts : (i : ℕ) → IsTold (scene i) s → ActsLater i
  told_acts i (inl token) = token_acts i token
  told_acts i (inr owed) = let paid = go.scheduled.made i owed.0 owed.1 in let later = paid.1 in
      acts_from i (suc paid.0) (omega arith) (token_acts (suc paid.0)
      (known_next scene step run (λ w. w.token s ≡ true) paid.0 (wakes owed.0 s) paid.2
      (put_here (scene paid.0).token s true)))

  pub called_acts : (i : ℕ) → IsCalled (scene i) s → ActsLater i
  called_acts i (inl acts) = (i, omega arith, acts)
  called_acts i (inr told) = told_acts i told

module _ (scene : ℕ → Scene) (step : ℕ → Step) (run : IsEndlessRun scene step) where
  -- ---- and comes inside its guard, and out of it

  pub seat_comes_in : (e : Entry) → WaiterGoesOn scene step e.seat → (n i : ℕ) → Has ((scene i).core.queue n) e →
      IsCalled (scene i) e.seat → Ended scene step e n i ⊎ Comes scene step e n i
  seat_comes_in e go n i h called = let up = called_acts scene step run e.seat go i called in let j = up.0 in
      let later = up.1 in ⊎_elim inl
      (λ stays. let there = stays.here j later (omega arith) in
      let look = go.scheduled.looks j n (e, there, refl) up.2 in let k = look.0 in let on = look.1 in ⊎_elim
      (λ ended. inl (ended_from scene step e n i j later stays ended))
      (λ more. inr (record {
        at = k;
        later = omega arith;
        stays = stays_more scene step e n i j k later stays more;
        inside = look.2;
      })) (until_at scene step e n j k on run there))
      (until_at scene step e n i j later run h)

  -- before the time at which it is outside
  out_by : (e : Entry) → WaiterGoesOn scene step e.seat → (n i j : ℕ) → i ≤ j → Has ((scene i).core.queue n) e →
      (scene i).core.guard n ≡ suc e.seat →
      (scene j).core.guard n ≢ suc e.seat → Ended scene step e n i ⊎ Sleeps scene step e n i
  out_by e go n i until later h inside out = let s = e.seat in
      let change = changes (λ k. (scene k).core.guard n ≡ suc s)
      (λ k. number_is ((scene k).core.guard n) (suc s)) i until later inside out in
      let j = change.at in let from = change.from in ⊎_elim inl
      (λ stays. let there = stays.here j from (omega arith) in ⊎_elim
      (λ unguards. absurd (go.sleeps j n unguards e there refl))
      (λ sleeps. inr (record {
        at = j;
        later = from;
        stays = stays;
        inside = change.held;
        heeds = sleeps.0;
        how = sleeps.1;
        may = may_be scene step run j (leaves_to_sleep s n sleeps.0) sleeps.1;
      }))
      (leaves_by (scene j) (step j) s n (run.may j) (change.held j from (omega arith))
      (λ kept. change.gone (made_next scene step run (λ w. w.core.guard n ≡ suc s) j kept))))
      (until_at scene step e n i j from run h)

  pub seat_goes_out : (e : Entry) → WaiterGoesOn scene step e.seat → (n i : ℕ) → Has ((scene i).core.queue n) e →
      (scene i).core.guard n ≡ suc e.seat → Ended scene step e n i ⊎ Sleeps scene step e n i
  seat_goes_out e go n i h inside = let out = go.scheduled.leaves i n (e, h, refl) inside in let j = out.0 in
      let later = out.1 in
      ⊎_elim
      (λ outside. out_by e go n i j later h inside outside)
      (λ none. ⊎_elim inl (λ stays. absurd (none e (stays.here j later (omega arith)) refl))
      (until_at scene step e n i j later run h))
      out.2

-- where all seats are scheduled
module _ (scene : ℕ → Scene) (step : ℕ → Step) (run : IsEndlessRun scene step) (go : WaitersGoOn scene step) where
  pub comes_in : (e : Entry) (n i : ℕ) → Has ((scene i).core.queue n) e → IsCalled (scene i) e.seat →
      Ended scene step e n i ⊎ Comes scene step e n i
  comes_in e n i h called = seat_comes_in scene step run e (go e.seat) n i h called

  pub goes_out : (e : Entry) (n i : ℕ) → Has ((scene i).core.queue n) e → (scene i).core.guard n ≡ suc e.seat →
      Ended scene step e n i ⊎ Sleeps scene step e n i
  goes_out e n i h inside = seat_goes_out scene step run e (go e.seat) n i h inside

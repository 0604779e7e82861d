-- How one moment follows another.
use Rattle.std.specs.Prelude.{ℕ, suc, ◌≡◌, ◌≢◌, ◌<◌, ◌≤◌, ◌+◌, ◌⊎◌, Bool, true, false, List, ◌∷◌, Option, Some, None}
use Rattle.ww_model.specs.declared.event.Event.{Event}
use Rattle.ww_model.specs.declared.event.Event.TheVariants.{Unguard, Cancel}
use Rattle.ww_model.specs.State.{put}
use Rattle.ww_model.specs.Event.{Possible, after, actor}
use Rattle.ww_view.specs.declared.view.View.{View}
use Rattle.ww_view.specs.May.{MayLeave}
use Rattle.ww_view.specs.Made.{view_after, found_none, has_read, found_uncancelled}
use Rattle.ww_invariant.specs.declared.cells.Start.{Start}
use Rattle.ww_laws.specs.Scene.{Step, performs, leaves_to_sleep, finds_no_sign, finds_no_cancel, wakes, falls_asleep, rises, woken_by}
use Rattle.ww_invariant.specs.Rule.{wakes_owed}
use Rattle.ww_refines.specs.Moment.{Moment, core, view, HasToWake, Acts, HasLeftToWait}

-- the seats whose cancel a seat has set, after its event
abbrev pub cancelled_after : Event → List ℕ → List ℕ
cancelled_after (Cancel s u) us = u ∷ us
cancelled_after _ us = us

-- a read from outside the guards: it changes what is noted in the view, but not where the seat is, whom it condemned or has to
-- wake, or how often it left a guard as a waiter
pub record IsRead (v v' : View) : Type 0 where
  pub inside : v'.inside ≡ v.inside
  pub condemned : v'.condemned ≡ v.condemned
  pub debts : v'.debts ≡ v.debts
  pub naps : v'.naps ≡ v.naps

-- A step that is no event: it changes what is noted in the view, but not where the seat is, whether it looks again, whom it
-- condemned or has to wake, or how often it left a guard as a waiter; nor has it found no sign, or no cancel, by it.
pub record IsNoted (v v' : View) : Type 0 where
  pub inside : v'.inside ≡ v.inside
  pub later : v'.later ≡ v.later
  pub condemned : v'.condemned ≡ v.condemned
  pub debts : v'.debts ≡ v.debts
  pub naps : v'.naps ≡ v.naps
  pub fresh : v'.fresh ≡ true → v.fresh ≡ true
  pub uncancelled : v'.uncancelled ≡ true → v.uncancelled ≡ true

module _ {key : Start} (m m' : Moment key) where
  -- ---- at the table

  -- what the table tells of other seats stays, and so does all beside the table
  pub record OthersStay (t : ℕ) : Type 0 where
    pub others : (u : ℕ) → u < key.seats → u ≢ t → m'.part u ≡ m.part u
    pub rung : m'.rung ≡ m.rung
    pub risen : m'.risen ≡ m.risen
    pub token : m'.token ≡ m.token
    pub asleep : m'.asleep ≡ m.asleep

  -- a seat that acts makes a step there
  pub record StepsThere (t : ℕ) : Type 0 where
    pub acts : Acts m t
    pub stay : OthersStay t

  -- the step is this event of the locks, and the seat knows of it what its view says then
  pub record MakesEvent (e : Event) : Type 0 where
    pub there : StepsThere (actor e)
    pub can : Possible (core m) e
    pub core : m'.core ≡ after m.core e
    pub view : (m'.part (actor e)).core ≡ view_after m.core e (m.part (actor e)).core
    pub cancelled : (m'.part (actor e)).counts.cancelled ≡ cancelled_after e (m.part (actor e)).counts.cancelled

  -- it isn't one by which a seat leaves a guard as a waiter, and whom the seat has to wake for it is one of the seats
  pub record Performs (e : Event) : Type 0 where
    pub makes : MakesEvent e
    pub stays_up : (view m' (actor e)).naps ≡ (view m (actor e)).naps
    pub woken : (u : ℕ) → woken_by (core m) e ≡ Some u → u < key.seats
    pub heeds : m'.heeds ≡ m.heeds

  -- It leaves a guard as a waiter, as far as its view lets it, and if its call heeds cancels it found none there.
  pub record LeavesToSleep (s n : ℕ) (heeds : Bool) : Type 0 where
    pub makes : MakesEvent (Unguard s n)
    pub may : MayLeave (view m s) n
    pub waits : (view m s).waits ≡ suc n
    pub uncancelled : heeds ≡ true → (view m s).uncancelled ≡ true
    pub noted : m'.heeds ≡ put m.heeds s heeds

  -- the step is no event
  pub record Looks (t : ℕ) : Type 0 where
    pub there : StepsThere t
    pub core : m'.core ≡ m.core
    pub cancelled : (m'.part t).counts.cancelled ≡ (m.part t).counts.cancelled
    pub heeds : m'.heeds ≡ m.heeds

  -- it reads its own sign, which is 0; others may sign it at once, or nobody can
  pub record FindsNoSign (s : ℕ) : Type 0 where
    pub looks : Looks s
    pub none : (core m).sign s ≡ 0
    pub view : ((m'.part s).core ≡ found_none (m.part s).core) ⊎ ((m'.part s).core ≡ has_read (m.part s).core 0)

  -- it reads its own cancel, which is 0
  pub record FindsNoCancel (s : ℕ) : Type 0 where
    pub looks : Looks s
    pub none : (core m).cancel s ≡ 0
    pub view : (m'.part s).core ≡ found_uncancelled (m.part s).core

  -- it only notes what it read, or does nothing that its view tells
  pub record Notes (t : ℕ) : Type 0 where
    pub looks : Looks t
    pub view : IsNoted (view m t) (view m' t)

  -- A seat that left a guard as a waiter, and is about to fall asleep, reads something from outside the guards. What its view
  -- says of its sign and its cancel matters inside only, and it has found neither when it goes there.
  pub record Reads (t : ℕ) : Type 0 where
    pub rests : HasLeftToWait m t false
    pub outside : (view m t).inside ≡ 0
    pub stay : OthersStay t
    pub core : m'.core ≡ m.core
    pub cancelled : (m'.part t).counts.cancelled ≡ (m.part t).counts.cancelled
    pub heeds : m'.heeds ≡ m.heeds
    pub view : IsRead (view m t) (view m' t)

  -- ---- beside the table

  -- the table tells the same
  pub record StaysThere : Type 0 where
    pub core : m'.core ≡ m.core
    pub parts : (u : ℕ) → u < key.seats → m'.part u ≡ m.part u
    pub heeds : m'.heeds ≡ m.heeds

  -- outside all guards a seat that doesn't sleep gives another a token: for as many of the wakes that it owes that one as
  -- it likes, or for none
  pub record Rings (s u : ℕ) : Type 0 where
    pub stays : StaysThere
    pub awake : m.asleep s ≡ false
    pub outside : (view m s).inside ≡ 0
    pub waker : s < key.seats
    pub count : ℕ
    pub most : m.rung s u + count ≤ wakes_owed (m.part s) u
    pub rung : m'.rung ≡ put m.rung s (put (m.rung s) u (m.rung s u + count))
    pub token : m'.token ≡ put m.token u true
    pub risen : m'.risen ≡ m.risen
    pub asleep : m'.asleep ≡ m.asleep

  -- a seat that left a guard as a waiter falls asleep, once it has woken all whom it has to wake
  pub record Parks (s : ℕ) : Type 0 where
    pub stays : StaysThere
    pub ready : HasLeftToWait m s false
    pub paid : (u : ℕ) → ¬ HasToWake m s u
    pub asleep : m'.asleep ≡ put m.asleep s true
    pub rung : m'.rung ≡ m.rung
    pub risen : m'.risen ≡ m.risen
    pub token : m'.token ≡ m.token

  -- it rises, for a token, which it takes, or by chance; or it finds one as it is about to sleep
  pub record Rises (s : ℕ) : Type 0 where
    pub stays : StaysThere
    pub rests : (sleeps : Bool) × HasLeftToWait m s sleeps
    pub risen : m'.risen ≡ put m.risen s (m.risen s + 1)
    pub asleep : m'.asleep ≡ put m.asleep s false
    pub token : m'.token ≡ put m.token s false
    pub rung : m'.rung ≡ m.rung

  -- nothing happens, whether any seat acts or not: so each run goes on forever, also where all sleep
  pub record StandsStill : Type 0 where
    pub stays : StaysThere
    pub rung : m'.rung ≡ m.rung
    pub risen : m'.risen ≡ m.risen
    pub token : m'.token ≡ m.token
    pub asleep : m'.asleep ≡ m.asleep

  -- ---- all of it

  -- the moment follows by what is to be this step of the scene, or none
  abbrev pub Follows : Option Step → Type 0
  Follows (Some (performs e)) = Performs e
  Follows (Some (leaves_to_sleep s n heeds)) = LeavesToSleep s n heeds
  Follows (Some (finds_no_sign s)) = FindsNoSign s
  Follows (Some (finds_no_cancel s)) = FindsNoCancel s
  Follows (Some (wakes s u)) = Rings s u
  Follows (Some (falls_asleep s)) = Parks s
  Follows (Some (rises s)) = Rises s
  Follows None = StandsStill ⊎ ((t : ℕ) × (Notes t ⊎ Reads t))

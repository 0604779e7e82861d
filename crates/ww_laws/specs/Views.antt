-- Runs of seats that go by their views, as seats do at the table.
use Rattle.std.specs.Prelude.{ℕ, suc, ◌≡◌, ◌≢◌, ◌<◌, ◌⊎◌, true, false, List}
use Rattle.ww_word.specs.AnySeats.{packed}
use Rattle.ww_queue.specs.declared.kind.Kind.{Kind}
use Rattle.ww_model.specs.declared.event.Event.{Event}
use Rattle.ww_model.specs.declared.event.Event.TheVariants.{Guard, Unguard}
use Rattle.ww_model.specs.State.{State, word_of}
use Rattle.ww_model.specs.Event.{actor}
use Rattle.ww_model.specs.Waits.{IsOneOf}
use Rattle.ww_view.specs.declared.view.View.{View}
use Rattle.ww_view.specs.View.{IsQuiet, first_view}
use Rattle.ww_view.specs.May.{MayLeave, Shows}
use Rattle.ww_view.specs.Made.{exited, fast_missed, fast_kept, glanced, has_seen_word, found_pending, shut_out, has_looked, noted, has_read, found_none, found_uncancelled, stepped, view_after}
use Rattle.ww_laws.specs.Scene.{Scene, first_scene, acting, going_to_sleep, asleep, Step, performs, leaves_to_sleep, finds_no_sign, finds_no_cancel, wakes, falls_asleep, rises, next}
use Rattle.ww_laws.specs.Sleepers.{IsEndlessRun}
use Rattle.ww_laws.specs.InCall.{mover}
use Rattle.ww_laws.specs.Premises.{IsScheduled, LeavesToSleep, FirstsAsk}
use Rattle.ww_laws.specs.GoingOn.{AreDeadlocked, IsResolved}

-- ---- what a seat does by its view

-- What the view of a seat becomes where the seat finds something without an event and without a step of the scene: it
-- reads an owner word, sees that a seat or itself is signed, or its step was lost or told nothing that lasts.
pub data Learns (c : State) (v : View) : View → Type 0 where
  looks : (n : ℕ) → v.inside ≡ suc n → Learns c v (has_looked v (word_of c n))
  notes : (u : ℕ) → c.sign u ≢ 0 → Learns c v (noted v u)
  reads : c.sign v.who ≢ 0 → Learns c v (has_read v (c.sign v.who))
  keeps : Learns c v (fast_kept v)
  misses : Learns c v (fast_missed v)
  glances : Learns c v (glanced v)
  sees : (n : ℕ) → Learns c v (has_seen_word v n (packed (word_of c n)))
  pends : Learns c v (found_pending v)
  is_shut_out : Learns c v (shut_out v)
  steps : Learns c v (stepped v)

-- ... any number of times
pub data FindsOn (c : State) (v : View) : View → Type 0 where
  no_more : FindsOn c v v
  more : (between after : View) → FindsOn c v between → Learns c between after → FindsOn c v after

-- The seat with this view may make the step, by its view and by what it finds in the words: an event that its view
-- shows; as a waiter out of a guard, where the table lets it, in order to sleep, and not otherwise; a look at its sign
-- or cancel that finds none; a wake; asleep once it has woken all whom it had to wake; and up again.
abbrev pub MayByView : Scene → View → Step → Type 0
MayByView w v (performs e) = (w.phase (actor e) ≡ acting) × Shows w.core v e
    × ((s n : ℕ) → e ≡ Unguard s n → v.waits ≡ 0)
MayByView w v (leaves_to_sleep s n heeds) = (w.phase s ≡ acting) × MayLeave v n × (v.waits ≡ suc n)
    × (heeds ≡ true → v.uncancelled ≡ true)
MayByView w v (finds_no_sign s) = (w.phase s ≡ acting) × (w.core.sign s ≡ 0)
MayByView w v (finds_no_cancel s) = (w.phase s ≡ acting) × (w.core.cancel s ≡ 0)
MayByView w v (wakes s u) = w.phase s ≢ asleep
MayByView w v (falls_asleep s) = (w.phase s ≡ going_to_sleep) × ((u : ℕ) → w.owes s u ≡ false)
MayByView w v (rises s) = w.phase s ≢ acting

-- The step makes this of the view of the seat that makes it. What a look found stays, where nobody else can sign it.
abbrev pub MadeBy : Scene → Step → View → View → Type 0
MadeBy w (performs e) v made = made ≡ view_after w.core e v
MadeBy w (leaves_to_sleep s n heeds) v made = made ≡ exited v
MadeBy w (finds_no_sign s) v made = (made ≡ found_none v) ⊎ (IsQuiet v × (made ≡ has_read v 0))
MadeBy w (finds_no_cancel s) v made = made ≡ found_uncancelled v
MadeBy w (wakes s u) v made = made ≡ v
MadeBy w (falls_asleep s) v made = made ≡ v
MadeBy w (rises s) v made = made ≡ v

-- ---- runs of such seats

-- An endless run of so many seats, from the start on, with the scene before each step and the view that each seat has
-- then: each step is made by the view of its seat, and changes that view; and each seat may find something in between.
pub record IsViewedRun (kind : Kind) (locks seats : ℕ) (scene : ℕ → Scene) (step : ℕ → Step) (view : ℕ → ℕ → View)
    : Type 0 where
  pub begins : scene 0 ≡ first_scene kind locks seats
  pub first : (s : ℕ) → s < seats → view 0 s ≡ first_view kind locks seats s
  pub seat : (i : ℕ) → mover (step i) < seats
  pub may : (i : ℕ) → MayByView (scene i) (view i (mover (step i))) (step i)
  pub goes_on : (i : ℕ) → scene (suc i) ≡ next (scene i) (step i)
  pub mine : (i : ℕ) → (made : View) × MadeBy (scene i) (step i) (view i (mover (step i))) made
      × FindsOn (scene (suc i)).core made (view (suc i) (mover (step i)))
  pub others : (i s : ℕ) → s < seats → s ≢ mover (step i) → FindsOn (scene (suc i)).core (view i s) (view (suc i) s)

-- That is an endless run of the scene: each step may be made.
abbrev pub ViewedRunsAreRuns : Type 0
ViewedRunsAreRuns = (kind : Kind) (locks seats : ℕ) (scene : ℕ → Scene) (step : ℕ → Step) (view : ℕ → ℕ → View) →
    IsViewedRun kind locks seats scene step view → IsEndlessRun scene step

-- So a waiter leaves a guard only in order to sleep.
abbrev pub ViewedWaitersSleep : Type 0
ViewedWaitersSleep = (kind : Kind) (locks seats : ℕ) (scene : ℕ → Scene) (step : ℕ → Step) (view : ℕ → ℕ → View) →
    IsViewedRun kind locks seats scene step view → (s : ℕ) → LeavesToSleep scene step s

-- So each deadlock of such seats is resolved, if only these seats are scheduled.
abbrev pub ViewedDeadlocksEnd : Type 0
ViewedDeadlocksEnd = (kind : Kind) (locks seats : ℕ) (scene : ℕ → Scene) (step : ℕ → Step) (view : ℕ → ℕ → View) →
    IsViewedRun kind locks seats scene step view → (i : ℕ) (dead : List ℕ) →
    ((s : ℕ) → IsOneOf s dead → IsScheduled scene step s) → AreDeadlocked (scene i).core dead → IsResolved step i dead

-- In each kind, and with any number of locks and of seats above 0, there is such a run.
pub record HasViewedRun (kind : Kind) (locks seats : ℕ) : Type 0 where
  pub scene : ℕ → Scene
  pub step : ℕ → Step
  pub view : ℕ → ℕ → View
  pub run : IsViewedRun kind locks seats scene step view

abbrev pub ViewedRunsAreThere : Type 0
ViewedRunsAreThere = (kind : Kind) (locks seats : ℕ) → 0 < seats → HasViewedRun kind locks seats

-- ---- who looks again

-- Whether a seat looks again stays as it is from where it goes inside a guard to where it leaves it.
pub record LooksAgainStill (v w : View) : Type 0 where
  pub later : w.later ≡ v.later
  pub inside : w.inside ≡ v.inside

-- It does, whatever event the seat makes but into a guard or out of one, and whatever else it finds.
pub record LooksOn (c : State) (v : View) : Type 0 where
  pub event : (e : Event) → ((s n : ℕ) → e ≢ Guard s n) → ((s n : ℕ) → e ≢ Unguard s n) →
      LooksAgainStill v (view_after c e v)
  pub finds : (w : View) → Learns c v w → LooksAgainStill v w

abbrev pub LaterStays : Type 0
LaterStays = (c : State) (v : View) → LooksOn c v

-- So in each such run the first in a list asks.
abbrev pub ViewedRunsAsk : Type 0
ViewedRunsAsk = (kind : Kind) (locks seats : ℕ) (scene : ℕ → Scene) (step : ℕ → Step) (view : ℕ → ℕ → View) →
    IsViewedRun kind locks seats scene step view → FirstsAsk scene step

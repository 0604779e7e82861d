-- How what a seat does at the table, by its view, is a step of the scene.
use Rattle.std.specs.Prelude.{ℕ, suc, ◌≡◌, ◌≢◌, ◌<◌, Bool, true, false, List, [], ◌∷◌, Option, Some, None}
use Rattle.ww_queue.specs.Queue.{Has}
use Rattle.ww_model.specs.declared.event.Event.{Event}
use Rattle.ww_queue.specs.declared.kind.Kind.{Kind}
use Rattle.ww_queue.specs.declared.kind.Kind.TheVariants.{WoundWait}
use Rattle.ww_model.specs.declared.event.Event.TheVariants.{Give, Guard, Sign}
use Rattle.ww_model.specs.State.{State}
use Rattle.ww_model.specs.Event.{actor}
use Rattle.ww_view.specs.declared.view.View.{View}
use Rattle.ww_laws.specs.Condemned.{LooksCondemned}
use Rattle.ww_view.specs.View.{Knows, IsQuiet, first_view}
use Rattle.ww_view.specs.May.{MayLeave, Shows}
use Rattle.ww_view.specs.Made.{exited, view_after, has_read, found_none, found_uncancelled}
use Rattle.ww_laws.specs.Scene.{Scene, first_scene, acting, going_to_sleep, Step, performs, leaves_to_sleep, finds_no_sign, finds_no_cancel, wakes, falls_asleep, rises, MayPerform, MayLeaveToSleep, MayFallAsleep, May, next, woken_by, IsReached}

-- The seat with this view is in a call: it knows the core by its view, and acts; where the view says inside a guard that
-- it has just found no sign, or that it has found no cancel, it has; and whom it has yet to wake is one of these.
pub record IsInCall (w : Scene) (v : View) (to_wake : List ℕ) : Type 0 where
  pub knows : Knows w.core v
  pub acts : w.phase v.who ≡ acting
  pub fresh : v.inside ≢ 0 → v.fresh ≡ true → w.found_no_sign v.who ≡ true
  pub uncancelled : v.inside ≢ 0 → v.uncancelled ≡ true → w.found_no_cancel v.who ≡ true
  pub debts : (u : ℕ) → w.owes v.who u ≡ true → Has to_wake u

-- the seat whose step it is
abbrev pub mover : Step → ℕ
mover (performs e) = actor e
mover (leaves_to_sleep s n heeds) = s
mover (finds_no_sign s) = s
mover (finds_no_cancel s) = s
mover (wakes s v) = s
mover (falls_asleep s) = s
mover (rises s) = s

-- these, and whom the seat has to wake for an event
abbrev pub also : Option ℕ → List ℕ → List ℕ
also None us = us
also (Some u) us = u ∷ us

-- the seat may perform the event, and then is in its call with the view as it is afterwards, and with whom the event
-- makes it wake
pub record MayGoOnBy (w : Scene) (v : View) (e : Event) (to_wake : List ℕ) : Type 0 where
  pub may : MayPerform w e
  pub call : IsInCall (next w (performs e)) (view_after w.core e v) (also (woken_by w.core e) to_wake)

-- whatever event a view shows to be possible is a step of the scene
abbrev pub ShownIsAStep : Type 0
ShownIsAStep = (w : Scene) (v : View) (e : Event) (to_wake : List ℕ) → IsReached w → IsInCall w v to_wake →
    actor e ≡ v.who → Shows w.core v e → MayGoOnBy w v e to_wake

-- Whatever waiter the table lets out of a guard may go to sleep, if its view says that it found no cancel there, where its
-- call heeds cancels.
abbrev pub LeavingIsAStep : Type 0
LeavingIsAStep = (w : Scene) (v : View) (n : ℕ) (heeds : Bool) (to_wake : List ℕ) → IsReached w →
    IsInCall w v to_wake → MayLeave v n → v.waits ≡ suc n → (heeds ≡ true → v.uncancelled ≡ true) →
    MayLeaveToSleep w v.who n heeds

-- the seat may find no sign, and then is in its call with what it found in its view: that nobody can sign it any more,
-- where nobody can, else that it had no sign
pub record MayGoOnUnsigned (w : Scene) (v : View) (to_wake : List ℕ) : Type 0 where
  pub may : May w (finds_no_sign v.who)
  pub loud : IsInCall (next w (finds_no_sign v.who)) (found_none v) to_wake
  pub quiet : IsQuiet v → IsInCall (next w (finds_no_sign v.who)) (has_read v 0) to_wake

-- a look at the own sign that finds none is a step of the scene
abbrev pub SignLookIsAStep : Type 0
SignLookIsAStep = (w : Scene) (v : View) (to_wake : List ℕ) → IsInCall w v to_wake → w.core.sign v.who ≡ 0 →
    MayGoOnUnsigned w v to_wake

-- the seat may find no cancel, and then is in its call with a view that says so
pub record MayGoOnUncancelled (w : Scene) (v : View) (to_wake : List ℕ) : Type 0 where
  pub may : May w (finds_no_cancel v.who)
  pub call : IsInCall (next w (finds_no_cancel v.who)) (found_uncancelled v) to_wake

-- and so is a look at the own cancel that finds none
abbrev pub CancelLookIsAStep : Type 0
CancelLookIsAStep = (w : Scene) (v : View) (to_wake : List ℕ) → IsInCall w v to_wake → w.core.cancel v.who ≡ 0 →
    MayGoOnUncancelled w v to_wake

-- no other seat's step takes a seat out of its call
abbrev pub OthersLeaveCallsAlone : Type 0
OthersLeaveCallsAlone = (w : Scene) (x : Step) (v : View) (to_wake : List ℕ) → IsReached w → May w x →
    mover x ≢ v.who → IsInCall w v to_wake → IsInCall (next w x) v to_wake

-- ---- from the start on, and from one call to the next

-- at the start each seat is in its call, with the view of a seat that has done nothing yet
abbrev pub StartIsInCall : Type 0
StartIsInCall = (kind : Kind) (locks seats s : ℕ) → s < seats → IsInCall (first_scene kind locks seats) (first_view kind locks seats s) []

-- The seat with this view has left a guard in order to sleep, or sleeps: it knows the core by its view, which says outside
-- of all guards, and whom it has yet to wake is one of these.
pub record IsResting (w : Scene) (v : View) (to_wake : List ℕ) : Type 0 where
  pub knows : Knows w.core v
  pub rests : w.phase v.who ≢ acting
  pub outside : v.inside ≡ 0
  pub debts : (u : ℕ) → w.owes v.who u ≡ true → Has to_wake u

-- a seat that leaves a guard in order to sleep rests then, with the view that leaving makes of its own
abbrev pub LeavingComesToRest : Type 0
LeavingComesToRest = (w : Scene) (v : View) (n : ℕ) (heeds : Bool) (to_wake : List ℕ) → IsReached w →
    IsInCall w v to_wake → MayLeave v n → IsResting (next w (leaves_to_sleep v.who n heeds)) (exited v) to_wake

-- no step ends its rest but that by which it rises itself
abbrev pub RestStays : Type 0
RestStays = (w : Scene) (x : Step) (v : View) (to_wake : List ℕ) → IsReached w → May w x →
    x ≢ rises v.who → IsResting w v to_wake → IsResting (next w x) v to_wake

-- and that puts it into its call again
abbrev pub RisingIsInCall : Type 0
RisingIsInCall = (w : Scene) (v : View) (to_wake : List ℕ) → IsResting w v to_wake → IsInCall (next w (rises v.who)) v to_wake

-- ---- a seat that has to give way

-- A seat that goes inside a guard has found no sign there yet.
abbrev pub GuardForgetsTheLook : Type 0
GuardForgetsTheLook = (w : Scene) (s n : ℕ) → (next w (performs (Guard s n))).found_no_sign s ≡ false

-- In Wound-Wait a seat that is at a lock where it has to give way finds no sign missing, whatever is done.
abbrev pub CondemnedFindNone : Type 0
CondemnedFindNone = (w : Scene) (x : Step) (s n : ℕ) → w.core.kind ≡ WoundWait → LooksCondemned w.core s n → May w x →
    w.found_no_sign s ≡ false → (next w x).found_no_sign s ≡ false

-- So the table doesn't let it out of the guard as a waiter.
abbrev pub CondemnedMayNotLeave : Type 0
CondemnedMayNotLeave = (w : Scene) (v : View) (n : ℕ) (to_wake : List ℕ) → IsReached w → IsInCall w v to_wake →
    w.core.kind ≡ WoundWait → LooksCondemned w.core v.who n → w.found_no_sign v.who ≡ false → ¬ MayLeave v n

-- ---- whom a seat has to wake

-- Whom a seat has to wake is whom its view tells: of its signs those whom it condemned, itself excepted; and, where it
-- released the lock, its heir.
pub record TellsWhomToWake (c : State) (v : View) : Type 0 where
  pub signs : (u x : ℕ) → woken_by c (Sign v.who u) ≡ Some x →
      Has (view_after c (Sign v.who u) v).condemned x × (x ≢ v.who)
  pub gives : (n : ℕ) → v.inside ≡ suc n → woken_by c (Give v.who n) ≡ (view_after c (Give v.who n) v).heir

abbrev pub ViewsTellWhomToWake : Type 0
ViewsTellWhomToWake = (c : State) (v : View) → Knows c v → TellsWhomToWake c v

-- the scene once the seat has woken these, one after another
abbrev pub once_woken : ℕ → List ℕ → Scene → Scene
once_woken s [] w = w
once_woken s (u ∷ us) w = once_woken s us (next w (wakes s u))

-- the steps by which it wakes them lead to this scene, in which it may fall asleep
pub record MayFallAsleepThen (w : Scene) (s : ℕ) : Type 0 where
  pub reached : IsReached w
  pub may : MayFallAsleep w s

-- a seat that goes to sleep and wakes all of these, among which are all that it has yet to wake, may fall asleep
abbrev pub WakersMaySleep : Type 0
WakersMaySleep = (w : Scene) (s : ℕ) (us : List ℕ) → IsReached w → w.phase s ≡ going_to_sleep →
    ((u : ℕ) → w.owes s u ≡ true → Has us u) → MayFallAsleepThen (once_woken s us w) s

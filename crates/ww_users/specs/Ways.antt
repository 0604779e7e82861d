-- What the three ways of taking many locks want, and what they give.
use Rattle.std.specs.Prelude.{ℕ, ◌≡◌, ◌≤◌, ◌<◌, ◌+◌, ◌-◌, ◌==◌, ◌∷◌, [], not, List, length, Option, Some, None, Result, Ok, Err}
use Rattle.std.specs.List.{AllByRecursion, filter}
use Rattle.ww_plain.specs.Numbers.{is_among}
use Rattle.ww_plain.specs.Transaction.{FirstDouble}
use Rattle.ww_plain.specs.Footprint.{walked}
use Rattle.ww_plain.specs.Walk.{walk_of}
use Rattle.ww_lock.specs.Holding.{Holding, Setting, IsAtHome, Holds}
use Rattle.ww_lock.specs.Moves.{interrupted_by}
use Rattle.ww_lock.specs.Waits.{Waits}
use Rattle.ww_lock.specs.Waits.TheVariants.{UntilCancelled}
use Rattle.ww_users.specs.declared.fault.UserFault.{UserFault}
use Rattle.ww_users.specs.declared.fault.UserFault.TheVariants.{PassSpent, Already, Interrupted}

-- the state came from a pass of this world, and the nodes of the list are the world's
pub record MayTakeList (list : List ℕ) (s : Holding) (w : Setting) : Type 0 where
  pub home : IsAtHome s w
  pub nodes : AllByRecursion (λ n. n < length w.first) list

-- each further try to take a lock by one step was followed by a lock taken, or by backing off
abbrev pub IsToldOfEach : Holding → Holding → Type 0
IsToldOfEach s a = a.tries + s.takes + s.deaths ≡ s.tries + a.takes + a.deaths

-- the state with the locks of another one, and with what that has seen and counted
abbrev pub with_locks_of : Holding → Holding → Holding
with_locks_of a s = record s { held = a.held; seen = a.seen; tries = a.tries; takes = a.takes; deaths = a.deaths; deaf = a.deaf }

-- the same context, which may hold other locks; each try more to take one ended with the lock, or with EDEADLK
pub record IsSameContext (s a : Holding) : Type 0 where
  pub rest : a ≡ with_locks_of a s
  pub told : IsToldOfEach s a
  pub size : length a.seen ≡ length s.seen

-- one context less to start, and so many more begun
abbrev pub having_begun : ℕ → Holding → Holding
having_begun begun s = record s { left = s.left - 1; draws = s.draws + begun }

-- A pass that comes back after a refusal: one context less to start, so many more begun, no context, no lock, and the
-- same log.
pub record IsReturned (s : Holding) (begun : ℕ) (a : Holding) : Type 0 where
  pub some : 1 ≤ s.left
  pub same : IsSameContext (record (having_begun begun s) { stamp = 0; room = a.room }) a
  pub nothing : a.held ≡ []

-- a pass that comes back since its wait for one of the nodes was cancelled, by this caller
abbrev pub IsCalledOff : Holding → ℕ → Holding → Type 0
IsCalledOff s by a = (n : ℕ) × IsReturned (interrupted_by s n by) 1 a

-- the one context more that this pass has begun, which holds some nodes
pub record IsContext (s a : Holding) : Type 0 where
  pub some : 1 ≤ s.left
  pub stamped : 1 ≤ a.stamp
  pub same : IsSameContext (record (having_begun 1 s) { stamp = a.stamp }) a

-- it holds the nodes of the list, and no others
abbrev pub HoldsExactly : List ℕ → Holding → Type 0
HoldsExactly list a = (n : ℕ) → is_among n a.held ≡ is_among n list

-- it holds the nodes of the list, which names none twice, and no others
abbrev pub HoldsList : List ℕ → Holding → Type 0
HoldsList list a = HoldsExactly list a × FirstDouble list None

-- the list's entries in its order; where a node was kept from a slow lock, that one first, and its entry skipped
abbrev pub in_order : Option ℕ → List ℕ → List ℕ
in_order None list = list
in_order (Some kept) list = kept ∷ filter (λ n. not (n == kept)) list

-- it holds the walk and its stop, in the graph as it has seen it
abbrev pub HoldsWalk : ℕ → ℕ → ℕ → Holding → Type 0
HoldsWalk start port most a = Holds a (walked a.seen port (walk_of a.seen start port most))

-- Why the nodes of the list were not locked: the budget is looked at first. Only a call that waits until a cancel is
-- called off.
abbrev pub IsUserFault : Waits → Holding → List ℕ → Holding → UserFault → Type 0
IsUserFault waits s list a PassSpent = (s.left ≡ 0) × (a ≡ s)
IsUserFault waits s list a (Already n) = FirstDouble list (Some n) × IsReturned s 1 a
IsUserFault waits s list a (Interrupted by) = (waits ≡ UntilCancelled) × IsCalledOff s by a

-- ... told of a pass that has the room which it had
abbrev pub IsRefusal : Waits → Holding → List ℕ → Holding → UserFault → Type 0
IsRefusal waits s list a fault = IsUserFault waits s list a fault × (a.room ≡ s.room)

-- what a way of taking many locks gives: the one context more that the pass has begun, with what it holds; or why not
abbrev pub IsWayAnswer : Waits → Holding → List ℕ → (Holding → Type 0) → Result Holding (Holding × UserFault) → Type 0
IsWayAnswer waits s list Has (Ok a) = IsContext s a × Has a
IsWayAnswer waits s list Has (Err e) = IsRefusal waits s list e.0 e.1

-- Ok: the one context more that this pass has begun holds the nodes of the list, which names none twice, and no others.
-- Err: why not, first of all that the pass was spent; it has no lock, and the same log and room.
abbrev pub IsOrderAnswer : Waits → Holding → List ℕ → Result Holding (Holding × UserFault) → Type 0
IsOrderAnswer waits s list r = IsWayAnswer waits s list (HoldsList list) r

-- Ok: the one context more that this pass has begun holds the nodes of the list, which names none twice, and no others; it
-- took them in the order of the list, but for the one that was contended last, if any was. Err: why not, first of all that
-- the pass was spent; it has no lock, and the same log and room.
abbrev pub IsListAnswer : Waits → Holding → List ℕ → Result Holding (Holding × UserFault) → Type 0
IsListAnswer waits s list r =
    IsWayAnswer waits s list (λ a. HoldsList list a × ((kept : Option ℕ) × (a.held ≡ in_order kept list))) r

-- Ok: the one context more that this pass has begun holds the walk and its stop, in the graph as it has seen it. Err: why
-- not: the pass was spent, or a wait was called off; it has no lock, and the same log and room.
abbrev pub IsWalkAnswer : Waits → Holding → ℕ → ℕ → ℕ → Result Holding (Holding × UserFault) → Type 0
IsWalkAnswer waits s start port most r = IsWayAnswer waits s [] (HoldsWalk start port most) r

abbrev pub user_number : UserFault → ℕ
user_number PassSpent = 4
user_number (Already n) = 9
user_number (Interrupted by) = 20

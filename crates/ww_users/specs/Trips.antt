-- What one trip through a list, or along a walk, does to the context that makes it.
use Rattle.std.specs.Prelude.{ℕ, ◌≡◌, ◌<◌, ◌+◌, ◌∷◌, [], List, length, take, slice_get, Option, Some, None, IfSome, IsTrue}
use Rattle.std.specs.List.Sorted.{IsPermutation}
use Rattle.ww_plain.specs.Numbers.{is_among, AreDifferent}
use Rattle.ww_plain.specs.Graph.{Agree}
use Rattle.ww_plain.specs.Transaction.{FirstDouble}
use Rattle.ww_lock.specs.Waits.{Waits}
use Rattle.ww_lock.specs.Waits.TheVariants.{UntilCancelled}
use Rattle.ww_lock.specs.Holding.{Holding, Refused}
use Rattle.ww_lock.specs.Moves.{interrupted_by}
use Rattle.ww_lock.specs.declared.interruptible.Halt.{Halt}
use Rattle.ww_lock.specs.declared.interruptible.Halt.TheVariants as halt
use Rattle.ww_users.specs.declared.trip.Trip.{Trip}
use Rattle.ww_users.specs.declared.trip.Trip.TheVariants.{Through, Deadlk, Failed}
use Rattle.ww_users.specs.declared.fault.UserFault.TheVariants.{PassSpent, Already, Interrupted}
use Rattle.ww_users.specs.Ways.{IsSameContext, HoldsList, in_order}

-- the same context, which holds this node too; what it held before is as it was
pub record HasLocked (s : Holding) (n : ℕ) (a : Holding) : Type 0 where
  pub same : IsSameContext s a
  pub holds : IsTrue (is_among n a.held)
  pub keeps : (m : ℕ) → IsTrue (is_among m s.held) → IsTrue (is_among m a.held)
  pub contents : Agree s.seen a.seen s.held

-- the node that was kept from a slow lock, if one was
abbrev pub kept_nodes : Option ℕ → List ℕ
kept_nodes None = []
kept_nodes (Some n) = n ∷ []

-- it holds what was kept, which is an entry of the list, and nothing else
pub record HoldsKept (kept : Option ℕ) (list : List ℕ) (s : Holding) : Type 0 where
  pub held : s.held ≡ kept_nodes kept
  pub listed : IfSome kept (λ n. IsTrue (is_among n list))

-- it got EDEADLK at the entry of this position, and all entries up to there differ
pub record IsContended (list : List ℕ) (b : Refused) (position : ℕ) : Type 0 where
  pub there : position < length list
  pub entry : slice_get list position ≡ Some b.contended
  pub different : AreDifferent (take (position + 1) list)

-- its wait for some node was cancelled by this caller; it is the same context otherwise
abbrev pub IsHalted : Waits → Holding → ℕ → Holding → Type 0
IsHalted waits s by a = (waits ≡ UntilCancelled) × ((n : ℕ) × IsSameContext (interrupted_by s n by) a)

-- why a context didn't get a lock
abbrev pub IsHalt : Waits → Holding → Halt → Type 0
IsHalt waits s (halt.Deadlk b) = IsSameContext s b.holding
IsHalt waits s (halt.Interrupted a by) = IsHalted waits s by a

-- How a trip through a list ended: with all of it locked in order, with EDEADLK, at its first duplicate, or cancelled.
abbrev pub IsTrip : Waits → Holding → List ℕ → Option ℕ → Trip → Type 0
IsTrip waits s list kept (Through a) = IsSameContext s a × HoldsList list a × (a.held ≡ in_order kept list)
IsTrip waits s list kept (Deadlk b position) = IsSameContext s b.holding × IsContended list b position
IsTrip waits s list kept (Failed a PassSpent) = ⊥
IsTrip waits s list kept (Failed a (Already n)) = IsSameContext s a × FirstDouble list (Some n)
IsTrip waits s list kept (Failed a (Interrupted by)) = IsHalted waits s by a

-- the same entries in another order, with the same first duplicate
pub record IsReordered (list order : List ℕ) : Type 0 where
  pub moved : IsPermutation list order
  pub double : (d : Option ℕ) → FirstDouble order d → FirstDouble list d

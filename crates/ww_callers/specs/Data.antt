-- Data under a lock, of desks: an endless drive with accesses is a sequence of owners, so each of its reads is of the last write.
use Rattle.std.specs.Prelude.{ℕ, ◌≡◌, ◌≢◌, Option, Some, None}
use Rattle.ww_queue.specs.declared.kind.Kind.{Kind}
use Rattle.ww_model.specs.declared.state.Holder.{Holder}
use Rattle.ww_model.specs.declared.state.Holder.TheVariants.{Taken}
use Rattle.ww_model.specs.declared.event.Event.TheVariants.{Fast, FastGive, Take, Give}
use Rattle.ww_invariant.specs.declared.cells.Start.{Start}
use Rattle.ww_laws.specs.Scene.{performs}
use Rattle.ww_refines.specs.Moment.{core}
use Rattle.ww_protocols.specs.Memory.{Access, writes, reads, none, AccessesAt, ReadsWhatIsVisible, wrote}
use Rattle.ww_protocols.specs.Data as guarded
use Rattle.ww_protocols.specs.Data.{LockAct, takes, releases, access_of, IsGuarded, HappensBefore}
use Rattle.ww_callers.specs.Stages.{Stage}
use Rattle.ww_callers.specs.Deeds.{Deed, steps, halts, Accounts}
use Rattle.ww_callers.specs.Drives.{IsEndlessDriveBy, IsEndlessDrive}
use Rattle.ww_callers.specs.Handing.{HasInHand}
use Rattle.ww_callers.specs.Witness.{IsOfWorld}

-- A deed of desks and drivers; or an access to memory, in which the caller of a desk is known by the desk.
pub data DataAct : Type 0 where
  does : (deed : Deed) → DataAct
  accesses : (a : Access) → DataAct

-- for the drive an access is no deed
abbrev pub as_deed : DataAct → Deed
as_deed (does deed) = deed
as_deed (accesses _) = halts

-- for memory a deed is one that takes a lock or releases it, each by one compare-exchange on the lock's owner word, or nothing
abbrev pub seen : DataAct → LockAct
seen (does (steps d (Some (performs (Fast _ n))))) = takes d n
seen (does (steps d (Some (performs (Take _ n))))) = takes d n
seen (does (steps d (Some (performs (FastGive _ n))))) = releases d n
seen (does (steps d (Some (performs (Give _ n))))) = releases d n
seen (does _) = guarded.accesses none
seen (accesses a) = guarded.accesses a

-- the access that is made at this time
abbrev pub access_at : (ℕ → DataAct) → ℕ → Access
access_at act i = access_of (seen (act i))

-- An endless drive with accesses. Each place has its lock, and who accesses it has that lock in hand.
pub record KeepsData {key : Start} (lock_of : ℕ → ℕ) (stage : ℕ → Stage key) (act : ℕ → DataAct) : Type 0 where
  pub endless : IsEndlessDriveBy Accounts stage (λ i. as_deed (act i))
  pub locked : (i d x : ℕ) → AccessesAt d x (access_at act i) → HasInHand (stage i) d (lock_of x)

-- the seat that has taken a lock, if one has
abbrev pub owner_of : Holder → Option ℕ
owner_of (Taken s) = Some s
owner_of _ = None

-- Such a drive is a sequence of owners, who take and release locks and have the lock of each place that they access.
abbrev pub DrivesAreGuarded : Type 0
DrivesAreGuarded = (key : Start) (lock_of : ℕ → ℕ) (stage : ℕ → Stage key) (act : ℕ → DataAct) → KeepsData lock_of stage act →
    IsGuarded lock_of (λ i n. owner_of ((core (stage i).moment).owner n)) (λ i. seen (act i))

-- what memory owes the reads of a drive
abbrev pub ReadsOfADrive : (ℕ → DataAct) → (ℕ → ℕ) → Type 0
ReadsOfADrive act = ReadsWhatIsVisible (HappensBefore (λ i. seen (act i))) (access_at act)

-- So each of its reads is of the last write.
abbrev pub ReadsGetTheLastWriteInDrives : Type 0
ReadsGetTheLastWriteInDrives = (key : Start) (lock_of : ℕ → ℕ) (stage : ℕ → Stage key) (act : ℕ → DataAct) →
    KeepsData lock_of stage act → (first : ℕ → ℕ) → ReadsOfADrive act first →
    (j d x value : ℕ) → access_at act j ≡ reads d x value → value ≡ wrote first (access_at act) j x

-- ---- none of this speaks of nothing

-- In a world of the kind one desk's caller writes, and later another's reads what that wrote, and not what was there at first.
pub record HasDataHandedOver (kind : Kind) : Type 0 where
  pub key : Start
  pub lock_of : ℕ → ℕ
  pub stage : ℕ → Stage key
  pub act : ℕ → DataAct
  pub first : ℕ → ℕ
  pub of_kind : key.kind ≡ kind
  pub world : IsOfWorld key
  pub endless : IsEndlessDrive stage (λ i. as_deed (act i))
  pub keeps : KeepsData lock_of stage act
  pub memory : ReadsOfADrive act first
  pub read : (j d e x value : ℕ) × (access_at act 0 ≡ writes d x value) × (access_at act j ≡ reads e x value) × (d ≢ e)
      × (value ≢ first x)

abbrev pub DataIsHandedOver : Type 0
DataIsHandedOver = (kind : Kind) → HasDataHandedOver kind

-- Whoever reads without the lock may read what was there before the last write, in a drive and with a memory as good as any.
pub record HasStaleRead (kind : Kind) : Type 0 where
  pub key : Start
  pub stage : ℕ → Stage key
  pub act : ℕ → DataAct
  pub first : ℕ → ℕ
  pub of_kind : key.kind ≡ kind
  pub world : IsOfWorld key
  pub endless : IsEndlessDrive stage (λ i. as_deed (act i))
  pub memory : ReadsOfADrive act first
  pub read : (j e x value : ℕ) × (access_at act j ≡ reads e x value) × (value ≢ wrote first (access_at act) j x)

abbrev pub DataIsStaleWithoutItsLock : Type 0
DataIsStaleWithoutItsLock = (kind : Kind) → HasStaleRead kind

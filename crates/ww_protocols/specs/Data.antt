-- Data under a lock: each read is of the last write, whatever locks are, if one thread at most has each at a time.
use Rattle.std.specs.Prelude.{ℕ, suc, ◌≡◌, ◌<◌, ◌⊎◌, Option, Some}
use Rattle.ww_protocols.specs.Memory.{Access, none, reads, IsMadeBy, AccessesAt, ReadsWhatIsVisible, wrote}

-- Thread t takes lock n, or releases it; or it makes an access, or something else is done.
pub data LockAct : Type 0 where
  takes : (t n : ℕ) → LockAct
  releases : (t n : ℕ) → LockAct
  accesses : (a : Access) → LockAct

abbrev pub access_of : LockAct → Access
access_of (accesses a) = a
access_of _ = none

-- thread t does this
abbrev pub IsDoneBy : ℕ → LockAct → Type 0
IsDoneBy t (takes u _) = u ≡ t
IsDoneBy t (releases u _) = u ≡ t
IsDoneBy t (accesses a) = IsMadeBy t a

-- A sequence of owners: of each time who has which lock, and what is done next. Whoever comes to have a lock takes it, and has it
-- until it releases it. Each place has its lock, and who accesses it has that.
pub record IsGuarded (lock_of : ℕ → ℕ) (owner : ℕ → ℕ → Option ℕ) (act : ℕ → LockAct) : Type 0 where
  pub comes : (i t n : ℕ) → owner (suc i) n ≡ Some t → (owner i n ≡ Some t) ⊎ (act i ≡ takes t n)
  pub goes : (i t n : ℕ) → owner i n ≡ Some t → (owner (suc i) n ≡ Some t) ⊎ (act i ≡ releases t n)
  pub has : (i t x : ℕ) → AccessesAt t x (access_of (act i)) → owner i (lock_of x) ≡ Some t

-- What happens before what, as C11 has it: of one thread, in its order; a release of a lock, before each later one that takes it;
-- and what follows from these. For if each write of a lock's word is a read-modify-write, whoever takes the lock reads from the
-- release sequence of each earlier release, if these two are no more than acquire and release.
pub data HappensBefore (act : ℕ → LockAct) : ℕ → ℕ → Type 0 where
  in_order : (i j t : ℕ) → i < j → IsDoneBy t (act i) → IsDoneBy t (act j) → HappensBefore act i j
  handed : (i j t u n : ℕ) → i < j → act i ≡ releases t n → act j ≡ takes u n → HappensBefore act i j
  through : (i j k : ℕ) → HappensBefore act i j → HappensBefore act j k → HappensBefore act i k

-- Of any two accesses to one place one happens before the other.
abbrev pub AccessesDoNotRace : Type 0
AccessesDoNotRace = (lock_of : ℕ → ℕ) (owner : ℕ → ℕ → Option ℕ) (act : ℕ → LockAct) → IsGuarded lock_of owner act →
    (i j t u x : ℕ) → i < j → AccessesAt t x (access_of (act i)) → AccessesAt u x (access_of (act j)) → HappensBefore act i j

-- Each read under the lock is of the last write under it.
abbrev pub ReadsGetTheLastWrite : Type 0
ReadsGetTheLastWrite = (lock_of : ℕ → ℕ) (owner : ℕ → ℕ → Option ℕ) (act : ℕ → LockAct) → IsGuarded lock_of owner act →
    let access : ℕ → Access = λ i. access_of (act i) in
    (first : ℕ → ℕ) → ReadsWhatIsVisible (HappensBefore act) access first →
    (j t x value : ℕ) → access j ≡ reads t x value → value ≡ wrote first access j x

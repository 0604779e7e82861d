-- Data under a shared lock: each read is of the last write, and stays so while it is read.
use Rattle.std.specs.Prelude.{ℕ, suc, ◌≡◌, ◌≢◌, ◌<◌, ◌≤◌, ◌⊎◌}
use Rattle.ww_protocols.specs.Hall.{Layout, Hall, Move, sits, stands_up, visits, quits, locks, unlocks, sets_mark, finds_free, finds_free_again, clears_mark, finds_no_mark, MayMove, hall_after, IsReachedHall}
use Rattle.ww_protocols.specs.Readers.{IsReading, IsWriting, Omission, IsReachedWithout}
use Rattle.ww_protocols.specs.Memory.{Access, writes, reads, none, IsMadeBy, AccessesAt, ReadsWhatIsVisible, wrote}

-- A context makes a move; or it makes an access, or something else is done.
pub data HallAct : Type 0 where
  moves : (c : ℕ) (a : Move) → HallAct
  accesses : (a : Access) → HallAct

abbrev pub access_in : HallAct → Access
access_in (moves _ _) = none
access_in (accesses a) = a

-- context c does this
abbrev pub IsDoneIn : ℕ → HallAct → Type 0
IsDoneIn c (moves d _) = d ≡ c
IsDoneIn c (accesses a) = IsMadeBy c a

-- what is done in one hall leads to another
abbrev pub LeadsOn : Layout → Hall → HallAct → Hall → Type 0
LeadsOn l h (moves c a) h' = (c < l.contexts) × MayMove l h c a × (h' ≡ hall_after l h c a)
LeadsOn l h (accesses _) h' = h' ≡ h

-- A run of halls, of each time the hall and what is done there. Each place has its mutex: who writes at the place writes that, and
-- who reads there reads it, or writes it.
pub record KeepsSharedData (l : Layout) (mutex_of : ℕ → ℕ) (hall : ℕ → Hall) (act : ℕ → HallAct) : Type 0 where
  pub goes_on : (i : ℕ) → LeadsOn l (hall i) (act i) (hall (suc i))
  pub writing : (i c x value : ℕ) → access_in (act i) ≡ writes c x value → IsWriting (hall i) c (mutex_of x)
  pub reading : (i c x value : ℕ) → access_in (act i) ≡ reads c x value →
      IsReading (hall i) c (mutex_of x) ⊎ IsWriting (hall i) c (mutex_of x)

-- ---- what comes before what, for memory

-- it takes the mutex, or finds it free
abbrev pub FindsFree : ℕ → HallAct → Type 0
FindsFree m x = (c : ℕ) × ((x ≡ moves c (locks m)) ⊎ ((x ≡ moves c (finds_free m)) ⊎ (x ≡ moves c (finds_free_again m))))

-- the desk is released; is taken
abbrev pub ReleasesDesk : ℕ → HallAct → Type 0
ReleasesDesk d x = (x ≡ moves d stands_up) ⊎ ((c : ℕ) × (x ≡ moves c (quits d)))

abbrev pub TakesDesk : ℕ → HallAct → Type 0
TakesDesk d x = (x ≡ moves d sits) ⊎ ((c : ℕ) × (x ≡ moves c (visits d)))

-- What happens before what, as C11 has it: of one context, in its order; a release of a mutex, before each later one that takes
-- it or finds it free; a release of a desk, before each later one that takes it; the clearing of a mark, before each later look
-- that doesn't find it; and what follows from these. For only who has a desk stores its marks, so each store happens before the
-- next (`MarksAreStoredInOrder`), and a look that doesn't find a mark reads from its clearing or from a later store.
pub data HappensBeforeIn (l : Layout) (act : ℕ → HallAct) : ℕ → ℕ → Type 0 where
  in_order : (i j c : ℕ) → i < j → IsDoneIn c (act i) → IsDoneIn c (act j) → HappensBeforeIn l act i j
  of_mutex : (i j c m : ℕ) → i < j → act i ≡ moves c (unlocks m) → FindsFree m (act j) → HappensBeforeIn l act i j
  of_desk : (i j d : ℕ) → i < j → ReleasesDesk d (act i) → TakesDesk d (act j) → HappensBeforeIn l act i j
  of_mark : (i j c e d m : ℕ) → i < j → act i ≡ moves c (clears_mark d (l.mark m)) → act j ≡ moves e (finds_no_mark m d) →
      HappensBeforeIn l act i j
  through : (i j k : ℕ) → HappensBeforeIn l act i j → HappensBeforeIn l act j k → HappensBeforeIn l act i k

-- what memory owes the reads of a run
abbrev pub ReadsOfARun : Layout → (ℕ → HallAct) → (ℕ → ℕ) → Type 0
ReadsOfARun l act = ReadsWhatIsVisible (HappensBeforeIn l act) (λ i. access_in (act i))

-- ---- the laws

-- Of a write and a later access to its place, and of an access and a later write to its place, one happens before the other.
pub record DoNotRaceIn (l : Layout) (act : ℕ → HallAct) : Type 0 where
  pub after_write : (i j c e x value : ℕ) → i < j → access_in (act i) ≡ writes c x value → AccessesAt e x (access_in (act j)) →
      HappensBeforeIn l act i j
  pub before_write : (i j c e x value : ℕ) → i < j → AccessesAt c x (access_in (act i)) → access_in (act j) ≡ writes e x value →
      HappensBeforeIn l act i j

abbrev pub SharedAccessesDoNotRace : Type 0
SharedAccessesDoNotRace = (l : Layout) (mutex_of : ℕ → ℕ) (hall : ℕ → Hall) (act : ℕ → HallAct) →
    IsReachedHall l (hall 0) → KeepsSharedData l mutex_of hall act → DoNotRaceIn l act

-- Each read is of the last write.
abbrev pub ReadersGetTheLastWrite : Type 0
ReadersGetTheLastWrite = (l : Layout) (mutex_of : ℕ → ℕ) (hall : ℕ → Hall) (act : ℕ → HallAct) →
    IsReachedHall l (hall 0) → KeepsSharedData l mutex_of hall act → (first : ℕ → ℕ) → ReadsOfARun l act first →
    (j c x value : ℕ) → access_in (act j) ≡ reads c x value → value ≡ wrote first (λ i. access_in (act i)) j x

-- from i until j context c reads the place's mutex, and writes nothing there itself
abbrev pub ReadsUntil : (ℕ → ℕ) → (ℕ → Hall) → (ℕ → HallAct) → (c x i j : ℕ) → Type 0
ReadsUntil mutex_of hall act c x i j =
    (k : ℕ) → i ≤ k → k < j → IsReading (hall k) c (mutex_of x) × ((value : ℕ) → access_in (act k) ≢ writes c x value)

-- While a context reads so, all reads of the place, by it or others, are of one value.
abbrev pub ReadsStayTheSame : Type 0
ReadsStayTheSame = (l : Layout) (mutex_of : ℕ → ℕ) (hall : ℕ → Hall) (act : ℕ → HallAct) →
    IsReachedHall l (hall 0) → KeepsSharedData l mutex_of hall act →
    (first : ℕ → ℕ) → ReadsOfARun l act first → (i j c d e x v w : ℕ) → i ≤ j → ReadsUntil mutex_of hall act c x i j →
    access_in (act i) ≡ reads d x v → access_in (act j) ≡ reads e x w → v ≡ w

-- ---- why the clearing of a mark comes before each later look that doesn't find it

-- context c stores a mark of desk d, or clears one there
abbrev pub StoresMark : ℕ → ℕ → HallAct → Type 0
StoresMark d c x = ((c ≡ d) × ((m : ℕ) × (x ≡ moves c (sets_mark m)))) ⊎ ((k : ℕ) × (x ≡ moves c (clears_mark d k)))

-- Context u releases the desk, and after that v takes it.
pub record DeskPassesOn (act : ℕ → HallAct) (d u v i j : ℕ) : Type 0 where
  pub released : ℕ
  pub taken : ℕ
  pub from : i ≤ released
  pub order : released < taken
  pub before : taken < j
  pub gives : IsDoneIn u (act released) × ReleasesDesk d (act released)
  pub takes : IsDoneIn v (act taken) × TakesDesk d (act taken)

-- Of two stores of marks at one desk, either one context made both, or the desk has passed on from the first to the other.
abbrev pub MarksAreStoredInOrder : Type 0
MarksAreStoredInOrder = (l : Layout) (hall : ℕ → Hall) (act : ℕ → HallAct) → ((i : ℕ) → LeadsOn l (hall i) (act i) (hall (suc i))) →
    (i j d u v : ℕ) → i < j → StoresMark d u (act i) → StoresMark d v (act j) → (u ≡ v) ⊎ DeskPassesOn act d u v i j

-- ---- none of this speaks of nothing

-- One context writes, and later another, which reads the mutex, reads what that wrote, and not what was there at first. And while one
-- reads on, another that reads the mutex, too, reads the same.
pub record HasSharedDataHandedOver : Type 0 where
  pub layout : Layout
  pub mutex_of : ℕ → ℕ
  pub hall : ℕ → Hall
  pub act : ℕ → HallAct
  pub first : ℕ → ℕ
  pub begins : IsReachedHall layout (hall 0)
  pub keeps : KeepsSharedData layout mutex_of hall act
  pub memory : ReadsOfARun layout act first
  pub handed_over : (i j c d x value : ℕ) × (access_in (act i) ≡ writes c x value) × (access_in (act j) ≡ reads d x value)
      × IsReading (hall j) d (mutex_of x) × (c ≢ d) × (value ≢ first x)
  pub read_beside : (i j c e x value : ℕ) × (i ≤ j) × ReadsUntil mutex_of hall act c x i j × (access_in (act i) ≡ reads c x value)
      × (access_in (act j) ≡ reads e x value) × IsReading (hall j) e (mutex_of x) × (c ≢ e)

abbrev pub SharedDataIsHandedOver : Type 0
SharedDataIsHandedOver = HasSharedDataHandedOver

-- Where a context leaves out one look before the run, it or another may read what was there before the last write, with a memory
-- as good as any.
pub record HasStaleSharedRead (look : Omission) : Type 0 where
  pub layout : Layout
  pub mutex_of : ℕ → ℕ
  pub hall : ℕ → Hall
  pub act : ℕ → HallAct
  pub first : ℕ → ℕ
  pub begins : IsReachedWithout look layout (hall 0)
  pub keeps : KeepsSharedData layout mutex_of hall act
  pub memory : ReadsOfARun layout act first
  pub read : (j c x value : ℕ) × (access_in (act j) ≡ reads c x value)
      × (value ≢ wrote first (λ i. access_in (act i)) j x)

abbrev pub SharedDataNeedsEachLook : Type 0
SharedDataNeedsEachLook = (look : Omission) → HasStaleSharedRead look

-- A writer and a reader never have one mutex at once, nor have two writers.
use Rattle.std.specs.Prelude.{ℕ, ◌≡◌, ◌≢◌, ◌<◌, true, Some}
use Rattle.ww_protocols.specs.Hall.{Layout, Hall, has_mark, found_free, found_bit, reads, nothing, Move, locks, finds_free, finds_bit, finds_free_again, clears_bit, MayMove, first_hall, hall_after, IsReachedHall}

module _ (h : Hall) where
  abbrev pub IsReading : ℕ → ℕ → Type 0
  IsReading c m = h.progress c m ≡ reads

  -- as it knows by itself: it came to write the mutex, and hasn't released it since
  abbrev pub IsWriting : ℕ → ℕ → Type 0
  IsWriting c m = h.writes c m ≡ true

-- who writes a mutex is the only one who reads it, if anybody does
abbrev pub WritersExcludeReaders : Type 0
WritersExcludeReaders = (l : Layout) (h : Hall) → IsReachedHall l h →
    (w c m : ℕ) → IsWriting h w m → IsReading h c m → w ≡ c

-- and the only one who writes it
abbrev pub WritersExcludeWriters : Type 0
WritersExcludeWriters = (l : Layout) (h : Hall) → IsReachedHall l h →
    (w c m : ℕ) → IsWriting h w m → IsWriting h c m → w ≡ c

-- a reader stands where a writer looks, and has the desk for which that waits
pub record IsInSight (l : Layout) (h : Hall) (c m : ℕ) : Type 0 where
  pub bit : h.bits m (l.bit c) ≡ true
  pub mark : h.marks c (l.mark m) ≡ true
  pub seat : h.sitter c ≡ Some c

abbrev pub ReadersAreInSight : Type 0
ReadersAreInSight = (l : Layout) (h : Hall) → IsReachedHall l h → (c m : ℕ) → IsReading h c m → IsInSight l h c m

-- ---- halls like these are reached

-- two contexts read one mutex
pub record HasTwoReaders (h : Hall) : Type 0 where
  pub one : ℕ
  pub other : ℕ
  pub mutex : ℕ
  pub differ : one ≢ other
  pub one_reads : IsReading h one mutex
  pub other_reads : IsReading h other mutex

-- one that reads a mutex has come to write it
pub record HasUpgraded (h : Hall) : Type 0 where
  pub context : ℕ
  pub mutex : ℕ
  pub reads_it : IsReading h context mutex
  pub writes_it : IsWriting h context mutex

-- in some layout
pub record IsMet (P : Hall → Type 0) : Type 0 where
  pub layout : Layout
  pub hall : Hall
  pub reached : IsReachedHall layout hall
  pub holds : P hall

pub record ReadersAndWritersCome : Type 0 where
  pub readers_meet : IsMet HasTwoReaders
  pub readers_upgrade : IsMet HasUpgraded

-- ---- each look is needed

-- a look that is left out: one of a reader's three, or a writer's at the marks; or the look whether somebody has the mutex
pub data Omission : Type 0 where
  first_look : Omission
  look_at_bit : Omission
  last_look : Omission
  look_at_marks : Omission
  look_at_owner : Omission

-- A move without that look: a reader goes on as if it had looked; a writer clears a bit that it found unset before, though
-- a reader may have set it since; a context takes a mutex that another has.
abbrev pub MovesUnlooking : Omission → Layout → Hall → ℕ → Move → Type 0
MovesUnlooking first_look l h c (finds_free m) = h.progress c m ≡ has_mark
MovesUnlooking look_at_bit l h c (finds_bit m) = h.progress c m ≡ found_free
MovesUnlooking last_look l h c (finds_free_again m) = h.progress c m ≡ found_bit
MovesUnlooking look_at_marks l h c (clears_bit m b) = (h.owner m ≡ Some c) ×
    ((d : ℕ) → d < l.contexts → d ≢ c → l.bit d ≡ b → h.finding m d ≢ nothing)
MovesUnlooking look_at_owner l h c (locks m) = h.owner m ≢ Some c
MovesUnlooking _ _ _ _ _ = ⊥

-- a hall that moves lead to where that look may be left out
pub data IsReachedWithout (look : Omission) (l : Layout) : Hall → Type 0 where
  opens_without : IsReachedWithout look l first_hall
  looks : (h : Hall) (c : ℕ) (a : Move) → IsReachedWithout look l h → c < l.contexts → MayMove l h c a →
      IsReachedWithout look l (hall_after l h c a)
  omits : (h : Hall) (c : ℕ) (a : Move) → IsReachedWithout look l h → c < l.contexts → MovesUnlooking look l h c a →
      IsReachedWithout look l (hall_after l h c a)

-- one context writes a mutex that another reads
pub record HasBothAtOnce (h : Hall) : Type 0 where
  pub writer : ℕ
  pub reader : ℕ
  pub mutex : ℕ
  pub differ : writer ≢ reader
  pub writing : IsWriting h writer mutex
  pub reading : IsReading h reader mutex

-- two contexts write one mutex
pub record HasTwoWriters (h : Hall) : Type 0 where
  pub one : ℕ
  pub other : ℕ
  pub mutex : ℕ
  pub differ : one ≢ other
  pub one_writes : IsWriting h one mutex
  pub other_writes : IsWriting h other mutex

abbrev pub GoesWrong : Omission → Hall → Type 0
GoesWrong look_at_owner = HasTwoWriters
GoesWrong _ = HasBothAtOnce

-- without any one look, two are reached at once that the laws above exclude
pub record IsNeeded (look : Omission) : Type 0 where
  pub layout : Layout
  pub hall : Hall
  pub reached : IsReachedWithout look layout hall
  pub wrong : GoesWrong look hall

abbrev pub EachLookIsNeeded : Type 0
EachLookIsNeeded = (look : Omission) → IsNeeded look

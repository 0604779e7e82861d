-- The protocol of shared locks: what contexts that read and write share, what each of them knows, and what it may do.
use Rattle.std.specs.Prelude.{ℕ, ◌≡◌, ◌≢◌, ◌<◌, ◌==◌, Bool, true, false, Option, Some, None, if◌then◌else◌}

-- Contexts and mutexes are numbers, and each context has a desk, of its own number. A context that reads a mutex has set a
-- bit of the mutex, and a mark in its desk. Several contexts may have one bit, and several mutexes one mark.
pub record Layout : Type 0 where
  pub contexts : ℕ
  pub bit : ℕ → ℕ
  pub mark : ℕ → ℕ

-- How far a context has come with reading a mutex: not at all; it has its mark; after that it found the mutex free; after
-- that it found its bit; after that it found the mutex free once more, or it has both as the mutex's owner, and so it reads.
pub data Progress : Type 0 where
  apart : Progress
  has_mark : Progress
  found_free : Progress
  found_bit : Progress
  reads : Progress

-- what the owner of a mutex has found of a desk since it took the mutex: nothing yet; that its bit isn't set; that its mark
-- isn't
pub data Finding : Type 0 where
  nothing : Finding
  no_bit : Finding
  no_mark : Finding

-- Mutexes and desks are exclusive locks: each has one owner at most, and nothing else is known of them. The bits of a mutex
-- and the marks of a desk are in memory that all contexts read. The rest is what contexts know: of a context and a mutex
-- its progress, and whether it writes; of a mutex what its owner has found of each desk.
pub record Hall : Type 0 where
  pub owner : ℕ → Option ℕ
  pub sitter : ℕ → Option ℕ
  pub bits : ℕ → ℕ → Bool
  pub marks : ℕ → ℕ → Bool
  pub progress : ℕ → ℕ → Progress
  pub writes : ℕ → ℕ → Bool
  pub finding : ℕ → ℕ → Finding

-- all is free, and nothing is set
abbrev pub first_hall : Hall
first_hall = record {
  owner = λ _. None;
  sitter = λ _. None;
  bits = λ _ _. false;
  marks = λ _ _. false;
  progress = λ _ _. apart;
  writes = λ _ _. false;
  finding = λ _ _. nothing;
}

-- the function, but with this value at this number
abbrev pub change : {A : Type 0} → (ℕ → A) → ℕ → A → ℕ → A
change f i a j = if j == i then a else f j

-- the same of two numbers
abbrev pub change_in : {A : Type 0} → (ℕ → ℕ → A) → ℕ → ℕ → A → ℕ → ℕ → A
change_in f i j a = change f i (change (f i) j a)

-- What a context does, at a mutex m, a desk d, a bit b or a mark k: one access to what contexts share, or none.
pub data Move : Type 0 where
  -- it takes its desk, and releases it, with which its reads end; it takes the desk of another, and releases that
  sits : Move
  stands_up : Move
  visits : (d : ℕ) → Move
  quits : (d : ℕ) → Move
  -- it takes a mutex, and releases it
  locks : (m : ℕ) → Move
  unlocks : (m : ℕ) → Move
  -- A reader sets its bit and its mark, and then looks three times; or it does so as the owner, and need not look. It may
  -- cease to read, or to try, and then clear the mark.
  sets_bit : (m : ℕ) → Move
  sets_mark : (m : ℕ) → Move
  finds_free : (m : ℕ) → Move
  finds_bit : (m : ℕ) → Move
  finds_free_again : (m : ℕ) → Move
  reads_as_owner : (m : ℕ) → Move
  reads_no_more : (m : ℕ) → Move
  clears_mark : (d k : ℕ) → Move
  -- A writer, which owns the mutex, looks for a bit, or for a mark at a desk, and finds none. It may clear a bit. It writes
  -- once it has found something of each desk.
  finds_no_bit : (m d : ℕ) → Move
  finds_no_mark : (m d : ℕ) → Move
  clears_bit : (m b : ℕ) → Move
  begins_to_write : (m : ℕ) → Move

-- what context c may do
module _ (l : Layout) (h : Hall) (c : ℕ) where
  -- it has set its bit and its mark, and has the mutex
  pub record HasBitAndMark (m : ℕ) : Type 0 where
    pub owns : h.owner m ≡ Some c
    pub bit : h.bits m (l.bit c) ≡ true
    pub mark : h.progress c m ≢ apart

  -- it has the desk; and if that is its own, it reads nothing by this mark, nor tries to
  pub record MayClearMark (d k : ℕ) : Type 0 where
    pub has : h.sitter d ≡ Some c
    pub unused : d ≡ c → (m : ℕ) → l.mark m ≡ k → h.progress c m ≡ apart

  -- it has the mutex, and found no mark at any desk of this bit; and if that is its own bit, it doesn't read the mutex
  pub record MayClearBit (m b : ℕ) : Type 0 where
    pub owns : h.owner m ≡ Some c
    pub found : (d : ℕ) → d < l.contexts → d ≢ c → l.bit d ≡ b → h.finding m d ≡ no_mark
    pub unused : l.bit c ≡ b → h.progress c m ≡ apart

  -- it has the mutex, and found no bit or no mark of each desk but its own
  pub record MayWrite (m : ℕ) : Type 0 where
    pub owns : h.owner m ≡ Some c
    pub found : (d : ℕ) → d < l.contexts → d ≢ c → h.finding m d ≢ nothing

  abbrev pub MayMove : Move → Type 0
  MayMove sits = h.sitter c ≡ None
  MayMove stands_up = h.sitter c ≡ Some c
  MayMove (visits d) = (d ≢ c) × (h.sitter d ≡ None)
  MayMove (quits d) = (d ≢ c) × (h.sitter d ≡ Some c)
  MayMove (locks m) = h.owner m ≡ None
  MayMove (unlocks m) = h.owner m ≡ Some c
  MayMove (sets_bit m) = Unit {0}
  MayMove (sets_mark m) = (h.sitter c ≡ Some c) × (h.progress c m ≡ apart)
  MayMove (finds_free m) = (h.progress c m ≡ has_mark) × (h.owner m ≡ None)
  MayMove (finds_bit m) = (h.progress c m ≡ found_free) × (h.bits m (l.bit c) ≡ true)
  MayMove (finds_free_again m) = (h.progress c m ≡ found_bit) × (h.owner m ≡ None)
  MayMove (reads_as_owner m) = HasBitAndMark m
  MayMove (reads_no_more m) = Unit {0}
  MayMove (clears_mark d k) = MayClearMark d k
  MayMove (finds_no_bit m d) = (h.owner m ≡ Some c) × (h.bits m (l.bit d) ≡ false)
  MayMove (finds_no_mark m d) = (h.owner m ≡ Some c) × (h.marks d (l.mark m) ≡ false)
  MayMove (clears_bit m b) = MayClearBit m b
  MayMove (begins_to_write m) = MayWrite m

  -- context c has come so far with mutex m
  abbrev pub coming : ℕ → Progress → Hall
  coming m p = record h { progress = change_in h.progress c m p }

  abbrev pub hall_after : Move → Hall
  hall_after sits = record h { sitter = change h.sitter c (Some c) }
  hall_after stands_up = record h { sitter = change h.sitter c None; progress = change h.progress c (λ _. apart) }
  hall_after (visits d) = record h { sitter = change h.sitter d (Some c) }
  hall_after (quits d) = record h { sitter = change h.sitter d None }
  hall_after (locks m) = record h { owner = change h.owner m (Some c); finding = change h.finding m (λ _. nothing) }
  hall_after (unlocks m) = record h { owner = change h.owner m None; writes = change_in h.writes c m false }
  hall_after (sets_bit m) = record h { bits = change_in h.bits m (l.bit c) true }
  hall_after (sets_mark m) = record h {
    marks = change_in h.marks c (l.mark m) true;
    progress = change_in h.progress c m has_mark;
  }
  hall_after (finds_free m) = coming m found_free
  hall_after (finds_bit m) = coming m found_bit
  hall_after (finds_free_again m) = coming m reads
  hall_after (reads_as_owner m) = coming m reads
  hall_after (reads_no_more m) = coming m apart
  hall_after (clears_mark d k) = record h { marks = change_in h.marks d k false }
  hall_after (finds_no_bit m d) = record h { finding = change_in h.finding m d no_bit }
  hall_after (finds_no_mark m d) = record h { finding = change_in h.finding m d no_mark }
  hall_after (clears_bit m b) = record h { bits = change_in h.bits m b false }
  hall_after (begins_to_write m) = record h { writes = change_in h.writes c m true }

-- a hall that some moves of contexts, in whatever order, lead to from the first
pub data IsReachedHall (l : Layout) : Hall → Type 0 where
  opens : IsReachedHall l first_hall
  goes_on : (h : Hall) (c : ℕ) (a : Move) → IsReachedHall l h → c < l.contexts → MayMove l h c a →
      IsReachedHall l (hall_after l h c a)

-- What memory owes whoever reads it: no more than C11 promises, on a machine that orders no two accesses by itself.
use Rattle.std.specs.Prelude.{ℕ, suc, zero, ◌≡◌, ◌⊎◌}
use Rattle.ww_protocols.specs.Hall.{change}

-- Thread t writes this value at place x of memory, or reads this there; or what happens is no access.
pub data Access : Type 0 where
  writes : (t x value : ℕ) → Access
  reads : (t x value : ℕ) → Access
  none : Access

-- thread t makes it
abbrev pub IsMadeBy : ℕ → Access → Type 0
IsMadeBy t (writes u _ _) = u ≡ t
IsMadeBy t (reads u _ _) = u ≡ t
IsMadeBy t none = ⊥

-- it writes at place x
abbrev pub WritesAt : ℕ → Access → Type 0
WritesAt x a = (t value : ℕ) × (a ≡ writes t x value)

-- thread t writes or reads at place x
abbrev pub AccessesAt : ℕ → ℕ → Access → Type 0
AccessesAt t x a = (value : ℕ) × ((a ≡ writes t x value) ⊎ (a ≡ reads t x value))

-- The access made at each time, and which of two times happens before the other: the read at j may be of the write at i, which
-- it doesn't happen before, and no write to that place stands between the two.
pub record IsVisible (before : ℕ → ℕ → Type 0) (access : ℕ → Access) (x i j : ℕ) : Type 0 where
  pub no_later : ¬ before j i
  pub unhidden : (k : ℕ) → WritesAt x (access k) → before i k → ¬ before k j

-- What memory owes a read, and no more: the value of a write that is visible to it; or where no write happens before it, what
-- was there at first.
abbrev pub ReadsWhatIsVisible : (ℕ → ℕ → Type 0) → (ℕ → Access) → (ℕ → ℕ) → Type 0
ReadsWhatIsVisible before access first = (j t x value : ℕ) → access j ≡ reads t x value →
    ((i u : ℕ) × (access i ≡ writes u x value) × IsVisible before access x i j)
    ⊎ ((value ≡ first x) × ((k : ℕ) → WritesAt x (access k) → ¬ before k j))

-- what each place has after this, if all accesses were made in the order of times
abbrev pub left_by : Access → (ℕ → ℕ) → ℕ → ℕ
left_by (writes t x value) was = change was x value
left_by _ was = was

-- what the last write before this time left at each place
abbrev pub wrote : (ℕ → ℕ) → (ℕ → Access) → ℕ → ℕ → ℕ
wrote first access zero = first
wrote first access (suc i) = left_by (access i) (wrote first access i)

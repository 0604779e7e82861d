-- Marks of seats: a bit for each, 64 in a word.
use Rattle.std.specs.Prelude.{ℕ, ◌≡◌, ◌/◌, ◌%◌, ◌^◌, ◌==◌, ◌⊎◌, ◌↔◌, Bool, true, List}
use Rattle.std.specs.List.{slice_index_or}

-- the seat has a mark
abbrev pub is_marked : List ℕ → ℕ → Bool
is_marked marks u = slice_index_or marks (u / 64) 0 / 2 ^ (u % 64) % 2 == 1

abbrev pub IsMarked : List ℕ → ℕ → Type 0
IsMarked marks u = is_marked marks u ≡ true

-- marked are those that were marked before, and these, and nobody else
abbrev pub AreMarked : List ℕ → (ℕ → Type 0) → List ℕ → Type 0
AreMarked was these now = (u : ℕ) → IsMarked now u ↔ (IsMarked was u ⊎ these u)

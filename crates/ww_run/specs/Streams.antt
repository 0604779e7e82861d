-- What became of a reader's bytes and of a writer's, where a call ended early.
use Rattle.std.specs.Prelude.{ℕ, ◌≡◌, ◌≤◌, ◌++◌, List, length, take, Option, Some, None}
use Rattle.std.specs.Io.KnownBytes.{Consumes}

-- the known bytes of a writer grew by a front of these
abbrev pub AppendsFront : Option (List ℕ) → Option (List ℕ) → List ℕ → Type 0
AppendsFront None new bytes = Unit {0}
AppendsFront (Some old) None bytes = ⊥
AppendsFront (Some old) (Some new) bytes = (n : ℕ) × (new ≡ old ++ take n bytes)

-- at most this many bytes were read
abbrev pub ConsumesSome : ℕ → Option (List ℕ) → Option (List ℕ) → Type 0
ConsumesSome most old new = (bytes : List ℕ) × (length bytes ≤ most) × Consumes old new bytes

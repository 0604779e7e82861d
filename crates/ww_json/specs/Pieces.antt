-- Pieces of a line that several kinds of lines have, and lines that are numbered.
use Rattle.std.specs.Prelude.{ℕ, ◌+◌, List, [], ◌∷◌, ◌++◌, codes, decimal, Option, Some, None}

-- a number, behind a space
abbrev pub spaced : ℕ → List ℕ
spaced n = codes " " ++ decimal n

-- a number behind a space, or a dash where there is none
abbrev pub spaced_or_dash : Option ℕ → List ℕ
spaced_or_dash None = codes " -"
spaced_or_dash (Some n) = spaced n

-- a text for each, numbered from index on
abbrev pub numbered : {A : Type 0} → (ℕ → A → List ℕ) → ℕ → List A → List ℕ
numbered line index [] = []
numbered line index (x ∷ xs) = line index x ++ numbered line (index + 1) xs

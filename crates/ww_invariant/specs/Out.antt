-- The slots that a seat has out, as pairs of a number and what lies there, the one taken last first.
use Rattle.std.specs.Prelude.{ℕ, ◌≡◌, ◌==◌, List, [], ◌∷◌, ◌++◌, length, Option, Some, None, if◌then◌else◌}
use Rattle.ww_invariant.specs.declared.cells.Cell.{Cell}

-- the numbers of the slots that are out, the one taken last at the end
abbrev pub numbers_of : List (ℕ × Cell) → List ℕ
numbers_of [] = []
numbers_of (x ∷ xs) = numbers_of xs ++ x.0 ∷ []

-- what lies in a slot that is out
abbrev pub slot_of : List (ℕ × Cell) → ℕ → Option Cell
slot_of [] n = None
slot_of (x ∷ xs) n = if x.0 == n then Some x.1 else slot_of xs n

-- of the slots that are out, all but slot n with y
pub record AreOthers (slots : List (ℕ × Cell)) (n : ℕ) (y : Cell) (others : List (ℕ × Cell)) : Type 0 where
  pub front : List (ℕ × Cell)
  pub back : List (ℕ × Cell)
  pub parts : slots ≡ front ++ (n, y) ∷ back
  pub rest : others ≡ back ++ front

-- a rotation: so many slots from the front, none of them slot n, went behind the others
pub record AreTurned (slots now : List (ℕ × Cell)) (turns n : ℕ) : Type 0 where
  pub front : List (ℕ × Cell)
  pub back : List (ℕ × Cell)
  pub parts : slots ≡ front ++ back
  pub turned : now ≡ back ++ front
  pub count : length front ≡ turns
  pub passed : slot_of front n ≡ None

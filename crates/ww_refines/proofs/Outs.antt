-- Where each slot of a table is once some came or went: what the seat has then tells it.
use Rattle.std.proofs.Common.{◌≡◌, ◌≢◌, ℕ, List, [], ◌∷◌, length, set, refl, sym, ap, ◌∙◌, arith}
use Rattle.std.proofs.lemmas.List.{set_comm, set-set, length-set}
use mathlib.Core.Option.{Option, some, none, some-injective, some-ne-none}
use lib.ListN.{get_elem?}
use Rattle.atomic_table.specs.Table.{Act, keeps, takes, gives, chain, carried_after, homes_after, Valid}
use Rattle.atomic_table.proofs.Lists.{set_here, set_else, set_again}
use Rattle.ww_invariant.specs.declared.cells.Cell.{Cell}
use Rattle.ww_invariant.proofs.Fits.{place_low}
use Rattle.ww_refines.specs.Told.{AreOut, IsNoneOf}

-- the slots, with those that the seat has at home too
abbrev filled : List (Option Cell) → List (ℕ × Cell) → List (Option Cell)
filled hs [] = hs
filled hs (x ∷ xs) = set (filled hs xs) x.0 (some x.1)

-- ... and without these
abbrev emptied : List (Option Cell) → List (ℕ × Cell) → List (Option Cell)
emptied hs [] = hs
emptied hs (x ∷ xs) = emptied (set hs x.0 none) xs

filled_else : (hs : List (Option Cell)) (c : List (ℕ × Cell)) (k : ℕ) (v : Option Cell) → IsNoneOf k c
    → filled (set hs k v) c ≡ set (filled hs c) k v
filled_else hs [] k v other = refl
filled_else hs (x ∷ xs) k v other = ap (λ (l : List (Option Cell)). set l x.0 (some x.1)) (filled_else hs xs k v other.1)
    ∙ set_comm (filled hs xs) k x.0 v (some x.1) (λ is. other.0 (sym is))

filled_at : (hs : List (Option Cell)) (c : List (ℕ × Cell)) (k : ℕ) → IsNoneOf k c → get_elem? (filled hs c) k ≡ get_elem? hs k
filled_at hs [] k other = refl
filled_at hs (x ∷ xs) k other = set_else (filled hs xs) x.0 k (some x.1) (λ is. other.0 (sym is)) ∙ filled_at hs xs k other.1

filled_long : (hs : List (Option Cell)) (c : List (ℕ × Cell)) → length (filled hs c) ≡ length hs
filled_long hs [] = refl
filled_long hs (x ∷ xs) = length-set (filled hs xs) x.0 (some x.1) ∙ filled_long hs xs

out_else : (hs : List (Option Cell)) (c : List (ℕ × Cell)) (k : ℕ) (v : Option Cell) → IsNoneOf k c → AreOut hs c → AreOut (set hs k v) c
out_else hs [] k v other out = tt
out_else hs (x ∷ xs) k v other out = (set_else hs k x.0 v other.0 ∙ out.0, out.1, out_else hs xs k v other.1 out.2)

-- a slot that is at home is none of the seat's
pub home_is_other : (hs : List (Option Cell)) (c : List (ℕ × Cell)) (k : ℕ) (y : Cell) → AreOut hs c
    → get_elem? hs k ≡ some (some y) → IsNoneOf k c
home_is_other hs [] k y out home = tt
home_is_other hs (x ∷ xs) k y out home = (
  λ is. absurd (some-ne-none y (some-injective _ _ (sym home ∙ ap (get_elem? hs) (sym is) ∙ out.0))),
  home_is_other hs xs k y out.2 home,
)

out_moved : (hs : List (Option Cell)) (c : List (ℕ × Cell)) (a : Act Cell) → AreOut hs c → Valid hs c a
    → AreOut (homes_after hs c a) (carried_after c a)
out_moved hs c keeps out valid = out
out_moved hs c (takes k y) out home = let other = home_is_other hs c k y out home in
    (set_here hs k none (place_low hs k (some y) home), other, out_else hs c k none other out)
out_moved hs [] gives out valid = out
out_moved hs (x ∷ xs) gives out valid = out_else hs xs x.0 (some x.1) out.1 out.2
out_moved hs c (chain a b) out valid =
    out_moved (homes_after hs c a) (carried_after c a) b (out_moved hs c a out valid.0) valid.1

-- whichever come and go, all of them are the same
filled_moved : (hs : List (Option Cell)) (c : List (ℕ × Cell)) (a : Act Cell) → AreOut hs c → Valid hs c a
    → filled (homes_after hs c a) (carried_after c a) ≡ filled hs c
filled_moved hs c keeps out valid = refl
filled_moved hs c (takes k y) out home = let other = home_is_other hs c k y out home in
    ap (λ (l : List (Option Cell)). set l k (some y)) (filled_else hs c k none other)
    ∙ set-set (filled hs c) k none (some y) ∙ set_again (filled hs c) k (some y) (filled_at hs c k other ∙ home)
filled_moved hs [] gives out valid = refl
filled_moved hs (x ∷ xs) gives out valid = filled_else hs xs x.0 (some x.1) out.1
filled_moved hs c (chain a b) out valid =
    filled_moved (homes_after hs c a) (carried_after c a) b (out_moved hs c a out valid.0) valid.1
    ∙ filled_moved hs c a out valid.0

emptied_filled : (hs : List (Option Cell)) (c : List (ℕ × Cell)) → AreOut hs c → emptied (filled hs c) c ≡ hs
emptied_filled hs [] out = refl
emptied_filled hs (x ∷ xs) out = ap (λ (l : List (Option Cell)). emptied l xs)
    (set-set (filled hs xs) x.0 (some x.1) none ∙ set_again (filled hs xs) x.0 none (filled_at hs xs x.0 out.1 ∙ out.0))
    ∙ emptied_filled hs xs out.2

homes_are : (hs : List (Option Cell)) (c : List (ℕ × Cell)) (a : Act Cell) → AreOut hs c → Valid hs c a
    → homes_after hs c a ≡ emptied (filled hs c) (carried_after c a)
homes_are hs c a out valid = sym (emptied_filled (homes_after hs c a) (carried_after c a) (out_moved hs c a out valid))
    ∙ ap (λ (l : List (Option Cell)). emptied l (carried_after c a)) (filled_moved hs c a out valid)

-- two ways to move them that leave the seat the same leave the table the same
pub same_homes : (hs : List (Option Cell)) (c : List (ℕ × Cell)) (a b : Act Cell) → AreOut hs c → Valid hs c a → Valid hs c b
    → carried_after c a ≡ carried_after c b → homes_after hs c a ≡ homes_after hs c b
same_homes hs c a b out valid other same = homes_are hs c a out valid ∙ ap (emptied (filled hs c)) same
    ∙ sym (homes_are hs c b out other)

-- ---- what came from home

module _ (hs : List (Option Cell)) (c : List (ℕ × Cell)) (a : Act Cell) (out : AreOut hs c) (valid : Valid hs c a) where
  abbrev after : List (Option Cell)
  after = homes_after hs c a

  -- with those that the seat has then, each slot that was at home has what it had
  taken_there : (k : ℕ) (z : Cell) (w : Option Cell) → get_elem? hs k ≡ some (some z)
      → get_elem? (filled after (carried_after c a)) k ≡ some w → w ≡ some z
  taken_there k z w home there =
      some-injective _ _ (sym there ∙ ap (λ (l : List (Option Cell)). get_elem? l k) (filled_moved hs c a out valid)
      ∙ filled_at hs c k (home_is_other hs c k z out home) ∙ home)

  long_after : length after ≡ length hs
  long_after = sym (filled_long after (carried_after c a)) ∙ ap length (filled_moved hs c a out valid) ∙ filled_long hs c

  -- the slot that the seat took last, where it was at home
  pub first_came : (rest : List (ℕ × Cell)) (k : ℕ) (y z : Cell) → carried_after c a ≡ (k, y) ∷ rest
      → get_elem? hs k ≡ some (some z) → y ≡ z
  first_came rest k y z came home = some-injective _ _ (taken_there k z (some y) home
      (ap (λ (l : List (ℕ × Cell)). get_elem? (filled after l) k) came
      ∙ set_here (filled after rest) k (some y)
      (let long = filled_long after rest in let same = long_after in let low = place_low hs k (some z) home in omega arith)))

  -- ... or the one below it
  pub second_came : (rest : List (ℕ × Cell)) (x : ℕ × Cell) (k : ℕ) (y z : Cell) → k ≢ x.0
      → carried_after c a ≡ x ∷ (k, y) ∷ rest → get_elem? hs k ≡ some (some z) → y ≡ z
  second_came rest x k y z other came home = some-injective _ _ (taken_there k z (some y) home
      (ap (λ (l : List (ℕ × Cell)). get_elem? (filled after l) k) came
      ∙ set_else (filled after ((k, y) ∷ rest)) x.0 k (some x.1) other
      ∙ set_here (filled after rest) k (some y)
      (let long = filled_long after rest in let same = long_after in let low = place_low hs k (some z) home in omega arith)))

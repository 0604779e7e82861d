-- Seats that were taken from the end of all those of a table that was made just now.
use Rattle.std.proofs.Common.{◌≡◌, List, [], ◌∷◌, ◌++◌, length-append, refl, ap, subst, ◌∙◌, arith}
use Rattle.atomic_table.specs.Seated.{TableId}
use Rattle.ww_invariant.specs.declared.cells.Start.{Start}
use Rattle.ww_table.specs.declared.seat.Stepper.{Stepper}
use Rattle.ww_table.specs.Made.{AreNew}
use Rattle.ww_table.specs.Seat.{IsNew}

two_only : (t : TableId) (key : Start) (xs : List Stepper) (y z : Stepper) → AreNew t key 2 ((xs ++ y ∷ []) ++ z ∷ [])
    → IsNew t key 0 y × IsNew t key 1 z
two_only t key [] y z made = (made.new 0 y refl, made.new 1 z refl)
two_only t key (x ∷ xs) y z made =
    absurd (omega (arith, made.many, length-append ((x ∷ xs) ++ y ∷ []) (z ∷ []), length-append (x ∷ xs) (y ∷ [])))

-- the last one of two, and the one before it
pub two_new : (t : TableId) (key : Start) (all ys xs : List Stepper) (y z : Stepper) → all ≡ ys ++ z ∷ [] → ys ≡ xs ++ y ∷ []
    → AreNew t key 2 all → IsNew t key 0 y × IsNew t key 1 z
two_new t key all ys xs y z whole front made =
    two_only t key xs y z (subst (AreNew t key 2) (whole ∙ ap (λ l. l ++ z ∷ []) front) made)

three_only : (t : TableId) (key : Start) (xs : List Stepper) (w y z : Stepper)
    → AreNew t key 3 (((xs ++ w ∷ []) ++ y ∷ []) ++ z ∷ []) → IsNew t key 0 w × IsNew t key 1 y × IsNew t key 2 z
three_only t key [] w y z made = (made.new 0 w refl, made.new 1 y refl, made.new 2 z refl)
three_only t key (x ∷ xs) w y z made = absurd (omega (
  arith,
  made.many,
  length-append (((x ∷ xs) ++ w ∷ []) ++ y ∷ []) (z ∷ []),
  length-append ((x ∷ xs) ++ w ∷ []) (y ∷ []),
  length-append (x ∷ xs) (w ∷ []),
))

-- ... of three, and the two before it
pub three_new : (t : TableId) (key : Start) (all zs ys xs : List Stepper) (w y z : Stepper) → all ≡ zs ++ z ∷ []
    → zs ≡ ys ++ y ∷ [] → ys ≡ xs ++ w ∷ [] → AreNew t key 3 all → IsNew t key 0 w × IsNew t key 1 y × IsNew t key 2 z
three_new t key all zs ys xs w y z whole front first made = three_only t key xs w y z
    (subst (AreNew t key 3) (whole ∙ ap (λ l. l ++ z ∷ []) (front ∙ ap (λ l. l ++ y ∷ []) first)) made)

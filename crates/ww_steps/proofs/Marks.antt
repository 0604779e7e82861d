-- How many marks a desk has.
use Rattle.std.proofs.Common.{◌≡◌, ◌<◌, ◌+◌, ◌*◌, ◌/◌, ◌%◌, ◌^◌, ◌==◌, ◌∙◌, ℕ, List, [], ◌∷◌, ◌++◌, Some, set, get_or, take, refl, ap, subst, length, arith}
use Rattle.ww_model.proofs.Outcomes.{number_same}
use Rattle.ww_seat.specs.Marks.{IsMarked}
use Rattle.ww_seat.proofs.Marking.{without_bit, cleared_here, cleared_others}
use Rattle.ww_steps.specs.Answers.{IsMarkTaken}

-- what a slice that was lent wrote back
front : {A : Type 0} (xs ys : List A) → take (length xs) (xs ++ ys) ≡ xs
front [] ys = refl
front (x ∷ xs) ys = ap (λ (l : List _). x ∷ l) (front xs ys)

pub written : {A : Type 0} (new rest : List A) (len : ℕ) → len ≡ length new → take len (new ++ rest) ≡ new
written new rest len is = ap (λ (n : ℕ). take n (new ++ rest)) is ∙ front new rest

-- the mark at bit k of word i is taken away
pub takes_mark : (marks : List ℕ) (i k u : ℕ) → i < length marks → k < 64 → u ≡ 64 * i + k
    → get_or marks i 0 / 2 ^ k % 2 ≡ 1 → IsMarkTaken marks (Some u) (set marks i (without_bit (get_or marks i 0) k))
takes_mark marks i k u low small is bit =
    let word : u / 64 ≡ i = omega (arith, is, small) in let place : u % 64 ≡ k = omega (arith, is, small) in
    let there : u < 64 * length marks = omega (arith, is, small, low) in
    let one : IsMarked marks u = ap (λ (x : ℕ × ℕ). get_or marks x.0 0 / 2 ^ x.1 % 2 == 1) (λ j. (word j, place j)) ∙ number_same _ _ bit in
    subst (λ (x : ℕ × ℕ). IsMarkTaken marks (Some u) (set marks x.0 (without_bit (get_or marks x.0 0) x.1))) (λ j. (word j, place j))
    (one, cleared_here marks u there, cleared_others marks u there)

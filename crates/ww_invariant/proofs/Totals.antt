-- Sums over the seats, and how many records a history has.
use Rattle.std.proofs.Common.{◌≡◌, ◌≢◌, ℕ, zero, suc, ◌+◌, ◌*◌, ◌<◌, ◌≤◌, false, List, [], ◌∷◌, length, refl, sym, ap, ◌∙◌, subst, arith, eqb, ne_eqb, suc-mul, inl, inr}
use mathlib.Core.Option.{some}
use mathlib.Core.Logic.{dite}
use native.Mathlib.Decide.{ℕ_discrete, dec_le}
use Rattle.std.proofs.lemmas.Grind.{common_steps}
use lib.ListN.{get_elem?}
use Rattle.ww_plain.specs.History.{Recorded, part_from}
use Rattle.ww_plain.proofs.Members.{eqb_same}
use Rattle.ww_invariant.specs.Rule.{total, IsSize, places_for}

total_same : (n : ℕ) (f g : ℕ → ℕ) (s : ℕ) → n ≤ s → ((t : ℕ) → t ≢ s → f t ≡ g t) → total n f ≡ total n g
total_same zero f g s h same = refl
total_same (suc n) f g s h same = let a = same n (λ e. omega arith) in let b = total_same n f g s (omega arith) same in omega arith

pub total_one : (n : ℕ) (f g : ℕ → ℕ) (s : ℕ) → s < n → ((t : ℕ) → t ≢ s → f t ≡ g t) → f s ≡ g s + 1 → total n f ≡ total n g + 1
total_one zero f g s h same one = absurd (omega arith)
total_one (suc n) f g s h same one = dite (ℕ_discrete n s)
    (λ e. let a : f n ≡ g n + 1 = subst (λ (x : ℕ). f x ≡ g x + 1) (sym e) one in
    let b = total_same n f g s (omega arith) same in omega arith)
    (λ ne. let a = same n ne in let b = total_one n f g s (omega arith) same one in omega arith)

pub total_below : (n b : ℕ) (f : ℕ → ℕ) → ((t : ℕ) → f t < b) → total n f ≤ n * b
total_below zero b f h = omega arith
total_below (suc n) b f h = let a = h n in let c = total_below n b f h in omega (arith, suc-mul n b)

pub total_zero : (n : ℕ) → total n (λ _. 0) ≡ 0
total_zero zero = refl
total_zero (suc n) = let a = total_zero n in omega arith

-- ... and below it by one for each
pub total_under : (n b : ℕ) (f : ℕ → ℕ) → ((t : ℕ) → f t < b) → total n f + n ≤ n * b
total_under zero b f h = omega arith
total_under (suc n) b f h = let a = h n in let c = total_under n b f h in omega (arith, suc-mul n b)

-- each record is in one part
pub parts_whole : (seats place : ℕ) (log : List Recorded)
    → ((k : ℕ) (x : Recorded) → get_elem? log k ≡ some x → x.caller < seats)
    → length log ≡ total seats (λ t. length (part_from place t log))
parts_whole seats place [] small = sym (total_zero seats)
parts_whole seats place (x ∷ log) small =
    let more = parts_whole seats (place + 1) log (λ k y e. small (suc k) y e) in
    let other : (t : ℕ) → t ≢ x.caller → length (part_from place t (x ∷ log))
    ≡ length (part_from (place + 1) t log) =
    λ t ne. (let apart : eqb x.caller t ≡ false = ne_eqb x.caller t (λ z. ne (sym z)) in rw apart refl) in
    let own : length (part_from place x.caller (x ∷ log)) ≡ length (part_from (place + 1) x.caller log) + 1 =
    (rw (eqb_same x.caller) (let z : suc (length (part_from (place + 1) x.caller log))
    ≡ length (part_from (place + 1) x.caller log) + 1 = omega arith in z)) in
    let one = total_one seats (λ t. length (part_from place t (x ∷ log))) (λ t. length (part_from (place + 1) t log))
    x.caller (small 0 x refl) other own in
    (let z : suc (length log) ≡ length log + 1 = omega arith in z) ∙ ap (λ (y : ℕ). y + 1) more ∙ sym one

-- ---- how many seats there are

pub places_few : (seats : ℕ) → seats ≤ 16 → places_for seats ≡ 16
places_few seats few = grind (arith, common_steps)

pub places_many : (seats : ℕ) → 16 < seats → places_for seats ≡ seats
places_many seats many = grind (arith, common_steps)

pub is_size : (seats : ℕ) → seats < 4096 → IsSize (places_for seats) × (seats ≤ places_for seats)
is_size seats few = dite (dec_le seats 16)
    (λ low. (inl (places_few seats low), (let z = places_few seats low in omega arith)))
    (λ high. let z = places_many seats (omega arith) in (inr (omega arith, omega arith), omega arith))

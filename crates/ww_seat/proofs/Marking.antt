-- One mark is set or taken away, and the others stay.
use Rattle.std.proofs.Common.{◌≡◌, ◌≢◌, ℕ, ◌-◌, ◌*◌, ◌/◌, ◌%◌, ◌^◌, ◌==◌, ◌<◌, false, List, length, set, get_or, sym, ap, ◌∙◌, arith, bit_or, bit_and, w64, get_or-set_other, get_or-set_same}
use Rattle.std.proofs.lemmas.Nat.Bits.{bit_at_set_same, bit_at_set_other, bit_at_clear_same, bit_at_clear_other}
use mathlib.Core.Logic.{dite}
use native.Mathlib.Decide.{ℕ_discrete}
use Rattle.ww_model.proofs.Outcomes.{number_same}
use Rattle.ww_seat.specs.Marks.{is_marked, IsMarked}

-- the bit k of a word
abbrev bit_at : ℕ → ℕ → ℕ
bit_at w k = w / 2 ^ k % 2

-- the word of a seat, and that of another
here : (marks : List ℕ) (u w : ℕ) → u < 64 * length marks → get_or (set marks (u / 64) w) (u / 64) 0 ≡ w
here marks u w low = get_or-set_same marks (u / 64) w 0 (omega arith)

-- where only the bit of seat u changes in its word, only seat u's mark may change
others : (marks : List ℕ) (u w : ℕ) → u < 64 * length marks
    → ((i : ℕ) → i < 64 → i ≢ u % 64 → bit_at w i ≡ bit_at (get_or marks (u / 64) 0) i)
    → (t : ℕ) → t ≢ u → is_marked (set marks (u / 64) w) t ≡ is_marked marks t
others marks u w low alike t ne = dite (ℕ_discrete (t / 64) (u / 64))
    (λ same. ap (λ (i : ℕ). get_or (set marks (u / 64) w) i 0 / 2 ^ (t % 64) % 2 == 1) same
    ∙ ap (λ (x : ℕ). x / 2 ^ (t % 64) % 2 == 1) (here marks u w low)
    ∙ ap (λ (b : ℕ). b == 1) (alike (t % 64) (omega arith) (λ e. ne (omega arith)))
    ∙ ap (λ (i : ℕ). get_or marks i 0 / 2 ^ (t % 64) % 2 == 1) (sym same))
    (λ apart. ap (λ (x : ℕ). x / 2 ^ (t % 64) % 2 == 1) (get_or-set_other marks (u / 64) (t / 64) w 0 apart))

abbrev pub with_bit : ℕ → ℕ → ℕ
with_bit w k = bit_or w (1 * 2 ^ k % 2 ^ 64)

abbrev pub without_bit : ℕ → ℕ → ℕ
without_bit w k = bit_and w (2 ^ 64 - 1 - 1 * 2 ^ k % 2 ^ 64)

pub marked_here : (marks : List ℕ) (u : ℕ) → u < 64 * length marks
    → IsMarked (set marks (u / 64) (with_bit (get_or marks (u / 64) 0) (u % 64))) u
marked_here marks u low =
    ap (λ (x : ℕ). x / 2 ^ (u % 64) % 2 == 1) (here marks u (with_bit (get_or marks (u / 64) 0) (u % 64)) low)
    ∙ number_same _ _ (bit_at_set_same w64 (get_or marks (u / 64) 0) (u % 64) (omega arith))

pub marked_others : (marks : List ℕ) (u : ℕ) → u < 64 * length marks → (t : ℕ) → t ≢ u
    → is_marked (set marks (u / 64) (with_bit (get_or marks (u / 64) 0) (u % 64))) t ≡ is_marked marks t
marked_others marks u low = others marks u (with_bit (get_or marks (u / 64) 0) (u % 64)) low
    (λ i small ne. bit_at_set_other w64 (get_or marks (u / 64) 0) (u % 64) (omega arith) i ne)

pub cleared_here : (marks : List ℕ) (u : ℕ) → u < 64 * length marks
    → is_marked (set marks (u / 64) (without_bit (get_or marks (u / 64) 0) (u % 64))) u ≡ false
cleared_here marks u low =
    ap (λ (x : ℕ). x / 2 ^ (u % 64) % 2 == 1) (here marks u (without_bit (get_or marks (u / 64) 0) (u % 64)) low)
    ∙ ap (λ (b : ℕ). b == 1) (bit_at_clear_same w64 (get_or marks (u / 64) 0) (u % 64) (omega arith))

pub cleared_others : (marks : List ℕ) (u : ℕ) → u < 64 * length marks → (t : ℕ) → t ≢ u
    → is_marked (set marks (u / 64) (without_bit (get_or marks (u / 64) 0) (u % 64))) t ≡ is_marked marks t
cleared_others marks u low = others marks u (without_bit (get_or marks (u / 64) 0) (u % 64)) low
    (λ i small ne. bit_at_clear_other w64 (get_or marks (u / 64) 0) (u % 64) (omega arith) i small ne)

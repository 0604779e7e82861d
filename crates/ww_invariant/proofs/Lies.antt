-- Where the words of locks lie: apart from one another, behind the counts, and before the words of seats.
use Rattle.std.proofs.Common.{◌≡◌, ◌≢◌, ℕ, Bool, true, false, nat_lt, ◌+◌, ◌*◌, ◌<◌, ◌≤◌, ap, sym, arith}
use Rattle.std.proofs.lemmas.Grind.{common_steps}
use Rattle.ww_invariant.specs.Layout.{lies_at, lock_at}

low : (packs : Bool) (n : ℕ) → 16 ≤ lies_at packs n
low true n = omega arith
low false n = omega arith

next : (packs : Bool) (m n : ℕ) → m < n → lies_at packs m + 2 ≤ lies_at packs n
next true m n less = omega arith
next false m n less = omega arith

same : (packs : Bool) (m n : ℕ) → lies_at packs m ≡ lies_at packs n → m ≡ n
same true m n is = omega arith
same false m n is = omega arith

even : (packs : Bool) (m n : ℕ) → lies_at packs m ≢ lies_at packs n + 1
even true m n is = omega arith
even false m n is = omega arith

pub lock_low : (locks n : ℕ) → 16 ≤ lock_at locks n
unfolding lock_at
lock_low locks n = low (nat_lt 64 locks) n

pub lock_next : (locks m n : ℕ) → m < n → lock_at locks m + 2 ≤ lock_at locks n
unfolding lock_at
lock_next locks m n less = next (nat_lt 64 locks) m n less

pub lock_same : (locks m n : ℕ) → lock_at locks m ≡ lock_at locks n → m ≡ n
unfolding lock_at
lock_same locks m n is = same (nat_lt 64 locks) m n is

-- an owner word is no guard
pub lock_even : (locks m n : ℕ) → lock_at locks m ≢ lock_at locks n + 1
unfolding lock_at
lock_even locks m n is = even (nat_lt 64 locks) m n is

pub lies_packed : (locks n : ℕ) → 64 < locks → 16 + 2 * n ≡ lock_at locks n
unfolding lock_at
lies_packed locks n many = let is : nat_lt 64 locks ≡ true = grind (arith, common_steps) in
    ap (λ (packs : Bool). lies_at packs n) (sym is)

pub lies_spread : (locks n : ℕ) → locks ≤ 64 → 16 + 8 * n ≡ lock_at locks n
unfolding lock_at
lies_spread locks n few = let is : nat_lt 64 locks ≡ false = grind (arith, common_steps) in
    ap (λ (packs : Bool). lies_at packs n) (sym is)

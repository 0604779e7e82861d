-- What a test that came out true or false says.
use Rattle.std.proofs.Common.{ℕ, suc, ◌≡◌, ◌==◌, ◌⊎◌, inl, inr, Bool, true, false, ◌||◌, refl, sym, arith, true≢false}
use Rattle.std.proofs.lemmas.Grind.{common_steps}
use Rattle.ww_queue.proofs.Outcomes.{same_number}
use Rattle.ww_model.specs.declared.state.Holder.{Holder}
use Rattle.ww_model.specs.declared.state.Holder.TheVariants.{Nobody, Taken, Handed}
use Rattle.ww_model.specs.State.{is_taken_by}

pub number_same : (m n : ℕ) → m ≡ n → (m == n) ≡ true
number_same m n is = grind (arith, common_steps)

pub or_true : (a b : Bool) → (a || b) ≡ true → (a ≡ true) ⊎ (b ≡ true)
or_true true b is = inl refl
or_true false b is = inr is

pub true_or : (a b : Bool) → (a ≡ true) ⊎ (b ≡ true) → (a || b) ≡ true
true_or true b is = refl
true_or false b (inl is) = absurd (true≢false (sym is))
true_or false b (inr is) = is

-- two tests that pass together are one
pub same_test : (a b : Bool) → (a ≡ true → b ≡ true) → (b ≡ true → a ≡ true) → a ≡ b
same_test true b to from = sym (to refl)
same_test false true to from = from refl
same_test false false to from = refl

pub taken_true : (s : ℕ) (h : Holder) → is_taken_by s h ≡ true → h ≡ Taken s
taken_true s Nobody is = absurd (true≢false (sym is))
taken_true s (Taken t) is = let same = same_number t s is in cc
taken_true s (Handed t) is = absurd (true≢false (sym is))

pub true_taken : (s : ℕ) (h : Holder) → h ≡ Taken s → is_taken_by s h ≡ true
true_taken s Nobody is = absurd cc
true_taken s (Taken t) is = let same : t ≡ s = cc in number_same t s same
true_taken s (Handed t) is = absurd cc

pub nobody_inside : (s : ℕ) → (0 == suc s) ≡ false
nobody_inside s = grind (arith, common_steps)

-- Functions changed at one number, or at two.
use Rattle.std.proofs.Common.{◌≡◌, ◌≢◌, ◌⊎◌, ℕ, if◌then◌else◌, refl, sym, ap, ◌∙◌, subst, ⊎_elim, inl, inr}
use Rattle.std.proofs.lemmas.Bool.Decides.{eqb_tells}
use Rattle.ww_protocols.specs.Hall.{change, change_in}

-- two numbers are one, or not
pub same_or_not : (j i : ℕ) → (j ≡ i) ⊎ (j ≢ i)
same_or_not j i = ⊎_elim (λ t. inl t.1) (λ t. inr t.1) (eqb_tells j i)

pub change_here : {A : Type 0} (f : ℕ → A) (i : ℕ) (a : A) → change f i a i ≡ a
change_here f i a = ⊎_elim (λ t. ap (λ b. if b then a else f i) t.0) (λ t. absurd (t.1 refl)) (eqb_tells i i)

pub change_else : {A : Type 0} (f : ℕ → A) (i : ℕ) (a : A) (j : ℕ) → j ≢ i → change f i a j ≡ f j
change_else f i a j other = ⊎_elim (λ t. absurd (other t.1)) (λ t. ap (λ b. if b then a else f j) t.0) (eqb_tells j i)

-- what the changed function has at j, by cases
pub change_cases : {A : Type 0} (f : ℕ → A) (i : ℕ) (a : A) (j : ℕ) (P : ℕ → A → Type 0) → P i a → (j ≢ i → P j (f j))
    → P j (change f i a j)
change_cases f i a j P here other = ⊎_elim
    (λ is. subst (λ k. P k (change f i a k)) (sym is) (subst (P i) (sym (change_here f i a)) here))
    (λ isnt. subst (P j) (sym (change_else f i a j isnt)) (other isnt))
    (same_or_not j i)

pub change_in_cases : {A : Type 0} (f : ℕ → ℕ → A) (i j : ℕ) (a : A) (x y : ℕ) (P : ℕ → ℕ → A → Type 0) → P i j a
    → (((x ≡ i) × (y ≡ j) → ⊥) → P x y (f x y)) → P x y (change_in f i j a x y)
change_in_cases f i j a x y P here other =
    change_cases f i (change (f i) j a) x (λ k g. (((k ≡ i) × (y ≡ j) → ⊥) → P k y (f k y)) → P k y (g y))
    (λ old. change_cases (f i) j a y (P i) here (λ isnt. old (λ both. isnt both.1)))
    (λ isnt old. old (λ both. isnt both.0)) other

pub change_in_here : {A : Type 0} (f : ℕ → ℕ → A) (i j : ℕ) (a : A) → change_in f i j a i j ≡ a
change_in_here f i j a = ap (λ g. g j) (change_here f i (change (f i) j a)) ∙ change_here (f i) j a

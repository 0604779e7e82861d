-- Functions changed at one place.
use Rattle.std.proofs.Common.{◌≡◌, ◌≢◌, ◌⊎◌, ◌↔◌, inl, inr, ⊎_elim, ℕ, refl, sym, ap, ◌∙◌, subst}
use mathlib.Core.Logic.{dite}
use native.Mathlib.Decide.{ℕ_discrete}
use Rattle.ww_model.specs.State.{pick, put}

module _ {A : Type 0} where
  pub put_here : (f : ℕ → A) (i : ℕ) (c : A) → put f i c i ≡ c
  unfolding put
  put_here f i c = go (ℕ_discrete i i)
    where
      go : (d : Dec (i ≡ i)) → pick d c (f i) ≡ c
      go (yes _) = refl
      go (no n) = absurd (n refl)

  pub put_else : (f : ℕ → A) (i : ℕ) (c : A) (j : ℕ) → j ≢ i → put f i c j ≡ f j
  unfolding put
  put_else f i c j other = go (ℕ_discrete j i)
    where
      go : (d : Dec (j ≡ i)) → pick d c (f j) ≡ f j
      go (yes e) = absurd (other e)
      go (no _) = refl

  -- what the changed function has at j, by cases
  pub put_cases : (f : ℕ → A) (i : ℕ) (c : A) (j : ℕ) (P : A → Type 0) → (j ≡ i → P c) → (j ≢ i → P (f j)) → P (put f i c j)
  put_cases f i c j P here other = dite (ℕ_discrete j i)
      (λ e. subst P (sym (put_here f i c) ∙ ap (put f i c) (sym e)) (here e))
      (λ ne. subst P (sym (put_else f i c j ne)) (other ne))

module _ {A B : Type 0} where
  -- two functions changed at the same place
  pub puts_cases : (f : ℕ → A) (g : ℕ → B) (i : ℕ) (a : A) (b : B) (j : ℕ) (P : A → B → Type 0) → (j ≡ i → P a b)
      → (j ≢ i → P (f j) (g j)) → P (put f i a j) (put g i b j)
  puts_cases f g i a b j P here other = dite (ℕ_discrete j i)
      (λ e. subst (λ x. P x (put g i b j)) (sym (put_here f i a) ∙ ap (put f i a) (sym e))
      (subst (P a) (sym (put_here g i b) ∙ ap (put g i b) (sym e)) (here e)))
      (λ ne. subst (λ x. P x (put g i b j)) (sym (put_else f i a j ne)) (subst (P (f j)) (sym (put_else g i b j ne)) (other ne)))

-- where the changed function has what it is asked for
module _ {A : Type 0} where
  pub put_was : (f : ℕ → A) (i : ℕ) (c : A) (j : ℕ) (P : A → Type 0) → P (put f i c j) → ((j ≡ i) × P c) ⊎ ((j ≢ i) × P (f j))
  put_was f i c j P h = dite (ℕ_discrete j i)
      (λ e. inl (e, subst P (ap (put f i c) e ∙ put_here f i c) h))
      (λ ne. inr (ne, subst P (put_else f i c j ne) h))

  -- where the new value doesn't have it, the old one has
  pub put_kept : (f : ℕ → A) (i : ℕ) (c : A) (j : ℕ) (P : A → Type 0) → (P c → ⊥) → P (put f i c j) → P (f j)
  put_kept f i c j P isnt h = ⊎_elim (λ x. absurd (isnt x.1)) (λ x. x.1) (put_was f i c j P h)

  -- a function changed where this holds of both values or of neither
  pub put_like : (f : ℕ → A) (i : ℕ) (c : A) (P : A → Type 0) → (P (f i) → P c) → (P c → P (f i)) → (j : ℕ) → P (f j) ↔ P (put f i c j)
  put_like f i c P to from j = (
    put_cases f i c j (λ x. P (f j) → P x) (λ is h. to (subst (λ k. P (f k)) is h)) (λ _ h. h),
    put_cases f i c j (λ x. P x → P (f j)) (λ is h. subst (λ k. P (f k)) (sym is) (from h)) (λ _ h. h),
  )

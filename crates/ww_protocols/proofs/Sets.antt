-- Functions changed at one place.
use Rattle.std.proofs.Common.{◌≡◌, ◌≢◌, ◌⊎◌, inl, inr, ℕ, refl, sym, ap, ◌∙◌, subst}
use mathlib.Core.Logic.{dite}
use native.Mathlib.Decide.{ℕ_discrete}
use Rattle.ww_protocols.specs.Seat.{chosen, set}

module _ {A : Type 0} where
  pub set_here : (f : ℕ → A) (t : ℕ) (a : A) → set f t a t ≡ a
  unfolding set
  set_here f t a = go (ℕ_discrete t t)
    where
      go : (d : Dec (t ≡ t)) → chosen d a (f t) ≡ a
      go (yes _) = refl
      go (no isnt) = absurd (isnt refl)

  pub set_else : (f : ℕ → A) (t : ℕ) (a : A) (u : ℕ) → u ≢ t → set f t a u ≡ f u
  unfolding set
  set_else f t a u other = go (ℕ_discrete u t)
    where
      go : (d : Dec (u ≡ t)) → chosen d a (f u) ≡ f u
      go (yes is) = absurd (other is)
      go (no _) = refl

  -- what the changed function has at u, by cases
  pub set_cases : (f : ℕ → A) (t : ℕ) (a : A) (u : ℕ) (P : A → Type 0) → (u ≡ t → P a) → (u ≢ t → P (f u)) → P (set f t a u)
  set_cases f t a u P here there = dite (ℕ_discrete u t)
      (λ is. subst P (sym (set_here f t a) ∙ ap (set f t a) (sym is)) (here is))
      (λ isnt. subst P (sym (set_else f t a u isnt)) (there isnt))

  -- and at each
  pub set_each : (f : ℕ → A) (t : ℕ) (a : A) (P : ℕ → A → Type 0) → P t a → ((u : ℕ) → u ≢ t → P u (f u)) → (u : ℕ) → P u (set f t a u)
  set_each f t a P here there u = set_cases f t a u (P u) (λ is. subst (λ k. P k a) (sym is) here) (there u)

  -- where the changed function has what it is asked for
  pub set_was : (f : ℕ → A) (t : ℕ) (a : A) (u : ℕ) (P : A → Type 0) → P (set f t a u) → ((u ≡ t) × P a) ⊎ ((u ≢ t) × P (f u))
  set_was f t a u P h = dite (ℕ_discrete u t)
      (λ is. inl (is, subst P (ap (set f t a) is ∙ set_here f t a) h))
      (λ isnt. inr (isnt, subst P (set_else f t a u isnt) h))

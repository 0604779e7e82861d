-- The condemned seat with the least number.
use Rattle.std.proofs.Common.{ℕ, ◌≡◌, ◌≤◌, ◌⊎◌, ⊎_elim, inl, inr, List, [], ◌∷◌, ◌++◌, min, Option, Some, None, IsSome, rules, sym, subst, arith}
use Rattle.std.proofs.lemmas.Bool.{cases_lt}
use Rattle.ww_model.specs.State.{State}
use Rattle.ww_model.specs.Run.{Reached}
use Rattle.ww_model.specs.Waits.{IsRing, IsCondemned, IsLeastCondemned, CondemnedOf}
use Rattle.ww_model.specs.Least.{lesser_of}
use Rattle.ww_model.proofs.Rings.{rings_are_condemned}
use Rattle.ww_model.proofs.Chains.{one_of_more, one_of_old, one_of_new}

module _ (c : State) where
  pub found_same : (seats : List ℕ) (s : ℕ) (o : Option ℕ) → CondemnedOf c seats o → ¬ IsCondemned c s → CondemnedOf c (seats ++ s ∷ []) o
  found_same seats s None found free = λ a is. ⊎_elim (λ old. found a (old, is.1))
      (λ same. free (subst (IsCondemned c) same is.1)) (one_of_more seats s a is.0)
  found_same seats s (Some a) found free = record {
    member = one_of_old seats s a found.member;
    condemned = found.condemned;
    least = λ b one is. ⊎_elim (λ old. found.least b old is) (λ same. absurd (free (subst (IsCondemned c) same is)))
        (one_of_more seats s b one);
  }

  lesser : (a s : ℕ) → ((min a s ≡ a) × (a ≤ s)) ⊎ ((min a s ≡ s) × (s ≤ a))
  lesser a s = ⊎_elim (λ less. inl (omega arith, omega arith)) (λ more. inr (omega arith, more)) (cases_lt a s)

  pub found_more : (seats : List ℕ) (s : ℕ) (o : Option ℕ) → CondemnedOf c seats o → IsCondemned c s
      → CondemnedOf c (seats ++ s ∷ []) (Some (lesser_of o s))
  found_more seats s None found here = record {
    member = one_of_new seats s;
    condemned = here;
    least = λ b one is. ⊎_elim (λ old. absurd (found b (old, is))) (λ same. omega arith) (one_of_more seats s b one);
  }
  found_more seats s (Some a) found here = ⊎_elim
      (λ first. subst (IsLeastCondemned c (seats ++ s ∷ [])) (sym first.0) (record {
        member = one_of_old seats s a found.member;
        condemned = found.condemned;
        least = λ b one is. ⊎_elim (λ old. found.least b old is) (λ same. omega (arith, first.1)) (one_of_more seats s b one);
      }))
      (λ second. subst (IsLeastCondemned c (seats ++ s ∷ [])) (sym second.0) (record {
        member = one_of_new seats s;
        condemned = here;
        least = λ b one is. ⊎_elim (λ old. let a_least = found.least b old is in omega (arith, second.1))
            (λ same. omega arith) (one_of_more seats s b one);
      }))
      (lesser a s)

  -- in a ring somebody is
  pub found_some : Reached c → (ring : List ℕ) (o : Option ℕ) → CondemnedOf c ring o → IsRing c ring → IsSome o
  found_some run ring None found is = let who = rings_are_condemned c run ring is in absurd (found who.0 (who.1, who.2))
  found_some run ring (Some a) found is = search rules

-- Options that hold something, and what a search finds.
use Rattle.std.proofs.Common.{◌≡◌, inl, inr, Bool, true, List, [], ◌∷◌, Option, Some, None, refl, sym, ap, ◌∙◌, subst, true≢false}
use Rattle.std.specs.Prelude.{find}
use Rattle.std.specs.Option.{IsSome, option_map}
use Rattle.ww_queue.specs.Queue.{Has}
use Rattle.ww_queue.proofs.Outcomes.{by_test}

pub some_of : {A : Type 0} (o : Option A) → IsSome o → (x : A) × (o ≡ Some x)
some_of None h = absurd (true≢false (sym h))
some_of (Some x) h = (x, refl)

pub is_some_of : {A : Type 0} (o : Option A) (x : A) → o ≡ Some x → IsSome o
is_some_of o x h = subst IsSome (sym h) refl

pub mapped_from : {A B : Type 0} (f : A → B) (o : Option A) (y : B) → option_map f o ≡ Some y → (x : A) × (o ≡ Some x) × (f x ≡ y)
mapped_from f None y h = absurd (cc)
mapped_from f (Some x) y h = (x, refl, let same : f x ≡ y = cc in same)

-- what a search finds stands in the list and passes
pub found_from : {A : Type 0} (test : A → Bool) (xs : List A) (x : A) → find test xs ≡ Some x → Has xs x × (test x ≡ true)
found_from test [] x = λ h. absurd (cc)
found_from test (z ∷ zs) x = by_test (test z) (Some z) (find test zs) (λ o. o ≡ Some x → Has (z ∷ zs) x × (test x ≡ true))
    (λ is h. let same : x ≡ z = cc in (inl same, ap test same ∙ is))
    (λ _ h. let r = found_from test zs x h in (inr r.0, r.1))

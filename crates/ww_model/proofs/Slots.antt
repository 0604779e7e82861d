-- Lists that are read by number, with one value beyond their end.
use Rattle.std.proofs.Common.{ℕ, suc, zero, ◌≡◌, ◌<◌, ◌⊎◌, ⊎_elim, inl, inr, ◌↔◌, IsTrue, Bool, true, false, List, [], ◌∷◌, ◌++◌, length, get_or, refl, sym, ap, ◌∙◌, arith, true≢false, get_or-set_same, get_or-set_other}
use Rattle.std.specs.List.{list_any}
use Rattle.std.proofs.Math.ListN.{set}
use mathlib.Core.Path.{fun_ext}
use mathlib.Core.Logic.{dite}
use native.Mathlib.Decide.{ℕ_discrete}
use Rattle.ww_queue.specs.Queue.{Has}
use Rattle.ww_model.specs.State.{put, any_below}
use Rattle.ww_model.proofs.Puts.{put_cases}
use Rattle.ww_model.proofs.Outcomes.{or_true, true_or, same_test}

-- what an item of the list passes is passed at some number
pub any_found : {X : Type 0} (test : X → Bool) (xs : List X) (d : X) → list_any test xs ≡ true → (n : ℕ)
    × (n < length xs) × (test (get_or xs n d) ≡ true)
any_found test [] d is = absurd (true≢false (sym is))
any_found test (x ∷ xs) d is = ⊎_elim
    (λ here. (0, omega arith, here))
    (λ later. let found = any_found test xs d later in (suc found.0, omega arith, found.2))
    (or_true (test x) (list_any test xs) is)

-- ... and the other way round, where the value beyond the end does not pass
pub found_any : {X : Type 0} (test : X → Bool) (xs : List X) (d : X) → test d ≡ false → (n : ℕ)
    → test (get_or xs n d) ≡ true → list_any test xs ≡ true
found_any test [] d none n is = absurd (true≢false (sym is ∙ none))
found_any test (x ∷ xs) d none zero is = true_or (test x) (list_any test xs) (inl is)
found_any test (x ∷ xs) d none (suc n) is = true_or (test x) (list_any test xs) (inr (found_any test xs d none n is))

pub below_found : (k : ℕ) (test : ℕ → Bool) → any_below k test ≡ true → (n : ℕ) × (n < k) × (test n ≡ true)
below_found zero test is = absurd (true≢false (sym is))
below_found (suc k) test is = ⊎_elim
    (λ here. (k, omega arith, here))
    (λ later. let found = below_found k test later in (found.0, omega arith, found.2))
    (or_true (test k) (any_below k test) is)

pub found_below : (k : ℕ) (test : ℕ → Bool) (n : ℕ) → n < k → test n ≡ true → any_below k test ≡ true
found_below zero test n below is = absurd (omega arith)
found_below (suc k) test n below is = true_or (test k) (any_below k test) (dite (ℕ_discrete n k)
    (λ e. inl (ap test (sym e) ∙ is))
    (λ ne. inr (found_below k test n (omega arith) is)))

-- a search by number is one of the items
pub below_any : {X : Type 0} (test : X → Bool) (xs : List X) (d : X) → test d ≡ false
    → any_below (length xs) (λ n. test (get_or xs n d)) ≡ list_any test xs
below_any test xs d none = same_test (any_below (length xs) (λ n. test (get_or xs n d))) (list_any test xs)
    (λ is. let found = below_found (length xs) (λ n. test (get_or xs n d)) is in found_any test xs d none found.0 found.2)
    (λ is. let found = any_found test xs d is in found_below (length xs) (λ n. test (get_or xs n d)) found.0 found.1 found.2)

-- whether some item passes says whether there is a number at which what the test stands for holds
pub any_tells : {X : Type 0} (test : X → Bool) (xs : List X) (d : X) (P : X → Type 0) →
    test d ≡ false → ((x : X) → test x ≡ true → P x) → ((x : X) → P x → test x ≡ true) →
    IsTrue (list_any test xs) ↔ ((n : ℕ) × P (get_or xs n d))
any_tells test xs d P none says said = (
  λ is. let found = any_found test xs d is in (found.0, says (get_or xs found.0 d) found.2),
  λ there. found_any test xs d none there.0 (said (get_or xs there.0 d) there.1),
)

-- a list that is written at one place, seen by number through a function
pub seen : {A B : Type 0} (f : A → B) (xs : List A) (i : ℕ) (a d : A) → i < length xs →
    ◌≡◌ {A = ℕ → B} (λ n. f (get_or (set xs i a) n d)) (put (λ n. f (get_or xs n d)) i (f a))
seen f xs i a d within = fun_ext (λ n. put_cases (λ n. f (get_or xs n d)) i (f a) n (λ x. f (get_or (set xs i a) n d) ≡ x)
    (λ is. ap f (ap (λ (j : ℕ). get_or (set xs i a) j d) is ∙ get_or-set_same xs i a d within))
    (λ isnt. ap f (get_or-set_other xs i n a d isnt)))

pub stored : {A : Type 0} (xs : List A) (i : ℕ) (a d : A) → i < length xs →
    ◌≡◌ {A = ℕ → A} (λ n. get_or (set xs i a) n d) (put (λ n. get_or xs n d) i a)
stored xs i a d within = seen (λ x. x) xs i a d within

-- an item that is there is read whatever the value beyond the end
pub slot_at : {A : Type 0} (xs : List A) (i : ℕ) (x d : A) → i < length xs → x ≡ get_or xs i x → x ≡ get_or xs i d
slot_at [] i x d within is = absurd (omega arith)
slot_at (y ∷ ys) zero x d within is = is
slot_at (y ∷ ys) (suc i) x d within is = slot_at ys i x d (omega arith) is

pub has_at : {A : Type 0} (xs : List A) (i : ℕ) (d : A) → i < length xs → Has xs (get_or xs i d)
has_at [] i d within = absurd (omega arith)
has_at (x ∷ xs) zero d within = inl refl
has_at (x ∷ xs) (suc i) d within = inr (has_at xs i d (omega arith))

pub has_last : {A : Type 0} (xs : List A) (y x : A) → Has (xs ++ y ∷ []) x → Has xs x ⊎ (x ≡ y)
has_last [] y x h = ⊎_elim inr (λ a. absurd a) h
has_last (z ∷ zs) y x h = ⊎_elim (λ is. inl (inl is)) (λ later. ⊎_elim (λ old. inl (inr old)) inr (has_last zs y x later)) h

-- What is read keeps to its ranges: numbers, counts, and the steps of which every reading is made.
use Rattle.std.proofs.Common.{◌≡◌, ℕ, suc, ◌<◌, ◌≤◌, Bool, true, false, cond, List, [], ◌∷◌, length, Result, Ok, Err, refl, ap, subst}
use Rattle.std.specs.Prelude.{nat_le, nat_lt, ◌&&◌}
use Rattle.std.specs.List.{AllByRecursion}
use Rattle.std.proofs.lemmas.Bool.{ltb-true, leb-true}
use Rattle.serde_json.specs.Data.{Data}
use Rattle.ww_json.specs.declared.fault.InputFault.{InputFault}
use Rattle.ww_json.specs.declared.fault.InputFault.TheVariants.{BadNumber}
use Rattle.ww_json.specs.Parts.{◌>>=◌, each, counted, ranged, is_within, array, below, number}

-- ---- results

pub bind_ok : {A B : Type 0} (r : Result A InputFault) (f : A → Result B InputFault) (y : B) → (r >>= f) ≡ Ok y
    → (x : A) × (r ≡ Ok x) × (f x ≡ Ok y)
bind_ok (Ok x) f y e = (x, refl, e)
bind_ok (Err fault) f y e = absurd cc

-- a test that was passed
pub guard_ok : {A : Type 0} (b : Bool) (fault : InputFault) (x y : A) → cond b (Ok x) (Err fault) ≡ Ok y → (b ≡ true) × (x ≡ y)
guard_ok true fault x y e = (refl, cc)
guard_ok false fault x y e = absurd cc

abbrev pub done : {A : Type 0} → A → Result A InputFault
done x = Ok x

pub ok_is : {A : Type 0} (x y : A) → done x ≡ done y → x ≡ y
ok_is x y e = cc

-- whichever was chosen keeps the fact
pub either_kept : {A : Type 0} (P : A → Type 0) (b : Bool) (r s : Result A InputFault) (x : A) → (r ≡ Ok x → P x)
    → (s ≡ Ok x → P x) → cond b r s ≡ Ok x → P x
either_kept P true r s x h k e = h e
either_kept P false r s x h k e = k e

-- each of what was read is so, and none is left out
pub each_kept : {A : Type 0} (P : A → Type 0) (f : Data → Result A InputFault) (ds : List Data) (xs : List A)
    → ((d : Data) (x : A) → f d ≡ Ok x → P x) → each f ds ≡ Ok xs → AllByRecursion P xs × (length xs ≡ length ds)
unfolding each
each_kept P f [] xs h e = let none : [] ≡ xs = cc in subst (λ ys. AllByRecursion P ys × (length ys ≡ 0)) none (tt, refl)
each_kept P f (d ∷ ds) xs h e =
    let a = bind_ok (f d) (λ x. each f ds >>= λ ys. Ok (x ∷ ys)) xs e in
    let b = bind_ok (each f ds) (λ ys. Ok (a.0 ∷ ys)) xs a.2 in
    let later = each_kept P f ds b.0 h b.1 in
    let made : (a.0 ∷ b.0) ≡ xs = ok_is (a.0 ∷ b.0) xs b.2 in
    subst (λ ys. AllByRecursion P ys × (length ys ≡ suc (length ds))) made ((h d a.0 a.1, later.0), ap suc later.1)

-- ---- numbers and counts

both_true : (a b : Bool) → (a && b) ≡ true → (a ≡ true) × (b ≡ true)
both_true true b e = (refl, e)
both_true false b e = absurd cc

is_within_true : (low high n : ℕ) → is_within low high n ≡ true → (low ≤ n) × (n ≤ high)
is_within_true low high n e =
    let b = both_true (nat_le low n) (nat_le n high) e in
    (leb-true _ _ b.0, leb-true _ _ b.1)

pub below_kept : (limit : ℕ) (d : Data) (n : ℕ) → below limit d ≡ Ok n → n < limit
below_kept limit d n e =
    let a = bind_ok (number d) (λ k. cond (nat_lt k limit) (Ok k) (Err BadNumber)) n e in
    let g = guard_ok (nat_lt a.0 limit) BadNumber a.0 n a.2 in
    subst (λ k. k < limit) g.1 (ltb-true _ _ g.0)

pub ranged_kept : (low high : ℕ) (d : Data) (n : ℕ) → ranged low high d ≡ Ok n → (low ≤ n) × (n ≤ high)
ranged_kept low high d n e =
    let a = bind_ok (number d) (λ k. cond (is_within low high k) (Ok k) (Err BadNumber)) n e in
    let g = guard_ok (is_within low high a.0) BadNumber a.0 n a.2 in
    subst (λ k. (low ≤ k) × (k ≤ high)) g.1 (is_within_true low high a.0 g.0)

pub counted_kept : (low high : ℕ) (d : Data) (ds : List Data) → counted low high d ≡ Ok ds → (low ≤ length ds) × (length ds ≤ high)
counted_kept low high d ds e =
    let a = bind_ok (array d) (λ xs. cond (is_within low high (length xs)) (Ok xs) (Err BadNumber)) ds e in
    let g = guard_ok (is_within low high (length a.0)) BadNumber a.0 ds a.2 in
    subst (λ xs. (low ≤ length xs) × (length xs ≤ high)) g.1 (is_within_true low high (length a.0) g.0)

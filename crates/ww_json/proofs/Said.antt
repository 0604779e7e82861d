-- What an input says of single values is read as it: numbers, counts, the items of a list, and the kind.
use Rattle.std.proofs.Common.{◌≡◌, ℕ, ◌<◌, ◌≤◌, true, cond, List, [], ◌∷◌, length, map, Result, Ok, Err, refl, ap, ◌∙◌}
use Rattle.std.specs.List.{AllByRecursion}
use Rattle.std.proofs.lemmas.Bool.{lt-ltb, le-leb}
use Rattle.serde_json.specs.Data.{Data, string}
use Rattle.serde_json.specs.View.{items_of}
use Rattle.ww_queue.specs.declared.kind.Kind.{Kind}
use Rattle.ww_queue.specs.declared.kind.Kind.TheVariants.{WoundWait, WaitDie}
use Rattle.ww_json.specs.declared.fault.InputFault.{InputFault}
use Rattle.ww_json.specs.declared.fault.InputFault.TheVariants.{BadNumber}
use Rattle.ww_json.specs.Parts.{list_of, each, counted, ranged, below, is_within}
use Rattle.ww_json.specs.Kinds.{kind_in}
use Rattle.ww_json.specs.Spelling.{list, whole, kind_word}

list_of-items_of : (ds : List Data) → list_of (items_of ds) ≡ ds
list_of-items_of [] = refl
list_of-items_of (d ∷ ds) = ap (λ es. d ∷ es) (list_of-items_of ds)

is_within_of : (low high n : ℕ) → low ≤ n → n ≤ high → is_within low high n ≡ true
is_within_of low high n least most = rw (le-leb low n least, le-leb n high most) refl

pub below_said : (limit n : ℕ) → n < limit → below limit (whole n) ≡ Ok n
below_said limit n lt = ap (λ b. cond b (Ok n) (Err BadNumber)) (lt-ltb n limit lt)

pub ranged_said : (low high n : ℕ) → low ≤ n → n ≤ high → ranged low high (whole n) ≡ Ok n
ranged_said low high n least most = ap (λ b. cond b (Ok n) (Err BadNumber)) (is_within_of low high n least most)

pub counted_said : (low high : ℕ) (ds : List Data) → low ≤ length ds → length ds ≤ high → counted low high (list ds) ≡ Ok ds
counted_said low high ds least most =
    ap (λ es. cond (is_within low high (length es)) (Ok es) (Err BadNumber)) (list_of-items_of ds)
    ∙ ap (λ b. cond b (Ok ds) (Err BadNumber)) (is_within_of low high (length ds) least most)

-- each item that keeps the fact is read as it is
pub each_said : {A : Type 0} (P : A → Type 0) (say : A → Data) (f : Data → Result A InputFault) (xs : List A)
    → ((x : A) → P x → f (say x) ≡ Ok x) → AllByRecursion P xs → each f (map say xs) ≡ Ok xs
unfolding each
each_said P say f [] h all = refl
each_said P say f (x ∷ xs) h all = rw (h x all.0, each_said P say f xs h all.1) refl

pub kind_said : (kind : Kind) → kind_in (string (kind_word kind)) ≡ Ok kind
unfolding kind_in
kind_said WoundWait = refl
kind_said WaitDie = refl

-- Bytes that a reader has left and a writer holds, over several calls.
use Rattle.std.proofs.Common.{◌≡◌, ℕ, ◌+◌, ◌≤◌, List, [], ◌++◌, length, take, drop, Option, Some, None, refl, sym, ap, ◌∙◌, append_assoc, length-append, zero, suc, ◌∷◌, subst, zero-add, suc-add}
use Rattle.std.proofs.lemmas.List.{take-append-drop}
use Rattle.std.proofs.Math.Seq.{take-append_seam, take-append-add}
use Rattle.std.specs.Io.KnownBytes.{Appends, Consumes}
use Rattle.std.specs.Prelude.{Result, Ok, Err, OnErr}
use Rattle.ww_run.specs.Streams.{AppendsFront, ConsumesSome}

pub appends_then : (a b c : Option (List ℕ)) (xs ys : List ℕ) → Appends a b xs → Appends b c ys
    → Appends a c (xs ++ ys)
appends_then None b c xs ys p q = tt
appends_then (Some o) None c xs ys p q = absurd p
appends_then (Some o) (Some m) None xs ys p q = absurd q
appends_then (Some o) (Some m) (Some n) xs ys p q = q ∙ ap (λ zs. zs ++ ys) p ∙ append_assoc o xs ys

abbrev the_empty : List ℕ
the_empty = []

take_none : (n : ℕ) → take n the_empty ≡ []
take_none zero = refl
take_none (suc n) = refl

take_sum : (i n : ℕ) (bs : List ℕ) → take i bs ++ take n (drop i bs) ≡ take (i + n) bs
take_sum zero n bs = ap (λ k. take k bs) (sym (zero-add n))
take_sum (suc i) n [] = take_none n ∙ sym (take_none (suc i + n))
take_sum (suc i) n (b ∷ bs) = ap (λ r. b ∷ r) (take_sum i n bs) ∙ ap (λ k. take k (b ∷ bs)) (sym (suc-add i n))

pub appends_then_drop : (a b c : Option (List ℕ)) (i n : ℕ) (bs rest : List ℕ) → rest ≡ drop i bs
    → Appends a b (take i bs) → Appends b c (take n rest) → Appends a c (take (i + n) bs)
appends_then_drop a b c i n bs rest is p q =
    let q' : Appends b c (take n (drop i bs)) = subst (λ (r : List ℕ). Appends b c (take n r)) is q in
    subst (Appends a c) (take_sum i n bs) (appends_then a b c (take i bs) (take n (drop i bs)) p q')

pub consumes_then : (a b c : Option (List ℕ)) (xs ys : List ℕ) → Consumes a b xs → Consumes b c ys
    → Consumes a c (xs ++ ys)
consumes_then None b c xs ys p q = tt
consumes_then (Some o) None c xs ys p q = absurd p
consumes_then (Some o) (Some m) None xs ys p q = absurd q
consumes_then (Some o) (Some m) (Some n) xs ys p q = p ∙ ap (λ zs. xs ++ zs) q ∙ sym (append_assoc xs ys n)

-- what two calls read, of which the second is the last
pub consumes_some : (most : ℕ) (a b c : Option (List ℕ)) (xs ys : List ℕ) → Consumes a b xs → Consumes b c ys
    → length xs + length ys ≤ most → ConsumesSome most a c
consumes_some most a b c xs ys p q le = (xs ++ ys, simp length-append le, consumes_then a b c xs ys p q)

pub on_err_always : {T E : Type 0} {P : Type 0} (r : Result T E) → P → OnErr r P
on_err_always (Ok x) p = tt
on_err_always (Err e) p = p

parts : (k : ℕ) (xs ys : List ℕ) → take k xs ++ (drop k xs ++ ys) ≡ xs ++ ys
parts k xs ys = sym (append_assoc (take k xs) (drop k xs) ys) ∙ ap (λ zs. zs ++ ys) (take-append-drop k xs)

-- a front of one part is a front of more
pub front_more : (a b : Option (List ℕ)) (xs ys : List ℕ) → AppendsFront a b xs → AppendsFront a b (xs ++ ys)
front_more None b xs ys p = tt
front_more (Some o) None xs ys p = absurd p
front_more (Some o) (Some m) xs ys p = (
  length (take p.0 xs),
  p.1 ∙ ap (λ zs. o ++ zs) (sym (take-append_seam (take p.0 xs) (drop p.0 xs ++ ys)) ∙ ap
      (take (length (take p.0 xs))) (parts p.0 xs ys)),
)

-- a front of what comes after a part
pub front_after : (a b c : Option (List ℕ)) (xs ys : List ℕ) → Appends a b xs → AppendsFront b c ys
    → AppendsFront a c (xs ++ ys)
front_after None b c xs ys p q = tt
front_after (Some o) None c xs ys p q = absurd p
front_after (Some o) (Some m) None xs ys p q = absurd q
front_after (Some o) (Some m) (Some n) xs ys p q = (
  length xs + q.0,
  q.1 ∙ ap (λ zs. zs ++ take q.0 ys) p ∙ append_assoc o xs (take q.0 ys)
      ∙ ap (λ zs. o ++ zs) (sym (take-append-add xs ys q.0)),
)

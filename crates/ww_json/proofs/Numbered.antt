-- Numbered lines, one after the other.
use Rattle.std.proofs.Common.{◌≡◌, ℕ, ◌+◌, ◌<◌, List, [], ◌∷◌, ◌++◌, length, map, take, get_or, sym, ap, ◌∙◌, append_assoc, arith}
use Rattle.std.proofs.lemmas.List.{append-nil, take_more, length-map, length-take-le, map_push}
use Rattle.ww_json.specs.Pieces.{numbered}

numbered_push : {A : Type 0} (line : ℕ → A → List ℕ) (start : ℕ) (xs : List A) (x : A) (k : ℕ)
    → k ≡ start + length xs → numbered line start (xs ++ x ∷ []) ≡ numbered line start xs ++ line k x
numbered_push line start [] x k e =
    let same : start ≡ k = omega arith in
    append-nil (line start x) ∙ ap (λ n. line n x) same
numbered_push line start (y ∷ ys) x k e =
    let later = numbered_push line (start + 1) ys x k (omega arith) in
    ap (λ r. line start y ++ r) later ∙ sym (append_assoc (line start y) (numbered line (start + 1) ys) (line k x))

-- one line more
pub numbered_more : {A : Type 0} (line : ℕ → A → List ℕ) (front more : List A) (i : ℕ) (x : A)
    (old out new : List ℕ) → length front ≡ i → more ≡ front ++ x ∷ []
    → out ≡ old ++ numbered line 0 front → new ≡ out ++ line i x → new ≡ old ++ numbered line 0 more
numbered_more line front more i x old out new long is before pushed =
    let line_more : numbered line 0 more ≡ numbered line 0 front ++ line i x = ap (numbered line 0) is
    ∙ numbered_push line 0 front x i (omega arith) in
    pushed ∙ ap (λ o. o ++ line i x) before ∙ append_assoc old (numbered line 0 front) (line i x) ∙ ap (λ r. old ++ r) (sym line_more)

pub length_front : {A : Type 0} (xs : List A) (i : ℕ) → i < length xs → length (take i xs) ≡ i
length_front xs i lt = length-take-le i xs (omega arith)

-- one line more, of the item at i
pub numbered_at : {A : Type 0} (line : ℕ → A → List ℕ) (xs : List A) (i : ℕ) (d : A) (old out new : List ℕ)
    → i < length xs → out ≡ old ++ numbered line 0 (take i xs) → new ≡ out ++ line i (get_or xs i d)
    → new ≡ old ++ numbered line 0 (take (i + 1) xs)
numbered_at line xs i d old out new lt =
    numbered_more line (take i xs) (take (i + 1) xs) i (get_or xs i d) old out new (length_front xs i lt)
    (take_more xs i d lt)

-- one line more, of the item at i as w shows it
pub numbered_by : {V A : Type 0} (w : V → A) (line : ℕ → A → List ℕ) (vs : List V) (i : ℕ) (d : V) (x : A)
    (old out new : List ℕ) → i < length vs → x ≡ w (get_or vs i d)
    → out ≡ old ++ numbered line 0 (map w (take i vs)) → new ≡ out ++ line i x → new ≡ old ++ numbered line 0 (map w (take (i + 1) vs))
numbered_by w line vs i d x old out new lt is =
    let seen : map w (take (i + 1) vs) ≡ map w (take i vs) ++ x ∷ [] =
    ap (map w) (take_more vs i d lt) ∙ map_push w (take i vs) (get_or vs i d) ∙ ap (λ y. map w (take i vs) ++ y ∷ []) (sym is) in
    numbered_more line (map w (take i vs)) (map w (take (i + 1) vs)) i x old out new (length-map (take i vs) w ∙ length_front vs i lt) seen

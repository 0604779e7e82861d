-- Reading the items of a list one after the other, as a loop does.
use Rattle.std.proofs.Common.{◌≡◌, ℕ, zero, suc, ◌+◌, ◌<◌, List, [], ◌∷◌, ◌++◌, length, map, take, get_or, Result, Ok, Err, refl, sym, ap, ◌∙◌, arith, add-one}
use Rattle.std.proofs.lemmas.List.{length-map, map_push}
use Rattle.serde_json.specs.Data.{Data}
use Rattle.ww_json.specs.declared.fault.InputFault.{InputFault}
use Rattle.ww_json.specs.Parts.{◌>>=◌, each}

pub length_map_view : {V : Type 0} (view : V → Data) (vs : List V) → length (map view vs) ≡ length vs
length_map_view view vs = length-map vs view

-- the first of what was read, and the rest
first_of : {A : Type 0} (fd : Result A InputFault) (rest : Result (List A) InputFault) (xs : List A)
    → (fd >>= λ x. rest >>= λ ys. Ok (x ∷ ys)) ≡ Ok xs
    → (y : A) × (ys : List A) × (fd ≡ Ok y) × (rest ≡ Ok ys) × (xs ≡ y ∷ ys)
first_of (Ok y) (Ok ys) xs e = (y, ys, refl, refl, cc)
first_of (Ok y) (Err f) xs e = absurd cc
first_of (Err f) rest xs e = absurd cc

both : {A : Type 0} (fd : Result A InputFault) (rest : Result (List A) InputFault) (y : A) (ys : List A) → fd ≡ Ok y
    → rest ≡ Ok ys → (fd >>= λ x. rest >>= λ zs. Ok (x ∷ zs)) ≡ Ok (y ∷ ys)
both fd rest y ys e h = rw (e, h) refl

suc_more : {V A : Type 0} (view : V → Data) (f : Data → Result A InputFault) (vs : List V) (i : ℕ) (d : V)
    (xs : List A) (x : A) → i < length vs → each f (map view (take i vs)) ≡ Ok xs
    → f (view (get_or vs i d)) ≡ Ok x → each f (map view (take (suc i) vs)) ≡ Ok (xs ++ x ∷ [])
unfolding each
suc_more view f [] i d xs x lt e h = absurd (omega arith)
suc_more view f (v ∷ vs) zero d xs x lt e h = let none : xs ≡ [] = cc in rw (h, none) refl
suc_more view f (v ∷ vs) (suc i) d xs x lt e h =
    let p = first_of (f (view v)) (each f (map view (take i vs))) xs e in
    let later = suc_more view f vs i d p.1 x (omega arith) p.3 h in
    both (f (view v)) (each f (map view (take (suc i) vs))) p.0 (p.1 ++ x ∷ []) p.2 later ∙ ap (λ ys. Ok (ys ++ x ∷ [])) (sym p.4)

-- one item more
pub each_more : {V A : Type 0} (view : V → Data) (f : Data → Result A InputFault) (vs : List V) (i : ℕ) (v : V)
    (old new : List A) (x : A) → i < length vs → v ≡ get_or vs i v
    → each f (map view (take i vs)) ≡ Ok old → f (view v) ≡ Ok x → new ≡ old ++ x ∷ [] → each f (map view (take (i + 1) vs)) ≡ Ok new
each_more view f vs i v old new x lt is e h pushed =
    let here : f (view (get_or vs i v)) ≡ Ok x = ap (λ w. f (view w)) (sym is) ∙ h in
    rw (add-one, pushed) (suc_more view f vs i v old x lt e here)

-- the same where what is kept is seen by w
pub each_more_by : {V X A : Type 0} (w : X → A) (view : V → Data) (f : Data → Result A InputFault) (vs : List V)
    (i : ℕ) (v : V) (old new : List X) (x : X) → i < length vs → v ≡ get_or vs i v
    → each f (map view (take i vs)) ≡ Ok (map w old) → f (view v) ≡ Ok (w x) → new ≡ old ++ x ∷ []
    → each f (map view (take (i + 1) vs)) ≡ Ok (map w new)
each_more_by w view f vs i v old new x lt is e h pushed =
    let all : map w new ≡ map w old ++ w x ∷ [] = rw pushed (map_push w old x) in
    each_more view f vs i v (map w old) (map w new) (w x) lt is e h all

at_stops : {V A : Type 0} (view : V → Data) (f : Data → Result A InputFault) (vs : List V) (i : ℕ) (d : V)
    (xs : List A) (fault : InputFault) → i < length vs → each f (map view (take i vs)) ≡ Ok xs
    → f (view (get_or vs i d)) ≡ Err fault → each f (map view vs) ≡ Err fault
unfolding each
at_stops view f [] i d xs fault lt e h = absurd (omega arith)
at_stops view f (v ∷ vs) zero d xs fault lt e h = rw h refl
at_stops view f (v ∷ vs) (suc i) d xs fault lt e h =
    let p = first_of (f (view v)) (each f (map view (take i vs))) xs e in
    let later = at_stops view f vs i d p.1 fault (omega arith) p.3 h in
    rw (p.2, later) refl

-- an item that has a fault, behind items that have none
pub each_stops : {V A : Type 0} (view : V → Data) (f : Data → Result A InputFault) (vs : List V) (i : ℕ) (v : V)
    (xs : List A) (fault : InputFault) → i < length vs → v ≡ get_or vs i v
    → each f (map view (take i vs)) ≡ Ok xs → f (view v) ≡ Err fault → each f (map view vs) ≡ Err fault
each_stops view f vs i v xs fault lt is e h =
    let here : f (view (get_or vs i v)) ≡ Err fault = ap (λ w. f (view w)) (sym is) ∙ h in
    at_stops view f vs i v xs fault lt e here

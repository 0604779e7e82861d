-- The wait list among the slots that are out.
use Rattle.std.proofs.Common.{◌≡◌, ℕ, ◌+◌, eqb, true, false, Bool, List, [], ◌∷◌, ◌++◌, length, sym, refl, ap, ◌∙◌, subst, arith, Some, None, slice_get, length-append, ◌≢◌, eq-eqb, ne_eqb, ⊎_elim, ◌⊎◌, inl, inr}
use Rattle.std.proofs.lemmas.Bool.Decides.{eqb_tells}
use Rattle.std.specs.Bool.{if◌then◌else◌}
use Rattle.ww_word.specs.Owner.{AreFlags}
use Rattle.ww_word.specs.AnySeats.{IsValid}
use Rattle.atomic_table.specs.Table.{rest}
use Rattle.ww_queue.specs.declared.entry.Entry.{Entry}
use Rattle.ww_queue.specs.Queue.{left}
use Rattle.ww_model.specs.State.{waiting}
use Rattle.ww_view.specs.Word.{given_word}
use Rattle.ww_invariant.specs.declared.cells.Cell.{Cell}
use Rattle.ww_invariant.specs.declared.cells.Cell.TheVariants.{Line}
use Rattle.ww_invariant.specs.Rule.{Sat}
use Rattle.ww_invariant.specs.Out.{slot_of, AreOthers}
use Rattle.ww_invariant.specs.Guards.{AreSeats}
use Rattle.ww_invariant.specs.Waiting.{HaveOnly, IsOut, HasListOnTop}

same_slot : (slots : List (ℕ × Cell)) (n : ℕ) (x y : Cell) → slot_of slots n ≡ Some y → slot_of slots n ≡ Some x → y ≡ x
same_slot slots n x y there is = let e : Some y ≡ Some x = sym there ∙ is in cc

-- slot m was brought to the front: what it has, and the others
abbrev pub IsBrought : List (ℕ × Cell) → ℕ → List (ℕ × Cell) → Type 0
IsBrought slots m now = (y : Cell) × (others : List (ℕ × Cell)) × (slot_of slots m ≡ Some y) × AreOthers slots m y others
    × (now ≡ (m, y) ∷ others)

-- ... and that is what it had
pub slot_brought : (slots same : List (ℕ × Cell)) {now : List (ℕ × Cell)} (n m : ℕ) (x : Cell) → same ≡ slots → m ≡ n
    → slot_of slots n ≡ Some x → (b : IsBrought same m now) → AreOthers slots n x b.1 × (now ≡ (n, x) ∷ b.1)
slot_brought slots same n m x as_was at is b =
    let has : b.0 ≡ x = same_slot same m x b.0 b.2 (ap (slot_of same) at ∙ ap (λ (l : List (ℕ × Cell)). slot_of l n) as_was ∙ is) in (
      subst (λ (p : List (ℕ × Cell) × (ℕ × Cell)). AreOthers p.0 p.1.0 p.1.1 b.1) (λ i. (as_was i, (at i, has i))) b.3,
      b.4 ∙ (λ i. (at i, has i) ∷ b.1),
    )

-- the slot that was taken last, by its number
pub on_top : (now others : List (ℕ × Cell)) (n k : ℕ) (y : Cell) → now ≡ (n, y) ∷ others → k ≡ n → now ≡ (k, y) ∷ rest now
on_top now others n k y top at = top ∙ (λ i. (sym at i, y) ∷ rest (sym top i))

-- ... where that is the wait list
pub list_on_top : (m m' : Sat) (n k : ℕ) → HasListOnTop m n m' → k ≡ 64 + n → m'.1 ≡ (k, Line m.0.part.core.list) ∷ rest m'.1
list_on_top m m' n k t = on_top m'.1 t.others (64 + n) k (Line m.0.part.core.list) (ap (λ (w : Sat). w.1) t.now)

-- ---- the flag of the waiters that are left

pub none_left : (q : List Entry) (who : ℕ) → slice_get q 0 ≡ None → waiting (left q who) ≡ 0
none_left [] who e = refl
none_left (x ∷ xs) who e = absurd cc

pub one_left : (q : List Entry) (who : ℕ) (e : Entry) → slice_get q 0 ≡ Some e → length q ≡ 1 → e.seat ≡ who → waiting (left q who) ≡ 0
one_left [] who e first one is = absurd cc
one_left (x ∷ []) who e first one is = let same : x ≡ e = cc in
    ap (λ (b : Bool). waiting (if b then [] else x ∷ [])) (eq-eqb x.seat who (ap (λ (y : Entry). y.seat) same ∙ is))
one_left (x ∷ y ∷ zs) who e first one is = absurd (omega arith)

pub some_left : (q : List Entry) (who : ℕ) (e : Entry) → slice_get q 0 ≡ Some e → (length q ≡ 1 → e.seat ≢ who) → waiting (left q who) ≡ 1
some_left [] who e first not = absurd cc
some_left (x ∷ []) who e first not = let same : x ≡ e = cc in
    ap (λ (b : Bool). waiting (if b then [] else x ∷ []))
    (ne_eqb x.seat who (λ z. not refl (ap (λ (y : Entry). y.seat) (sym same) ∙ z)))
some_left (x ∷ y ∷ zs) who e first not = go (eqb x.seat who)
  where
    go : (b : Bool) → waiting (if b then y ∷ zs else x ∷ left (y ∷ zs) who) ≡ 1
    go true = refl
    go false = refl

pub waiting_flags : (q : List Entry) → AreFlags (waiting q)
waiting_flags [] = inl refl
waiting_flags (e ∷ es) = inr (inl refl)

pub others_long : (slots : List (ℕ × Cell)) (n : ℕ) (y : Cell) (others : List (ℕ × Cell))
    → AreOthers slots n y others → length slots ≡ length others + 1
others_long slots n y others a = let p = ap (λ (l : List (ℕ × Cell)). length l) a.parts in
    let q = ap (λ (l : List (ℕ × Cell)). length l) a.rest in let f = length-append a.front ((n, y) ∷ a.back) in
    let g = length-append a.back a.front in omega arith

-- ---- a slot that is out, where another was brought to the front

found_only : (slots : List (ℕ × Cell)) (n : ℕ) (y w : Cell) → HaveOnly n y slots → slot_of slots n ≡ Some w → w ≡ y
found_only [] n y w only is = absurd cc
found_only (x ∷ xs) n y w only is = ⊎_elim
    (λ t. let e : Some x.1 ≡ Some w = ap (λ (b : Bool). if b then Some x.1 else slot_of xs n) (sym t.0) ∙ is in
    let same : x.1 ≡ w = cc in sym same ∙ only.0 t.1)
    (λ t. found_only xs n y w only.1 (ap (λ (b : Bool). if b then Some x.1 else slot_of xs n) (sym t.0) ∙ is))
    (eqb_tells x.0 n)

only_joined : (front back : List (ℕ × Cell)) (n : ℕ) (y : Cell) → HaveOnly n y front → HaveOnly n y back → HaveOnly n y (front ++ back)
only_joined [] back n y one two = two
only_joined (x ∷ xs) back n y one two = (one.0, only_joined xs back n y one.1 two)

only_split : (front back : List (ℕ × Cell)) (n : ℕ) (y : Cell) → HaveOnly n y (front ++ back) → HaveOnly n y front × HaveOnly n y back
only_split [] back n y only = (tt, only)
only_split (x ∷ xs) back n y only = let more = only_split xs back n y only.1 in ((only.0, more.0), more.1)

slot_in : (front back : List (ℕ × Cell)) (n : ℕ) (w : Cell) → slot_of (front ++ back) n ≡ Some w
    → (slot_of front n ≡ Some w) ⊎ (slot_of back n ≡ Some w)
slot_in [] back n w is = inr is
slot_in (x ∷ xs) back n w is = go (eqb x.0 n) is (slot_in xs back n w)
  where
    go : (b : Bool) → (if b then Some x.1 else slot_of (xs ++ back) n) ≡ Some w
        → (slot_of (xs ++ back) n ≡ Some w → (slot_of xs n ≡ Some w) ⊎ (slot_of back n ≡ Some w))
        → ((if b then Some x.1 else slot_of xs n) ≡ Some w) ⊎ (slot_of back n ≡ Some w)
    go true e more = inl e
    go false e more = more e

in_front : (front back : List (ℕ × Cell)) (n : ℕ) (w : Cell) → slot_of front n ≡ Some w → slot_of (front ++ back) n ≡ Some w
in_front [] back n w is = absurd cc
in_front (x ∷ xs) back n w is = go (eqb x.0 n) is (in_front xs back n w)
  where
    go : (b : Bool) → (if b then Some x.1 else slot_of xs n) ≡ Some w
        → (slot_of xs n ≡ Some w → slot_of (xs ++ back) n ≡ Some w)
        → (if b then Some x.1 else slot_of (xs ++ back) n) ≡ Some w
    go true e more = e
    go false e more = more e

in_back : (front back : List (ℕ × Cell)) (n : ℕ) (w : Cell) → slot_of back n ≡ Some w → (u : Cell) × (slot_of (front ++ back) n ≡ Some u)
in_back [] back n w is = (w, is)
in_back (x ∷ xs) back n w is = go (eqb x.0 n) (in_back xs back n w is)
  where
    go : (b : Bool) → (u : Cell) × (slot_of (xs ++ back) n ≡ Some u) → (u : Cell)
        × ((if b then Some x.1 else slot_of (xs ++ back) n) ≡ Some u)
    go true more = (x.1, refl)
    go false more = more

pub still_out : (slots : List (ℕ × Cell)) (m : ℕ) (z : Cell) (others : List (ℕ × Cell)) (n : ℕ) (y : Cell) → m ≢ n
    → AreOthers slots m z others → IsOut slots n y → slot_of ((m, z) ∷ others) n ≡ Some y
still_out slots m z others n y far a out =
    let split = only_split a.front ((m, z) ∷ a.back) n y (subst (HaveOnly n y) a.parts out.only) in
    let only : HaveOnly n y others = subst (HaveOnly n y) (sym a.rest) (only_joined a.back a.front n y split.1.1 split.0) in
    let passed : slot_of ((m, z) ∷ others) n ≡ slot_of others n =
    ap (λ (b : Bool). if b then Some z else slot_of others n) (ne_eqb m n far) in
    let there : (u : Cell) × (slot_of (a.back ++ a.front) n ≡ Some u) = ⊎_elim (λ e. in_back a.back a.front n y e)
    (λ e. (y, in_front a.back a.front n y (ap (λ (b : Bool). if b then Some z else slot_of a.back n) (sym (ne_eqb m n far)) ∙ e)))
    (slot_in a.front ((m, z) ∷ a.back) n y (ap (λ (l : List (ℕ × Cell)). slot_of l n) (sym a.parts) ∙ out.there)) in
    let here : slot_of others n ≡ Some there.0 = ap (λ (l : List (ℕ × Cell)). slot_of l n) a.rest ∙ there.1 in
    passed ∙ here ∙ ap (λ (u : Cell). Some u) (found_only others n y there.0 only here)

-- ---- the owner of a lock that is released

pub given_valid : (b : Bool) (seats : ℕ) (q : List Entry) → AreSeats seats q → IsValid (given_word b q)
given_valid true n [] seats = record { seating = (refl, omega arith); flags = inl refl }
given_valid true n (e ∷ es) seats = let first = seats e (inl refl) in
    record { seating = first.1; flags = inr (inr (inr refl)) }
given_valid false n [] seats = record { seating = (refl, omega arith); flags = inl refl }
given_valid false n (e ∷ es) seats = record { seating = (refl, omega arith); flags = inr (inl refl) }

-- The slots that a seat has out: one pushed, one taken out, one put in front again.
use Rattle.std.proofs.Common.{◌≡◌, ◌≢◌, ◌⊎◌, ℕ, ◌+◌, ◌<◌, ◌≤◌, Bool, false, ◌||◌, eqb, eq-eqb, ne_eqb, List, [], ◌∷◌, ◌++◌, length, map, refl, sym, ap, ◌∙◌, subst, ⊎_elim, inl, inr, arith, Option, Some, None, length-append}
use Rattle.std.proofs.lemmas.Bool.Decides.{leb_tells}
use Rattle.std.proofs.lemmas.List.{length-map}
use Rattle.std.specs.Bool.{if◌then◌else◌}
use Rattle.std.specs.List.{list_any, AllByRecursion}
use mathlib.Core.Logic.{dite}
use native.Mathlib.Decide.{ℕ_discrete}
use Rattle.ww_plain.specs.declared.node.Node.{Node}
use Rattle.ww_plain.specs.Numbers.{AreDifferent}
use Rattle.ww_plain.proofs.Members.{different_none, different_cons}
use Rattle.ww_plain.proofs.FootprintFacts.{few_different}
use Rattle.ww_invariant.specs.declared.cells.Cell.{Cell}
use Rattle.ww_invariant.specs.declared.cells.Cell.TheVariants.{Content, Line}
use Rattle.ww_invariant.specs.Out.{slot_of, AreOthers}
use Rattle.ww_invariant.specs.Waiting.{HaveOnly, IsOut}
use Rattle.ww_seat.specs.Orderly.{AreApart}

-- ---- a slot is out, or not

pub slot_here : (n : ℕ) (y : Cell) (slots : List (ℕ × Cell)) → slot_of ((n, y) ∷ slots) n ≡ Some y
slot_here n y slots = ap (λ (b : Bool). if b then Some y else slot_of slots n) (eq-eqb n n refl)

pub slot_else : (n : ℕ) (y : Cell) (slots : List (ℕ × Cell)) (k : ℕ) → k ≢ n → slot_of ((n, y) ∷ slots) k ≡ slot_of slots k
slot_else n y slots k isnt = ap (λ (b : Bool). if b then Some y else slot_of slots k) (ne_eqb n k (λ e. isnt (sym e)))

first_here : (x : ℕ × Cell) (slots : List (ℕ × Cell)) (n : ℕ) → x.0 ≡ n → slot_of (x ∷ slots) n ≡ Some x.1
first_here x slots n is = ap (λ (b : Bool). if b then Some x.1 else slot_of slots n) (eq-eqb x.0 n is)

first_else : (x : ℕ × Cell) (slots : List (ℕ × Cell)) (n : ℕ) → x.0 ≢ n → slot_of (x ∷ slots) n ≡ slot_of slots n
first_else x slots n isnt = ap (λ (b : Bool). if b then Some x.1 else slot_of slots n) (ne_eqb x.0 n isnt)

pub some_or_none : (o : Option Cell) → (o ≡ None) ⊎ ((y : Cell) × (o ≡ Some y))
some_or_none None = inl refl
some_or_none (Some y) = inr (y, refl)

pub not_both : {o : Option Cell} {y : Cell} → o ≡ None → o ≡ Some y → ⊥
not_both none some = cc

pub same_cell : {o : Option Cell} {x y : Cell} → o ≡ Some x → o ≡ Some y → x ≡ y
same_cell a b = cc

pub same_node : (x y : Node) → Content x ≡ Content y → x ≡ y
same_node x y e = cc

-- ---- two lists, one behind the other

past_none : (front back : List (ℕ × Cell)) (n : ℕ) → slot_of front n ≡ None → slot_of (front ++ back) n ≡ slot_of back n
past_none [] back n none = refl
past_none (x ∷ xs) back n none = dite (ℕ_discrete x.0 n) (λ is. absurd (not_both none (first_here x xs n is)))
    (λ isnt. first_else x (xs ++ back) n isnt ∙ past_none xs back n (sym (first_else x xs n isnt) ∙ none))

in_front : (front back : List (ℕ × Cell)) (n : ℕ) {y : Cell} → slot_of front n ≡ Some y → slot_of (front ++ back) n ≡ Some y
in_front [] back n some = absurd cc
in_front (x ∷ xs) back n some = dite (ℕ_discrete x.0 n) (λ is. first_here x (xs ++ back) n is ∙ sym (first_here x xs n is) ∙ some)
    (λ isnt. first_else x (xs ++ back) n isnt ∙ in_front xs back n (sym (first_else x xs n isnt) ∙ some))

-- in none of both
both_none : (front back : List (ℕ × Cell)) (n : ℕ) → slot_of (front ++ back) n ≡ None → (slot_of front n ≡ None) × (slot_of back n ≡ None)
both_none front back n none = ⊎_elim (λ e. (e, sym (past_none front back n e) ∙ none)) (λ t. absurd (not_both none (in_front front back n t.1)))
    (some_or_none (slot_of front n))

-- no number stands in both
abbrev Differ : List (ℕ × Cell) → List (ℕ × Cell) → Type 0
Differ front back = (n : ℕ) → (slot_of front n ≡ None) ⊎ (slot_of back n ≡ None)

apart_split : (front back : List (ℕ × Cell)) → AreApart (front ++ back) → AreApart front × AreApart back × Differ front back
apart_split [] back apart = (tt, apart, λ n. inl refl)
apart_split (x ∷ xs) back apart = let more = apart_split xs back apart.1 in let none = both_none xs back x.0 apart.0 in (
  (none.0, more.0),
  more.1,
  λ n. dite (ℕ_discrete x.0 n)
      (λ is. inr (ap (slot_of back) (sym is) ∙ none.1))
      (λ isnt. ⊎_elim (λ e. inl (first_else x xs n isnt ∙ e)) (λ e. inr e) (more.2 n)),
)

apart_join : (front back : List (ℕ × Cell)) → AreApart front → AreApart back → Differ front back → AreApart (front ++ back)
apart_join [] back one two differ = two
apart_join (x ∷ xs) back one two differ = (
  past_none xs back x.0 one.0 ∙ ⊎_elim (λ e. absurd (not_both e (first_here x xs x.0 refl))) (λ e. e) (differ x.0),
  apart_join xs back one.1 two (λ n. dite (ℕ_discrete x.0 n) (λ is. inl (ap (slot_of xs) (sym is) ∙ one.0))
      (λ isnt. ⊎_elim (λ e. inl (sym (first_else x xs n isnt) ∙ e)) (λ e. inr e) (differ n))),
)

turned : (front back : List (ℕ × Cell)) → Differ front back → (n : ℕ) → slot_of (back ++ front) n ≡ slot_of (front ++ back) n
turned front back differ n = ⊎_elim (λ e. ⊎_elim (λ f. past_none back front n f ∙ e ∙ sym (past_none front back n e ∙ f))
    (λ t. in_front back front n t.1 ∙ sym (past_none front back n e ∙ t.1)) (some_or_none (slot_of back n))) (λ f. past_none back front n f ∙ ⊎_elim
    (λ e. e ∙ sym (past_none front back n e ∙ f)) (λ t. t.1 ∙ sym (in_front front back n t.1)) (some_or_none (slot_of front n))) (differ n)

-- ---- one slot taken out

module _ {slots : List (ℕ × Cell)} {n : ℕ} {y : Cell} {others : List (ℕ × Cell)} (apart : AreApart slots)
    (are : AreOthers slots n y others) where
  split : AreApart are.front × AreApart ((n, y) ∷ are.back) × Differ are.front ((n, y) ∷ are.back)
  split = apart_split are.front ((n, y) ∷ are.back) (subst AreApart are.parts apart)

  front_none : slot_of are.front n ≡ None
  front_none = ⊎_elim (λ e. e) (λ e. absurd (not_both e (slot_here n y are.back))) (split.2 n)

  differ : Differ are.front are.back
  differ k = dite (ℕ_discrete k n)
      (λ is. inl (ap (slot_of are.front) is ∙ front_none))
      (λ isnt. ⊎_elim (λ e. inl e) (λ e. inr (sym (slot_else n y are.back k isnt) ∙ e)) (split.2 k))

  -- it was out with this
  pub others_had : slot_of slots n ≡ Some y
  others_had = ap (λ (l : List (ℕ × Cell)). slot_of l n) are.parts
      ∙ past_none are.front ((n, y) ∷ are.back) n front_none ∙ slot_here n y are.back

  -- it is out no more
  pub others_gone : slot_of others n ≡ None
  others_gone = ap (λ (l : List (ℕ × Cell)). slot_of l n) are.rest ∙ past_none are.back are.front n split.1.0 ∙ front_none

  -- and all else is as it was
  pub others_else : (k : ℕ) → k ≢ n → slot_of others k ≡ slot_of slots k
  others_else k isnt = ap (λ (l : List (ℕ × Cell)). slot_of l k) are.rest ∙ turned are.front are.back differ k
      ∙ ⊎_elim
      (λ e. past_none are.front are.back k e ∙ sym (past_none are.front ((n, y) ∷ are.back) k e ∙ slot_else n y are.back k isnt))
      (λ t. in_front are.front are.back k t.1 ∙ sym (in_front are.front ((n, y) ∷ are.back) k t.1))
      (some_or_none (slot_of are.front k))
      ∙ ap (λ (l : List (ℕ × Cell)). slot_of l k) (sym are.parts)

  pub others_apart : AreApart others
  others_apart = subst AreApart (sym are.rest)
      (apart_join are.back are.front split.1.1 split.0 (λ k. ⊎_elim (λ e. inr e) (λ e. inl e) (differ k)))

  -- put in front again, with whatever it has then
  pub front_apart : (z : Cell) → AreApart ((n, z) ∷ others)
  front_apart z = (others_gone, others_apart)

  pub front_else : (z : Cell) (k : ℕ) → k ≢ n → slot_of ((n, z) ∷ others) k ≡ slot_of slots k
  front_else z k isnt = slot_else n z others k isnt ∙ others_else k isnt

  -- as it was, every slot is out as before
  pub front_same : (k : ℕ) → slot_of ((n, y) ∷ others) k ≡ slot_of slots k
  front_same k = dite (ℕ_discrete k n)
      (λ is. ap (slot_of ((n, y) ∷ others)) is ∙ slot_here n y others ∙ sym others_had ∙ ap (slot_of slots) (sym is))
      (λ isnt. front_else y k isnt)

  pub others_long : length slots ≡ length others + 1
  others_long = let p = ap (λ (l : List (ℕ × Cell)). length l) are.parts in
      let q = ap (λ (l : List (ℕ × Cell)). length l) are.rest in
      let f = length-append are.front ((n, y) ∷ are.back) in let g = length-append are.back are.front in omega arith

-- a slot that is out can be taken out
pub take_out : (slots : List (ℕ × Cell)) (n : ℕ) {y : Cell} → slot_of slots n ≡ Some y → (others : List (ℕ × Cell)) × AreOthers slots n y others
take_out [] n is = absurd cc
take_out (x ∷ xs) n {y} is = dite (ℕ_discrete x.0 n) (λ e. let same : x.1 ≡ y = same_cell (first_here x xs n e) is in
    (xs ++ [], record { front = []; back = xs; parts = λ i. (e i, same i) ∷ xs; rest = refl }))
    (λ isnt. let more = take_out xs n (sym (first_else x xs n isnt) ∙ is) in (
      more.1.back ++ x ∷ more.1.front,
      record {
        front = x ∷ more.1.front;
        back = more.1.back;
        parts = ap (λ l. x ∷ l) more.1.parts;
        rest = refl;
      },
    ))

-- ---- the only one of its number

none_only : (slots : List (ℕ × Cell)) (n : ℕ) (y : Cell) → slot_of slots n ≡ None → HaveOnly n y slots
none_only [] n y none = tt
none_only (x ∷ xs) n y none = dite (ℕ_discrete x.0 n) (λ is. absurd (not_both none (first_here x xs n is)))
    (λ isnt. ((λ is. absurd (isnt is)), none_only xs n y (sym (first_else x xs n isnt) ∙ none)))

has_only : (slots : List (ℕ × Cell)) (n : ℕ) {y : Cell} → AreApart slots → slot_of slots n ≡ Some y → HaveOnly n y slots
has_only [] n apart some = tt
has_only (x ∷ xs) n {y} apart some = dite (ℕ_discrete x.0 n)
    (λ is. ((λ _. same_cell (first_here x xs n is) some), none_only xs n y (ap (slot_of xs) (sym is) ∙ apart.0)))
    (λ isnt. ((λ is. absurd (isnt is)), has_only xs n apart.1 (sym (first_else x xs n isnt) ∙ some)))

-- a slot of slots that are apart is out once
pub is_out : (slots : List (ℕ × Cell)) (n : ℕ) {y : Cell} → AreApart slots → slot_of slots n ≡ Some y → IsOut slots n y
is_out slots n apart some = record { there = some; only = has_only slots n apart some }

-- ---- how many they are

lt_or_le : (a b : ℕ) → (a < b) ⊎ (b ≤ a)
lt_or_le a b = ⊎_elim (λ t. inr t.1) (λ t. inl t.1) (leb_tells b a)

abbrev numbers : List (ℕ × Cell) → List ℕ
numbers slots = map (λ (x : ℕ × Cell). x.0) slots

not_among : (slots : List (ℕ × Cell)) (n : ℕ) → slot_of slots n ≡ None → list_any (λ m. eqb m n) (numbers slots) ≡ false
not_among [] n none = refl
not_among (x ∷ xs) n none = dite (ℕ_discrete x.0 n) (λ is. absurd (not_both none (first_here x xs n is)))
    (λ isnt. ap (λ (b : Bool). b || list_any (λ m. eqb m n) (numbers xs)) (ne_eqb x.0 n isnt)
    ∙ not_among xs n (sym (first_else x xs n isnt) ∙ none))

different : (slots : List (ℕ × Cell)) → AreApart slots → AreDifferent (numbers slots)
different [] apart = different_none
different (x ∷ xs) apart = different_cons x.0 (numbers xs) (not_among xs x.0 apart.0) (different xs apart.1)

below_each : (bound : ℕ) (slots : List (ℕ × Cell)) → AreApart slots → ((n : ℕ) → bound ≤ n → slot_of slots n ≡ None)
    → AllByRecursion (λ n. n < bound) (numbers slots)
below_each bound [] apart low = tt
below_each bound (x ∷ xs) apart low = (
  ⊎_elim (λ z. z) (λ z. absurd (not_both (low x.0 z) (first_here x xs x.0 refl))) (lt_or_le x.0 bound),
  below_each bound xs apart.1 (λ n high. dite (ℕ_discrete x.0 n) (λ is. ap (slot_of xs) (sym is) ∙ apart.0)
      (λ isnt. sym (first_else x xs n isnt) ∙ low n high)),
)

-- slots below a bound are at most as many as that
pub few_slots : (bound : ℕ) (slots : List (ℕ × Cell)) → AreApart slots
    → ((n : ℕ) → bound ≤ n → slot_of slots n ≡ None) → length slots ≤ bound
few_slots bound slots apart low = let f =
    few_different bound (numbers slots) (different slots apart) (below_each bound slots apart low) in
    let l = length-map slots (λ (x : ℕ × Cell). x.0) in omega arith

-- and fewer where one of them is not out
pub fewer_slots : (bound : ℕ) (slots : List (ℕ × Cell)) (k : ℕ) → AreApart slots
    → ((n : ℕ) → bound ≤ n → slot_of slots n ≡ None) → k < bound → slot_of slots k ≡ None → length slots < bound
fewer_slots bound slots k apart low small none = let f =
    few_slots bound ((k, Line []) ∷ slots) (none, apart)
    (λ n high. slot_else k (Line []) slots n (λ e. absurd (omega arith)) ∙ low n high) in omega arith

low_without : (bound : ℕ) {slots : List (ℕ × Cell)} {l : ℕ} {y : Cell} {others : List (ℕ × Cell)} → AreApart slots → AreOthers slots l y others
    → ((n : ℕ) → bound ≤ n → n ≢ l → slot_of slots n ≡ None) → (n : ℕ) → bound ≤ n → slot_of others n ≡ None
low_without bound {l} {others} apart are low n high = dite (ℕ_discrete n l) (λ is. ap (slot_of others) is ∙ others_gone apart are)
    (λ isnt. others_else apart are n isnt ∙ low n high isnt)

pub fewer_beside : (bound : ℕ) (slots : List (ℕ × Cell)) (l : ℕ) {y : Cell} (k : ℕ) → AreApart slots → slot_of slots l ≡ Some y → bound ≤ l
    → ((n : ℕ) → bound ≤ n → n ≢ l → slot_of slots n ≡ None) → k < bound → slot_of slots k ≡ None → length slots < bound + 1
fewer_beside bound slots l k apart out high low small none = let t = take_out slots l out in
    let f = fewer_slots bound t.0 k (others_apart apart t.1) (low_without bound apart t.1 low) small
    (others_else apart t.1 k (λ e. absurd (omega arith)) ∙ none) in
    let g = others_long apart t.1 in omega arith

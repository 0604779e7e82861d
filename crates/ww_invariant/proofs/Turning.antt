-- Turning the slots that are out.
use Rattle.std.proofs.Common.{◌≡◌, ◌≢◌, ℕ, ◌+◌, ◌-◌, ◌<◌, ◌≤◌, zero, suc, set, take, Bool, true, false, eqb, eq-eqb, ne_eqb, List, [], ◌∷◌, ◌++◌, length, refl, sym, ap, ◌∙◌, arith, Option, Some, None, append-nil, append_assoc, length-append, get_or}
use Rattle.std.proofs.lemmas.List.{get_or_push, take_all, drop_all}
use Rattle.std.specs.Bool.{if◌then◌else◌}
use Rattle.std.specs.Prelude.{option_to_list, IsSome}
use Rattle.std.specs.List.{refill}
use Rattle.ww_invariant.specs.declared.cells.Cell.{Cell}
use Rattle.atomic_table.specs.Table.{rest}
use Rattle.ww_plain.specs.declared.node.Node.{Node}
use Rattle.ww_invariant.specs.declared.cells.Cell.TheVariants.{Content}
use Rattle.ww_invariant.specs.Out.{numbers_of, slot_of, AreOthers, AreTurned}

abbrev first_of : List ℕ → ℕ
first_of [] = 0
first_of (x ∷ xs) = x

abbrev later_of : List ℕ → List ℕ
later_of [] = []
later_of (x ∷ xs) = xs

abbrev head_or : ℕ × Cell → List (ℕ × Cell) → ℕ × Cell
head_or d [] = d
head_or d (x ∷ xs) = x

ends_alike : (xs ys : List ℕ) (a b : ℕ) → xs ++ a ∷ [] ≡ ys ++ b ∷ [] → (xs ≡ ys) × (a ≡ b)
ends_alike [] [] a b e = (refl, ap (λ l. first_of l) e)
ends_alike [] (y ∷ ys) a b e = absurd (let l = ap length e in let m = length-append ys (b ∷ []) in omega arith)
ends_alike (x ∷ xs) [] a b e = absurd (let l = ap length e in let m = length-append xs (a ∷ []) in omega arith)
ends_alike (x ∷ xs) (y ∷ ys) a b e = let more = ends_alike xs ys a b (ap (λ l. later_of l) e) in ((λ i. first_of (e i) ∷ more.0 i), more.1)

-- what is read at the last place
pub last_read : (items ns : List ℕ) (n d i : ℕ) → items ≡ ns ++ n ∷ [] → i + 1 ≡ length items → get_or items i d ≡ n
last_read items ns n d i is at = rw is (get_or_push ns n d i (omega (arith, ap length is, length-append ns (n ∷ []), at)))

-- the slot whose number is read at the last place was taken last
pub last_taken : (slots : List (ℕ × Cell)) (items : List ℕ) (n d i : ℕ) → items ≡ numbers_of slots
    → i + 1 ≡ length items → get_or items i d ≡ n → (y : Cell) × (xs : List (ℕ × Cell)) × (slots ≡ (n, y) ∷ xs)
last_taken [] items n d i is at read = absurd (let l = ap length is in omega arith)
last_taken (x ∷ xs) items n d i is at read =
    (x.1, xs, ap (λ (j : ℕ). (j, x.1) ∷ xs) (sym (last_read items (numbers_of xs) x.0 d i is at) ∙ read))

-- what a `pop` leaves
pub popped : (items ns new : List ℕ) (n : ℕ) (last : Option ℕ) → items ≡ ns ++ n ∷ []
    → items ≡ new ++ option_to_list last → (0 < length items → IsSome last) → new ≡ ns
popped items ns new n None is left some =
    absurd (let z = some (let l = ap length is in let m = length-append ns (n ∷ []) in omega arith) in cc)
popped items ns new n (Some k) is left some = (ends_alike new ns k n (sym left ∙ is)).0

pub numbers_long : (slots : List (ℕ × Cell)) → length (numbers_of slots) ≡ length slots
numbers_long [] = refl
numbers_long (x ∷ xs) = let l = length-append (numbers_of xs) (x.0 ∷ []) in let m = numbers_long xs in omega arith

-- the slot that was taken last goes behind the others: its number comes first
pub numbers_turned : (xs : List (ℕ × Cell)) (x : ℕ × Cell) → numbers_of (xs ++ x ∷ []) ≡ x.0 ∷ numbers_of xs
numbers_turned [] x = refl
numbers_turned (y ∷ ys) x = ap (λ l. l ++ y.0 ∷ []) (numbers_turned ys x)

slot_past : (front back : List (ℕ × Cell)) (n : ℕ) → slot_of front n ≡ None → slot_of (front ++ back) n ≡ slot_of back n
slot_past [] back n none = refl
slot_past (x ∷ xs) back n none = go (eqb x.0 n) none (λ e. slot_past xs back n e)
  where
    go : (b : Bool) → (if b then Some x.1 else slot_of xs n) ≡ None
        → (slot_of xs n ≡ None → slot_of (xs ++ back) n ≡ slot_of back n)
        → (if b then Some x.1 else slot_of (xs ++ back) n) ≡ slot_of back n
    go true e more = absurd cc
    go false e more = more e

slot_here : (x : ℕ × Cell) (xs : List (ℕ × Cell)) (n : ℕ) → x.0 ≡ n → slot_of (x ∷ xs) n ≡ Some x.1
slot_here x xs n is = ap (λ (b : Bool). if b then Some x.1 else slot_of xs n) (eq-eqb x.0 n is)

slot_else : (x : ℕ × Cell) (xs : List (ℕ × Cell)) (n : ℕ) → x.0 ≢ n → slot_of (x ∷ xs) n ≡ slot_of xs n
slot_else x xs n isnt = ap (λ (b : Bool). if b then Some x.1 else slot_of xs n) (ne_eqb x.0 n isnt)

pub unturned : (slots : List (ℕ × Cell)) (n : ℕ) → AreTurned slots slots 0 n
unturned slots n = record { front = []; back = slots; parts = refl; turned = sym (append-nil slots); count = refl; passed = refl }

-- all were turned
pub exhausted : (slots now : List (ℕ × Cell)) (k n : ℕ) (y : Cell) → AreTurned slots now k n → length slots ≤ k
    → slot_of slots n ≡ Some y → ⊥
exhausted slots now k n y t all there = go t.back t.parts
  where
    go : (back : List (ℕ × Cell)) → slots ≡ t.front ++ back → ⊥
    go [] e = (let z = sym there ∙ ap (λ l. slot_of l n) e ∙ slot_past t.front [] n t.passed in cc)
    go (x ∷ xs) e = let l = ap length e in let m = length-append t.front (x ∷ xs) in let c = t.count in omega arith

-- one more is turned
pub turn_on : (slots xs : List (ℕ × Cell)) (x : ℕ × Cell) (k n : ℕ) → AreTurned slots (x ∷ xs) k n
    → k < length slots → x.0 ≢ n → AreTurned slots (xs ++ x ∷ []) (k + 1) n
turn_on slots xs x k n t more isnt = go t.back t.parts t.turned
  where
    go : (back : List (ℕ × Cell)) → slots ≡ t.front ++ back → x ∷ xs ≡ back ++ t.front → AreTurned slots (xs ++ x ∷ []) (k + 1) n
    go [] e f = absurd (let l = ap length e in let m = length-append t.front [] in let c = t.count in omega arith)
    go (y ∷ ys) e f = let same : y ≡ x = ap (λ l. head_or x l) (sym f) in let later : xs ≡ ys ++ t.front = ap (λ l. rest l) f in record {
      front = t.front ++ x ∷ [];
      back = ys;
      parts = e ∙ ap (λ z. t.front ++ z ∷ ys) same ∙ sym (append_assoc t.front (x ∷ []) ys);
      turned = ap (λ l. l ++ x ∷ []) later ∙ append_assoc ys t.front (x ∷ []);
      count = let l = length-append t.front (x ∷ []) in let c = t.count in omega arith;
      passed = slot_past t.front (x ∷ []) n t.passed ∙ slot_else x [] n isnt;
    }

-- the slot was found
pub turned_to : (slots xs : List (ℕ × Cell)) (x : ℕ × Cell) (k n : ℕ) → AreTurned slots (x ∷ xs) k n
    → k < length slots → x.0 ≡ n → (slot_of slots n ≡ Some x.1) × AreOthers slots n x.1 xs
turned_to slots xs x k n t more is = go t.back t.parts t.turned
  where
    go : (back : List (ℕ × Cell)) → slots ≡ t.front ++ back → x ∷ xs ≡ back ++ t.front
        → (slot_of slots n ≡ Some x.1) × AreOthers slots n x.1 xs
    go [] e f = absurd (let l = ap length e in let m = length-append t.front [] in let c = t.count in omega arith)
    go (y ∷ ys) e f = let same : y ≡ x = ap (λ l. head_or x l) (sym f) in let later : xs ≡ ys ++ t.front = ap (λ l. rest l) f in (
      ap (λ l. slot_of l n) e ∙ slot_past t.front (y ∷ ys) n t.passed ∙ ap (λ z. slot_of (z ∷ ys) n) same ∙ slot_here x ys n is,
      record {
        front = t.front;
        back = ys;
        parts = e ∙ ap (λ z. t.front ++ z ∷ ys) same
            ∙ ap (λ (j : ℕ). t.front ++ (j, x.1) ∷ ys) is;
        rest = later;
      },
    )

-- the content of a slot that was brought to the front
pub brought : (slots : List (ℕ × Cell)) (n : ℕ) (x : Node) (y : Cell) → slot_of slots n ≡ Some y
    → slot_of slots n ≡ Some (Content x) → y ≡ Content x
brought slots n x y there is = let e : Some y ≡ Some (Content x) = sym there ∙ is in cc

-- ---- numbers that go up by one place

-- after so many steps, where this one is carried to the front
abbrev pub shifted : List ℕ → ℕ → ℕ → List ℕ
shifted [] c i = []
shifted (x ∷ xs) c zero = x ∷ xs
shifted (x ∷ xs) c (suc i) = c ∷ shifted xs x i

pub shifted_none : (xs : List ℕ) (c : ℕ) → shifted xs c 0 ≡ xs
shifted_none [] c = refl
shifted_none (x ∷ xs) c = refl

pub shifted_long : (xs : List ℕ) (c i : ℕ) → length (shifted xs c i) ≡ length xs
shifted_long [] c i = refl
shifted_long (x ∷ xs) c zero = refl
shifted_long (x ∷ xs) c (suc i) = ap suc (shifted_long xs x i)

-- what is read there was there before
pub shifted_read : (xs : List ℕ) (c i d : ℕ) → i < length xs → get_or (shifted xs c i) i d ≡ get_or (c ∷ xs) (suc i) d
shifted_read [] c i d lt = absurd (omega arith)
shifted_read (x ∷ xs) c zero d lt = refl
shifted_read (x ∷ xs) c (suc i) d lt = shifted_read xs x i d (omega arith)

-- one more step
pub shifted_more : (xs : List ℕ) (c i d : ℕ) → i < length xs → set (shifted xs c i) i (get_or (c ∷ xs) i d) ≡ shifted xs c (suc i)
shifted_more [] c i d lt = absurd (omega arith)
shifted_more (x ∷ xs) c zero d lt = ap (λ l. c ∷ l) (sym (shifted_none xs x))
shifted_more (x ∷ xs) c (suc i) d lt = ap (λ l. c ∷ l) (shifted_more xs x i d (omega arith))

-- after all of them
pub shifted_all : (ns : List ℕ) (n c i : ℕ) → length ns < i → shifted (ns ++ n ∷ []) c i ≡ c ∷ ns
shifted_all ns n c zero lt = absurd (omega arith)
shifted_all [] n c (suc i) lt = refl
shifted_all (m ∷ ms) n c (suc i) lt = ap (λ l. c ∷ l) (shifted_all ms n m i (omega arith))

-- one more step of the loop
pub shifted_on : (xs now : List ℕ) (c carried i : ℕ) → now ≡ shifted xs c i → carried ≡ get_or (c ∷ xs) i 0 → i < length now
    → (set now i carried ≡ shifted xs c (i + 1)) × (get_or now i 0 ≡ get_or (c ∷ xs) (i + 1) 0)
shifted_on xs now c carried i is at lt =
    let long : length now ≡ length xs = ap length is ∙ shifted_long xs c i in
    let up : i + 1 ≡ suc i = omega arith in (
      ap (λ l. set l i carried) is ∙ ap (λ k. set (shifted xs c i) i k) at ∙ shifted_more xs c i 0 (omega arith)
          ∙ ap (λ k. shifted xs c k) (sym up),
      ap (λ l. get_or l i 0) is ∙ shifted_read xs c i 0 (omega arith) ∙ ap (λ k. get_or (c ∷ xs) k 0) (sym up),
    )

-- and its end
pub shifted_out : (xs now ns : List ℕ) (n i : ℕ) → xs ≡ ns ++ n ∷ [] → length xs ≤ i
    → now ≡ shifted xs (get_or xs (length xs - 1) 0) i → now ≡ n ∷ ns
shifted_out xs now ns n i is over at =
    let long = ap length is in let more = length-append ns (n ∷ []) in
    let last = last_read xs ns n 0 (length xs - 1) is (omega arith) in
    at ∙ ap (λ k. shifted xs k i) last ∙ ap (λ l. shifted l n i) is ∙ shifted_all ns n n i (omega arith)

-- all of a list is written again
pub refill_all : (xs ws : List ℕ) → length ws ≡ length xs → refill (length xs) xs ws ≡ ws
refill_all xs ws same = ap (λ l. take (length xs) (ws ++ l)) (drop_all (length ws) xs (omega arith))
    ∙ ap (λ l. take (length xs) l) (append-nil ws) ∙ take_all (length xs) ws (omega arith)

use Rattle.std.proofs.Common.{◌≡◌, ℕ, suc, zero, ◌-◌, List, [], ◌∷◌, ◌++◌, length, length-append, slice_get, refl, sym, ap, ◌∙◌, subst, arith, Option, Some, IfSome, IfNone}
use Rattle.ww_invariant.specs.declared.cells.Cell.{Cell}
use Rattle.ww_invariant.specs.Out.{numbers_of}
use Rattle.ww_table.proofs.seat.Stepper.top.Goals as goal

-- the number of the slot that lies on top
abbrev IsTop : List (ℕ × Cell) → Option ℕ → Type 0
IsTop slots r = IfSome r (λ n. (y : Cell) × (others : List (ℕ × Cell)) × (slots ≡ (n, y) ∷ others)) × IfNone r (slots ≡ [])

last_at : (ns : List ℕ) (n i : ℕ) → i ≡ length ns → slice_get (ns ++ n ∷ []) i ≡ Some n
last_at [] n zero is = refl
last_at [] n (suc i) is = absurd (omega arith)
last_at (m ∷ ms) n zero is = absurd (omega arith)
last_at (m ∷ ms) n (suc i) is = last_at ms n i (omega arith)

top_is : (slots : List (ℕ × Cell)) (items : List ℕ) (r : Option ℕ) → items ≡ numbers_of slots
    → r ≡ slice_get items (length items - 1) → IsTop slots r
top_is [] items r are is = subst (IsTop []) (sym (is ∙ ap (λ (l : List ℕ). slice_get l (length items - 1)) are)) (tt, refl)
top_is (x ∷ xs) items r are is = subst (IsTop (x ∷ xs)) (sym (is ∙ ap (λ (l : List ℕ). slice_get l (length items - 1)) are
    ∙ last_at (numbers_of xs) x.0 (length items - 1)
    (let l = ap length are in let m = length-append (numbers_of xs) (x.0 ∷ []) in omega arith)))
    ((x.1, xs, refl), tt)

pub returns-clause-top : goal.returns-clause-top
returns-clause-top c = (top_is c.args.self.now.seat.me.1 c.deref.result.now c.copied.result
    (c.deref.ensures.0 ∙ c.requires.order) (c.copied.ensures ∙ c.last.ensures.value)).0

pub returns-clause-none : goal.returns-clause-none
returns-clause-none c = (top_is c.args.self.now.seat.me.1 c.deref.result.now c.copied.result
    (c.deref.ensures.0 ∙ c.requires.order) (c.copied.ensures ∙ c.last.ensures.value)).1

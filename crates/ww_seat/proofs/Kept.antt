-- A seat as its caller has it.
use Rattle.std.proofs.Common.{ℕ, ◌≡◌, ◌<◌, ◌-◌, ltb, true, List, ◌∷◌, length, sym, ap, subst, ◌∙◌, arith, inl, Option, Some, None, IfSome}
use Rattle.std.specs.Prelude.{vec_len, vec_capacity}
use mathlib.Core.Logic.{dite}
use native.Mathlib.Decide.{dec_le}
use Rattle.atomic_table.specs.Seated.{TableId}
use Rattle.ww_view.specs.View.{owns, IsAway}
use Rattle.ww_invariant.specs.declared.cells.Cell.{Cell}
use Rattle.ww_invariant.specs.Rule.{Sat}
use Rattle.ww_invariant.specs.Out.{slot_of}
use Rattle.ww_table.specs.declared.seat.Stepper.{Stepper}
use Rattle.ww_table.specs.declared.board.Board.{Board}
use Rattle.ww_table.specs.Seat.{IsSeated, IsSeatOf, size_of, view_of}
use Rattle.ww_seat.specs.Orderly.{IsOrderly}
use Rattle.ww_seat.specs.Calls.{HasStayedOut}
use Rattle.ww_seat.specs.Standings.{Standing, standing_of, view_in, size_in, owns_any, OwnsNodes, IsAt, IsKept, IsSame, IsBackAtOnce}
use Rattle.ww_seat.proofs.Naps.{out_then}
use Rattle.ww_seat.proofs.Slots.{slot_here, not_both}
use Rattle.ww_seat.proofs.Outside.{owner_of_first, holds_outside, high_list}

pub kept : {t : TableId} {size : ℕ} {s : Stepper} → IsSeated t s → IsOrderly size s.seat.me → IsKept s
kept {s} seated orderly = record {
  seated = subst (λ (x : TableId). IsSeated x s) (sym seated.home) seated;
  orderly = subst (λ (k : ℕ). IsOrderly k s.seat.me) (sym orderly.held) orderly;
}

-- it is one of the board
pub seated_at : {b : Board} {q : Stepper} {s : Standing} → standing_of q ≡ s → IsKept q → IsAt b s → IsSeatOf b q
seated_at {q} is k at = subst (λ (t : TableId). IsSeated t q) (ap (λ (x : Standing). x.home) is ∙ at.home) k.seated

-- ... with as many nodes as that has
pub orderly_at : {b : Board} {q : Stepper} {s : Standing} → standing_of q ≡ s → IsKept q → IsAt b s → IsOrderly (size_of b) q.seat.me
orderly_at {q} is k at = subst (λ (k : ℕ). IsOrderly k q.seat.me) (ap (λ (x : Standing). size_in x) is ∙ at.size) k.orderly

-- a step of the seat leaves it the same seat
pub same_seat : {t : TableId} {size : ℕ} {q q' : Stepper} → IsSeated t q → IsSeated t q' → q'.records ≡ q.records → IsOrderly size q.seat.me
    → IsOrderly size q'.seat.me → IsSame (standing_of q) (standing_of q')
same_seat {size} {q'} seated seated' records o o' = let home = seated'.home ∙ sym seated.home in record {
  now = λ i. record { home = home i; room = vec_capacity (records i) - vec_len (records i); me = q'.seat.me };
  size = o'.held ∙ sym o.held;
}

-- ... between two calls, which went inside no guard
pub back_at_once : {t : TableId} {size : ℕ} {q q' : Stepper} → IsSeated t q → IsSeated t q' → q'.records ≡ q.records → IsOrderly size q.seat.me
    → IsOrderly size q'.seat.me → IsAway (view_of q') → HasStayedOut (view_of q) (view_of q') → IsBackAtOnce (standing_of q) (standing_of q')
back_at_once seated seated' records o o' away out = record {
  back = record { same = same_seat seated seated' records o o'; away = away };
  out = out;
}

pub same_then : (s u s' : Standing) → IsSame s u → IsSame u s' → IsSame s s'
same_then s u s' a b = record {
  now = b.now ∙ ap (λ (x : Standing). let y : Standing = record x { me = s'.me } in y) a.now;
  size = b.size ∙ a.size;
}

pub at_once_then : {s u s' : Standing} → IsBackAtOnce s u → IsBackAtOnce u s' → IsBackAtOnce s s'
at_once_then {s} {u} {s'} a b = record {
  back = record { same = same_then s u s' a.back.same b.back.same; away = b.back.away };
  out = out_then (view_in s) (view_in u) (view_in s') a.out b.out;
}

-- whether it owns a lock its slots tell
pub holds_kept : {q : Stepper} {s : Standing} → standing_of q ≡ s → IsKept q → (view_in s).inside ≡ 0 → OwnsNodes s
    → owns_any (view_in s) ≡ ltb 0 (length q.seat.me.1)
holds_kept {q} is k = subst (λ (x : Standing). (view_in x).inside ≡ 0 → OwnsNodes x → owns_any (view_in x) ≡ ltb 0 (length q.seat.me.1))
    is (λ outside nodes. holds_outside k.orderly outside nodes)

-- outside every guard the slot on top is that of a node
first_is_node : {size : ℕ} {m : Sat} (n : ℕ) (y : Cell) (others : List (ℕ × Cell)) → IsOrderly size m → m.0.part.core.inside ≡ 0
    → m.1 ≡ (n, y) ∷ others → n < size
first_is_node {size} {m} n y others was outside out =
    let here : slot_of m.1 n ≡ Some y = ap (λ (l : List (ℕ × Cell)). slot_of l n) out ∙ slot_here n y others in
    dite (dec_le size n) (λ high. absurd (not_both (dite (dec_le 64 n)
    (λ list. let k = high_list n list in ap (slot_of m.1) k.1 ∙ was.lists k.0 (λ is. absurd (omega arith)))
    (λ small. was.others n (omega arith) (inl high))) here)) (λ low. omega arith)

-- so it is the node of a lock that it owns
pub top_kept : {q : Stepper} {s : Standing} (r : Option ℕ) → standing_of q ≡ s → IsKept q → IsAway (view_in s)
    → IfSome r (λ n. (y : Cell) × (others : List (ℕ × Cell)) × (q.seat.me.1 ≡ (n, y) ∷ others))
    → IfSome r (λ n. (n < size_in s) × (owns (view_in s) n ≡ true))
top_kept None is k = λ away out. out
top_kept {q} (Some n) is k = subst (λ (x : Standing). IsAway (view_in x) → (y : Cell) × (others : List (ℕ × Cell)) × (q.seat.me.1 ≡ (n, y) ∷ others)
    → (n < size_in x) × (owns (view_in x) n ≡ true))
    is (λ away out. (
      first_is_node n out.0 out.1 k.orderly away.0 out.2,
      owner_of_first n out.0 out.1 k.orderly away.0 out.2,
    ))

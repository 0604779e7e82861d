-- A seat that holds a lock or none, and comes to look at another.
use Rattle.std.proofs.Common.{◌≡◌, ℕ, ◌<◌, Bool, true, false, true≢false, not, eqb, inl, inr, List, get_or, refl, sym, ap, subst, ◌∙◌, arith, get_or-set_other}
use mathlib.Core.Logic.{dite}
use native.Mathlib.Decide.{ℕ_discrete}
use Rattle.ww_view.specs.View.{IsBare}
use Rattle.ww_invariant.specs.Steps.{MayEnd}
use Rattle.ww_table.specs.declared.board.Board.{Board}
use Rattle.ww_view.proofs.Starts.{none_at}
use Rattle.ww_seat.specs.declared.look.Arrival.TheVariants.{Came}
use Rattle.ww_seat.specs.Standings.{Standing, view_in, size_in, OwnsNodes, MayTry}
use Rattle.ww_tests_below.specs.Looking.{OwnsOnly, MayLook, just, none, owned_in}

-- each lock of these guards a node
pub none_nodes : (size n : ℕ) → get_or none n false ≡ true → n < size
none_nodes size n own = absurd (true≢false (sym own ∙ none_at 64 n))

pub just_nodes : (size lock : ℕ) → lock < size → (n : ℕ) → get_or (just lock) n false ≡ true → n < size
just_nodes size lock low n own = dite (ℕ_discrete n lock)
    (λ is. subst (λ (k : ℕ). k < size) (sym is) low)
    (λ isnt. none_nodes size n (sym (get_or-set_other none lock n true false isnt) ∙ own))

-- it holds lock j, and comes to look at lock n
looks_at_other : (board : Board) (n j : ℕ) (s : Standing) → n < 2 → j < 2 → get_or (just j) n false ≡ false
    → get_or (just j) j false ≡ true → OwnsOnly board (just j) s → MayLook board (owned_in s) n Came s
looks_at_other board n j s there low lacks has h = let off = ap (λ (w : ℕ). not (eqb w 0)) (sym h.away.1) in record {
  small = h.small;
  at = h.at;
  context = h.context;
  owned = refl;
  nodes = λ k own. just_nodes (size_in s) j (omega (arith, low, h.at.size, h.small.two)) k
      (sym (ap (λ (l : List Bool). get_or l k false) h.owned) ∙ own);
  there = there;
  want = record {
    lacks = ap (λ (l : List Bool). get_or l n false) h.owned ∙ lacks;
    base = inl h.context;
    signs = inr (inr (inl (j, ap (λ (l : List Bool). get_or l j false) h.owned ∙ has)));
  };
  outside = h.away.0;
  place = inl h.away.1;
  comes = (off, off);
}

pub looks_at_zero : (board : Board) (s : Standing) → OwnsOnly board (just 1) s → MayLook board (owned_in s) 0 Came s
looks_at_zero board s h = looks_at_other board 0 1 s (omega arith) (omega arith) refl refl h

pub looks_at_one : (board : Board) (s : Standing) → OwnsOnly board (just 0) s → MayLook board (owned_in s) 1 Came s
looks_at_one board s h = looks_at_other board 1 0 s (omega arith) (omega arith) refl refl h

-- it holds nothing
pub bare_with : (s : Standing) → owned_in s ≡ none → IsBare (view_in s)
bare_with s is n = ap (λ (l : List Bool). get_or l n false) is ∙ none_at 64 n

pub none_owns : (s : Standing) → owned_in s ≡ none → OwnsNodes s
none_owns s is n own = absurd (true≢false (sym own ∙ ap (λ (l : List Bool). get_or l n false) is ∙ none_at 64 n))

-- ... so it may try to take a lock, or end
pub may_try : (board : Board) (n : ℕ) (s : Standing) → n < 2 → OwnsOnly board none s → MayTry board n s
may_try board n s there h = record {
  there = omega (arith, there, h.small.two);
  away = h.away;
  lacks = bare_with s h.owned n;
  base = inl h.context;
  nodes = none_owns s h.owned;
}

pub may_end : (board : Board) (s : Standing) → OwnsOnly board none s → MayEnd (view_in s)
may_end board s h = record { away = h.away; context = h.context; bare = bare_with s h.owned }

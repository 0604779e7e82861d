-- A wait list after a leave, and the waiter of a seat.
use Rattle.std.proofs.Common.{ℕ, ◌≡◌, ◌≢◌, ◌⊎◌, ◌==◌, inl, inr, ⊎_elim, Bool, true, false, cond, List, [], ◌∷◌, Option, Some, None, MatchOption, refl, sym, ap, ◌∙◌}
use Rattle.ww_queue.specs.declared.entry.Entry.{Entry}
use Rattle.ww_queue.specs.Queue.{Has, Before, Stands, StandsNot, Once, Ascends, left, entry_of}
use Rattle.ww_queue.specs.Laws.{HasLeft}
use Rattle.ww_queue.proofs.Outcomes.{by_test, same_number, other_number}

-- who stands there after a leave did so before
pub left_has : (q : List Entry) (seat : ℕ) (y : Entry) → Has (left q seat) y → Has q y
left_has [] seat y = λ h. h
left_has (e ∷ es) seat y = by_test (e.seat == seat) es (e ∷ left es seat) (λ q. Has q y → Has (e ∷ es) y)
    (λ _ h. inr h) (λ _. ⊎_elim inl (λ later. inr (left_has es seat y later)))

-- those of other seats still stand there
pub left_others : (q : List Entry) (seat : ℕ) (y : Entry) → y.seat ≢ seat → Has q y → Has (left q seat) y
left_others [] seat y other = λ h. h
left_others (e ∷ es) seat y other = by_test (e.seat == seat) es (e ∷ left es seat) (λ q. Has (e ∷ es) y → Has q y)
    (λ is. ⊎_elim (λ same. absurd (other (ap (λ (z : Entry). z.seat) same ∙ same_number e.seat seat is))) (λ later. later))
    (λ _. ⊎_elim inl (λ later. inr (left_others es seat y other later)))

-- who stands before whom after a leave did so before
pub left_before : (q : List Entry) (seat : ℕ) (x y : Entry) → Before (left q seat) x y → Before q x y
left_before [] seat x y = λ h. h
left_before (e ∷ es) seat x y = by_test (e.seat == seat) es (e ∷ left es seat) (λ q. Before q x y → Before (e ∷ es) x y)
    (λ _ h. inr h) (λ _. ⊎_elim (λ i. inl (i.0, left_has es seat y i.1)) (λ later. inr (left_before es seat x y later)))

pub left_ascends : (q : List Entry) (seat : ℕ) → Ascends q → Ascends (left q seat)
left_ascends [] seat order = order
left_ascends (e ∷ es) seat order = by_test (e.seat == seat) es (e ∷ left es seat) Ascends
    (λ _. order.1) (λ _. (λ y h. order.0 y (left_has es seat y h), left_ascends es seat order.1))

pub left_once : (q : List Entry) (seat : ℕ) → Once q → Once (left q seat)
left_once [] seat once = once
left_once (e ∷ es) seat once = by_test (e.seat == seat) es (e ∷ left es seat) Once
    (λ _. once.1) (λ _. (λ y h. once.0 y (left_has es seat y h), left_once es seat once.1))

-- the seat no longer stands there
pub left_gone : (q : List Entry) (seat : ℕ) → Once q → StandsNot (left q seat) seat
left_gone [] seat once = λ y h. absurd h
left_gone (e ∷ es) seat once = by_test (e.seat == seat) es (e ∷ left es seat) (λ q. StandsNot q seat)
    (λ is y h same. once.0 y h (same ∙ sym (same_number e.seat seat is)))
    (λ isnt y. ⊎_elim (λ same is. other_number e.seat seat isnt (sym (ap (λ (z : Entry). z.seat) same) ∙ is))
    (λ later. left_gone es seat once.1 y later))

-- the waiter that is found stands there, and is of the seat
pub entry_why : (q : List Entry) (seat : ℕ) (e : Entry) → entry_of q seat ≡ Some e → Has q e × (e.seat ≡ seat)
entry_why [] seat e = λ is. absurd cc
entry_why (x ∷ xs) seat e = by_test (x.seat == seat) (Some x) (entry_of xs seat) (λ o. o ≡ Some e → Has (x ∷ xs) e × (e.seat ≡ seat))
    (λ own is. let same : e ≡ x = cc in (inl same, ap (λ (z : Entry). z.seat) same ∙ same_number x.seat seat own))
    (λ _ is. let rest = entry_why xs seat e is in (inr rest.0, rest.1))

-- a waiter is the one of its seat
pub entry_when : (q : List Entry) (e : Entry) → Once q → Has q e → entry_of q e.seat ≡ Some e
entry_when [] e once h = absurd h
entry_when (x ∷ xs) e once h = by_test (x.seat == e.seat) (Some x) (entry_of xs e.seat) (λ o. o ≡ Some e)
    (λ is. ⊎_elim (λ same. ap Some (sym same)) (λ later. absurd (once.0 e later (sym (same_number x.seat e.seat is)))) h)
    (λ isnt. ⊎_elim (λ same. absurd (other_number x.seat e.seat isnt (ap (λ (z : Entry). z.seat) (sym same))))
    (λ later. entry_when xs e once.1 later) h)

-- a seat that doesn't stand there has no waiter
pub entry_none : (q : List Entry) (seat : ℕ) → StandsNot q seat → entry_of q seat ≡ None
entry_none [] seat out = refl
entry_none (x ∷ xs) seat out = by_test (x.seat == seat) (Some x) (entry_of xs seat) (λ o. o ≡ None)
    (λ is. absurd (out x (inl refl) (same_number x.seat seat is))) (λ _. entry_none xs seat (λ y h. out y (inr h)))

-- a seat that stands there has one
pub entry_some : (q : List Entry) (seat : ℕ) → Stands q seat → (e : Entry) × (entry_of q seat ≡ Some e)
entry_some [] seat here = absurd here.1
entry_some (x ∷ xs) seat here = by_test (x.seat == seat) (Some x) (entry_of xs seat) (λ o. (e : Entry) × (o ≡ Some e))
    (λ _. (x, refl))
    (λ isnt. ⊎_elim (λ same. absurd (other_number x.seat seat isnt
    (ap (λ (z : Entry). z.seat) (sym same) ∙ here.2))) (λ later. entry_some xs seat (here.0, later, here.2))
    here.1)

-- what a leave does, by the waiter that is found
Leaves : List Entry → ℕ → Option Entry → List Entry → Type 0
Leaves q seat found new = MatchOption found (StandsNot q seat × (new ≡ q)) (HasLeft q seat new)

-- one more stands in front
one_more : (x : Entry) (xs : List Entry) (seat : ℕ) → x.seat ≢ seat → (found : Option Entry)
    → Leaves xs seat found (left xs seat) → Leaves (x ∷ xs) seat found (x ∷ left xs seat)
unfolding Leaves
one_more x xs seat other None l = (
  λ y. ⊎_elim (λ same is. other (sym (ap (λ (z : Entry). z.seat) same) ∙ is))
      (l.0 y),
  ap (λ ys. x ∷ ys) l.1,
)
one_more x xs seat other (Some e) l = record {
  front = x ∷ l.front;
  rest = l.rest;
  old_parts = ap (λ ys. x ∷ ys) l.old_parts;
  new_parts = ap (λ ys. x ∷ ys) l.new_parts;
  own = l.own;
  first = λ y. ⊎_elim (λ same is. other (sym (ap (λ (z : Entry). z.seat) same) ∙ is)) (l.first y);
}

-- the first waiter is the one of the seat, or not
leaves_from : (x : Entry) (xs : List Entry) (seat : ℕ) (own : Bool) → (x.seat == seat) ≡ own
    → Leaves xs seat (entry_of xs seat) (left xs seat)
    → Leaves (x ∷ xs) seat (cond own (Some x) (entry_of xs seat)) (cond own xs (x ∷ left xs seat))
unfolding Leaves
leaves_from x xs seat true is l = record {
  front = [];
  rest = xs;
  old_parts = refl;
  new_parts = refl;
  own = same_number x.seat seat is;
  first = λ y h. absurd h;
}
leaves_from x xs seat false isnt l = one_more x xs seat (other_number x.seat seat isnt) (entry_of xs seat) l

-- whoever leaves is taken out, and nobody else moves
pub takes_one_out : (q : List Entry) (seat : ℕ)
    → MatchOption (entry_of q seat) (StandsNot q seat × (left q seat ≡ q)) (HasLeft q seat (left q seat))
unfolding Leaves
takes_one_out [] seat = (λ y h. absurd h, refl)
takes_one_out (x ∷ xs) seat = leaves_from x xs seat (x.seat == seat) refl (takes_one_out xs seat)

-- a seat without a waiter doesn't stand there
pub none_entry : (q : List Entry) (seat : ℕ) → entry_of q seat ≡ None → StandsNot q seat
none_entry [] seat = λ _ y h. absurd h
none_entry (x ∷ xs) seat = by_test (x.seat == seat) (Some x) (entry_of xs seat) (λ o. o ≡ None → StandsNot (x ∷ xs) seat)
    (λ _ is. absurd cc)
    (λ isnt is y. ⊎_elim (λ same own. other_number x.seat seat isnt (ap (λ (z : Entry). z.seat) (sym same) ∙ own))
    (none_entry xs seat is y))

pub stands_or_not : (q : List Entry) (seat : ℕ) → Stands q seat ⊎ StandsNot q seat
stands_or_not q seat = go (entry_of q seat) refl
  where
    go : (o : Option Entry) → entry_of q seat ≡ o → Stands q seat ⊎ StandsNot q seat
    go None is = inr (none_entry q seat is)
    go (Some e) is = let here = entry_why q seat e is in inl (e, here.0, here.1)

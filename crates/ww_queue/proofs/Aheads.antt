-- The first context before a seat.
use Rattle.std.proofs.Common.{ℕ, ◌≡◌, ◌≢◌, ◌<◌, ◌==◌, ◌↔◌, inl, inr, ⊎_elim, cond, List, [], ◌∷◌, ◌++◌, Option, Some, None, refl, sym, ap, ◌∙◌, subst, arith}
use Rattle.std.specs.Option.{option_and_then}
use Rattle.ww_queue.specs.declared.entry.Entry.{Entry}
use Rattle.ww_queue.specs.Entry.{has_context}
use Rattle.ww_queue.specs.Queue.{Has, Before, Stands, Once, Ascends, entry_of, first_before, ahead_of}
use Rattle.ww_queue.specs.Laws.{IsAhead}
use Rattle.ww_queue.proofs.Outcomes.{by_test, true_picks, false_picks, same_number, other_number, number_other, context_true, context_false, true_context}
use Rattle.ww_queue.proofs.Leaves.{entry_why, entry_some}

module _ {A : Type 0} where
  pub before_second : (q : List A) (x y : A) → Before q x y → Has q y
  before_second [] x y h = absurd h
  before_second (e ∷ es) x y h = ⊎_elim (λ i. inr i.1) (λ later. inr (before_second es x y later)) h

  pub before_first : (q : List A) (x y : A) → Before q x y → Has q x
  before_first [] x y h = absurd h
  before_first (e ∷ es) x y h = ⊎_elim (λ i. inl i.0) (λ later. inr (before_first es x y later)) h

  pub has_behind : (front rest : List A) (x y : A) → Has rest y → Has (front ++ x ∷ rest) y
  has_behind [] rest x y h = inr h
  has_behind (e ∷ es) rest x y h = inr (has_behind es rest x y h)

-- who stands before whom is the older one
pub before_older : (q : List Entry) (x y : Entry) → Ascends q → Before q x y → 0 < x.stamp → 0 < y.stamp → x.stamp < y.stamp
before_older [] x y order h some some' = absurd h
before_older (e ∷ es) x y order h some some' = ⊎_elim
    (λ i. let j = ap (λ (z : Entry). z.stamp) i.0 in let k = order.0 y i.1 (omega arith) some' in omega arith)
    (λ later. before_older es x y order.1 later some some') h

-- a context stands before y, so a first one does
pub ahead_when : (q : List Entry) (x y : Entry) → Once q → Before q x y → 0 < x.stamp → (z : Entry) × (first_before q y.seat ≡ Some z)
ahead_when [] x y once before some = absurd before
ahead_when (e ∷ es) x y once before some =
    by_test (e.seat == y.seat) None (cond (has_context e) (Some e) (first_before es y.seat))
    (λ o. (z : Entry) × (o ≡ Some z))
    (λ is. absurd (once.0 y (⊎_elim (λ i. i.1) (before_second es x y) before) (sym (same_number e.seat y.seat is))))
    (λ _. by_test (has_context e) (Some e) (first_before es y.seat) (λ o. (z : Entry) × (o ≡ Some z))
    (λ _. (e, refl))
    (λ isnt. ⊎_elim (λ i. let j = ap (λ (z : Entry). z.stamp) i.0 in let k = context_false e isnt in absurd (omega arith))
    (λ later. ahead_when es x y once.1 later some) before))

-- the first one before y is a context, and stands before y
pub ahead_why : (q : List Entry) (y z : Entry) → Has q y → first_before q y.seat ≡ Some z → Before q z y × (0 < z.stamp)
ahead_why [] y z h = absurd h
ahead_why (e ∷ es) y z h = by_test (e.seat == y.seat) None (cond (has_context e) (Some e) (first_before es y.seat))
    (λ o. o ≡ Some z → Before (e ∷ es) z y × (0 < z.stamp))
    (λ _ is. absurd cc)
    (λ isnt. let later : Has es y = ⊎_elim
    (λ same. absurd (other_number e.seat y.seat isnt (ap (λ (z : Entry). z.seat) (sym same)))) (λ later. later)
    h in
    by_test (has_context e) (Some e) (first_before es y.seat) (λ o. o ≡ Some z → Before (e ∷ es) z y × (0 < z.stamp))
    (λ some is. let same : z ≡ e = cc in (inl (same, later), subst (λ (x : Entry). 0 < x.stamp) (sym same) (context_true e some)))
    (λ _ is. let rest = ahead_why es y z later is in (inr rest.0, rest.1)))

-- where the seat stands, the first one before it is the one ahead
pub ahead_is_first_before : (q : List Entry) (seat : ℕ) → Stands q seat → ahead_of q seat ≡ first_before q seat
ahead_is_first_before q seat here = let own = entry_some q seat here in ap (option_and_then (λ _. first_before q seat)) own.1

-- where somebody is ahead, the seat stands
pub ahead_stands : (q : List Entry) (seat : ℕ) (z : Entry) → ahead_of q seat ≡ Some z → Stands q seat
ahead_stands q seat z = step (entry_of q seat) refl
  where
    step : (o : Option Entry) → entry_of q seat ≡ o → option_and_then (λ _. first_before q seat) o ≡ Some z → Stands q seat
    step None own is = absurd cc
    step (Some e) own is = let here = entry_why q seat e own in (e, here.0, here.1)

stands_behind : (e : Entry) (es : List Entry) (seat : ℕ) → e.seat ≢ seat → Stands (e ∷ es) seat → Stands es seat
stands_behind e es seat other here = ⊎_elim
    (λ same. absurd (other (ap (λ (z : Entry). z.seat) (sym same) ∙ here.2))) (λ later. (here.0, later, here.2))
    here.1

-- the list round the first one before the seat
pub ahead_parts : (q : List Entry) (seat : ℕ) (z : Entry) → Stands q seat → first_before q seat ≡ Some z → IsAhead q seat z
ahead_parts [] seat z here = absurd here.1
ahead_parts (e ∷ es) seat z here = by_test (e.seat == seat) None
    (cond (has_context e) (Some e) (first_before es seat)) (λ o. o ≡ Some z → IsAhead (e ∷ es) seat z)
    (λ _ is. absurd cc)
    (λ isnt. let other = other_number e.seat seat isnt in let behind = stands_behind e es seat other here in
    by_test (has_context e) (Some e) (first_before es seat) (λ o. o ≡ Some z → IsAhead (e ∷ es) seat z)
    (λ some is. let same : e ≡ z = cc in subst (IsAhead (e ∷ es) seat) same
    (record {
      front = [];
      rest = es;
      parts = refl;
      solos = λ y h. absurd h;
      context = context_true e some;
      other = other;
      behind = behind;
    }))
    (λ none is. let r = ahead_parts es seat z behind is in record {
      front = e ∷ r.front;
      rest = r.rest;
      parts = ap (λ ys. e ∷ ys) r.parts;
      solos = λ y. ⊎_elim (λ same. subst (λ (x : Entry). (x.stamp ≡ 0) × (x.seat ≢ seat)) (sym same)
          (context_false e none, other)) (r.solos y);
      context = r.context;
      other = r.other;
      behind = r.behind;
    }))

-- in front of a context there are others' entries without one, so it is the first
pub parts_ahead : (front rest : List Entry) (seat : ℕ) (z : Entry)
    → ((y : Entry) → Has front y → (y.stamp ≡ 0) × (y.seat ≢ seat)) → 0 < z.stamp → z.seat ≢ seat
    → first_before (front ++ z ∷ rest) seat ≡ Some z
parts_ahead [] rest seat z solos some other =
    false_picks {A = Option Entry} (z.seat == seat) None (cond (has_context z) (Some z) (first_before rest seat))
    (number_other z.seat seat other)
    ∙ true_picks {A = Option Entry} (has_context z) (Some z) (first_before rest seat) (true_context z some)
parts_ahead (y ∷ ys) rest seat z solos some other = let solo = solos y (inl refl) in
    false_picks {A = Option Entry} (y.seat == seat) None
    (cond (has_context y) (Some y) (first_before (ys ++ z ∷ rest) seat)) (number_other y.seat seat solo.1)
    ∙ by_test (has_context y) (Some y) (first_before (ys ++ z ∷ rest) seat) (λ o. o ≡ Some z)
    (λ is. let k = context_true y is in let j = solo.0 in absurd (omega arith))
    (λ _. parts_ahead ys rest seat z (λ x h. solos x (inr h)) some other)

pub ahead_is_first_context : (q : List Entry) (seat : ℕ) (e : Entry) → (ahead_of q seat ≡ Some e) ↔ IsAhead q seat e
ahead_is_first_context q seat e = (
  λ is. let here = ahead_stands q seat e is in ahead_parts q seat e here (sym (ahead_is_first_before q seat here) ∙ is),
  λ r. let here : Stands q seat = (
    r.behind.0,
    subst (λ q. Has q r.behind.0) (sym r.parts)
        (has_behind r.front r.rest e r.behind.0 r.behind.1),
    r.behind.2,
  ) in
      ahead_is_first_before q seat here ∙ ap (λ q. first_before q seat) r.parts
      ∙ parts_ahead r.front r.rest seat e r.solos r.context r.other,
)

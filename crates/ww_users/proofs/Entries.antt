-- A trip through a list: what is held is what was kept, and the entries so far.
use Rattle.std.proofs.Common.{◌≡◌, ℕ, suc, ◌+◌, ◌<◌, ◌||◌, ◌⊎◌, Bool, false, true, not, eqb, inl, inr, List, [], ◌∷◌, ◌++◌, length, take, drop, get_or, Option, Some, None, IfSome, refl, sym, ap, subst, ◌∙◌, append_assoc, drop-cons}
use Rattle.std.specs.List.{filter}
use Rattle.std.specs.Option.{option_eq}
use Rattle.std.proofs.lemmas.List.Elements.{filter-append}
use Rattle.std.proofs.lemmas.List.{append-nil, take_more, take-append-drop}
use Rattle.std.proofs.lemmas.Option.{slice_get-get_or}
use Rattle.std.proofs.lemmas.List.Sorted.{IsPermutation-to_front, list_any-IsPermutation}
use Rattle.std.proofs.lemmas.Map.Keys.{any_passes_from_place}
use Rattle.ww_plain.specs.Numbers.{is_among, AreDifferent}
use Rattle.ww_plain.specs.Transaction.{IsFirstDouble}
use Rattle.ww_plain.proofs.Members.{or_false, same_from_eqb, eqb_same, eqb_comm, is_among-append, different_none, different_push, different_head, different_tail}
use Rattle.ww_lock.specs.Holding.{Holding, Refused}
use Rattle.ww_lock.specs.Moves.{IsTaken, IsRefused}
use Rattle.ww_users.specs.Ways.{IsSameContext, in_order}
use Rattle.ww_users.specs.Trips.{HoldsKept, IsContended, kept_nodes}
use Rattle.ww_users.proofs.Contexts.{same_itself, same_later, same_taken}

-- ---- a list, up to an entry

pub take_next : (list : List ℕ) (position n : ℕ) → position < length list → n ≡ get_or list position 0
    → take (position + 1) list ≡ take position list ++ n ∷ []
take_next list position n lt is = take_more list position 0 lt ∙ ap (λ m. take position list ++ m ∷ []) (sym is)

pub parts_at : (list : List ℕ) (position n : ℕ) → position < length list → n ≡ get_or list position 0
    → list ≡ take position list ++ n ∷ drop (suc position) list
parts_at list position n lt is = sym (take-append-drop position list) ∙ ap (λ ns. take position list ++ ns)
    (drop-cons list position 0 lt ∙ ap (λ m. m ∷ drop (suc position) list) (sym is))

-- an entry that isn't the one kept is the last in order
order_more : (first : Option ℕ) (ns : List ℕ) (n : ℕ) → is_among n (in_order first ns) ≡ false
    → in_order first ns ++ n ∷ [] ≡ in_order first (ns ++ n ∷ [])
order_more None ns n absent = refl
order_more (Some k) ns n absent =
    let other : eqb n k ≡ false = eqb_comm k n ((or_false (eqb k n) (is_among n (filter (λ m. not (eqb m k)) ns)) absent).0) in
    let one : filter (λ m. not (eqb m k)) (n ∷ []) ≡ n ∷ [] = rw other refl in
    ap (λ ms. k ∷ ms) (sym (filter-append (λ m. not (eqb m k)) ns (n ∷ []) ∙ ap (λ ms. filter (λ m. not (eqb m k)) ns ++ ms) one))

-- the entry of the one kept is no entry in order
order_skips : (k : ℕ) (ns : List ℕ) → in_order (Some k) (ns ++ k ∷ []) ≡ in_order (Some k) ns
order_skips k ns =
    let none : filter (λ m. not (eqb m k)) (k ∷ []) ≡ [] = rw (eqb_same k) refl in
    ap (λ ms. k ∷ ms) (filter-append (λ m. not (eqb m k)) ns (k ∷ [])
    ∙ ap (λ ms. filter (λ m. not (eqb m k)) ns ++ ms) none ∙ append-nil (filter (λ m. not (eqb m k)) ns))

-- ---- the way through it

-- The context a came from s past these entries, having kept `first`; so much is still kept for an entry to come.
pub record IsPast (first : Option ℕ) (s a : Holding) (past : List ℕ) (kept : Option ℕ) : Type 0 where
  pub same : IsSameContext s a
  pub order : a.held ≡ in_order first past
  pub left : (kept ≡ first) ⊎ (kept ≡ None)
  pub held : (n : ℕ) → is_among n a.held ≡ is_among n (kept_nodes kept ++ past)
  pub once : AreDifferent (kept_nodes kept ++ past)

kept_alone : (kept : Option ℕ) → (kept_nodes kept ≡ in_order kept []) × AreDifferent (kept_nodes kept ++ [])
kept_alone None = (refl, different_none)
kept_alone (Some k) = (refl, different_push [] k different_none refl)

pub way_begins : (kept : Option ℕ) (s : Holding) → s.held ≡ kept_nodes kept → IsPast kept s s [] kept
way_begins kept s held = record {
  same = same_itself s;
  order = held ∙ (kept_alone kept).0;
  left = inl refl;
  held = λ n. ap (is_among n) (held ∙ sym (append-nil (kept_nodes kept)));
  once = (kept_alone kept).1;
}

-- the entry is the node that was kept
pub way_skips : (first : Option ℕ) {s a : Holding} (past : List ℕ) (n : ℕ) (kept : Option ℕ) → IsPast first s a past kept
    → option_eq eqb kept (Some n) ≡ true → IsPast first s a (past ++ n ∷ []) None
way_skips first past n None h same = absurd cc
way_skips first past n (Some k) h same =
    let was : first ≡ Some n = elim h.left [ inl same' ↦ sym same' ∙ ap Some (same_from_eqb k n same) | inr none ↦ absurd cc ] in
    let once : AreDifferent (n ∷ past) = subst (λ m. AreDifferent (m ∷ past)) (same_from_eqb k n same) h.once in
    record {
      same = h.same;
      order = h.order ∙ rw was (sym (order_skips n past));
      left = inr refl;
      held = λ m. h.held m ∙ ap (λ j. is_among m (j ∷ past)) (same_from_eqb k n same)
          ∙ sym (list_any-IsPermutation (λ l. eqb l m) (past ++ n ∷ []) (n ∷ past) (IsPermutation-to_front past n));
      once = different_push past n (different_tail n past once) (different_head n past once);
    }

pub way_locks : (first : Option ℕ) {s a : Holding} (b : Holding) (past : List ℕ) (n : ℕ) (kept : Option ℕ)
    → IsPast first s a past kept → IsTaken a n b → IsPast first s b (past ++ n ∷ []) kept
way_locks first b past n kept h taken =
    let whole : kept_nodes kept ++ past ++ n ∷ [] ≡ kept_nodes kept ++ (past ++ n ∷ []) = append_assoc (kept_nodes kept) past (n ∷ []) in
    record {
      same = same_later h.same (same_taken taken);
      order = ap (λ (c : Holding). c.held) taken.added ∙ ap (λ ns. ns ++ n ∷ []) h.order
          ∙ order_more first past n (ap (is_among n) (sym h.order) ∙ taken.new);
      left = h.left;
      held = λ m. ap (λ (c : Holding). is_among m c.held) taken.added ∙ is_among-append m _ (n ∷ [])
          ∙ ap (λ (here : Bool). here || is_among m (n ∷ [])) (h.held m)
          ∙ sym (is_among-append m (kept_nodes kept ++ past) (n ∷ [])) ∙ ap (is_among m) whole;
      once = subst AreDifferent whole (different_push (kept_nodes kept ++ past) n h.once (sym (h.held n) ∙ taken.new));
    }

past_once : (kept : Option ℕ) (past : List ℕ) → AreDifferent (kept_nodes kept ++ past) → AreDifferent past
past_once None past once = once
past_once (Some k) past once = different_tail k past once

past_has : (kept : Option ℕ) (past : List ℕ) (n : ℕ) → option_eq eqb kept (Some n) ≡ false
    → is_among n (kept_nodes kept ++ past) ≡ is_among n past
past_has None past n other = refl
past_has (Some k) past n other = rw other refl

-- an entry that isn't the one kept is held where it stands before; all before it differ
pub way_meets : {first : Option ℕ} {s a : Holding} (past : List ℕ) (n : ℕ) (kept : Option ℕ) → IsPast first s a past kept
    → option_eq eqb kept (Some n) ≡ false → (is_among n past ≡ is_among n a.held) × AreDifferent past
way_meets past n kept h other = (sym (h.held n ∙ past_has kept past n other), past_once kept past h.once)

-- ... it is held
pub way_doubles : (list : List ℕ) (position n : ℕ) → position < length list → n ≡ get_or list position 0
    → is_among n (take position list) ≡ true → AreDifferent (take position list) → IsFirstDouble list n
way_doubles list position n lt is earlier different = record {
  front = take position list;
  rest = drop (suc position) list;
  parts = parts_at list position n lt is;
  different = different;
  earlier = earlier;
}

-- ... it isn't, and its lock couldn't be got
pub way_contended : (a : Holding) (b : Refused) (list : List ℕ) (position n : ℕ) → position < length list
    → n ≡ get_or list position 0 → IsRefused a n b → (is_among n (take position list) ≡ is_among n a.held) × AreDifferent (take position list)
    → IsContended list b position
way_contended a b list position n lt is refused met = record {
  there = lt;
  entry = slice_get-get_or list position 0 lt ∙ ap Some (sym is ∙ sym refused.contended);
  different = rw (take_next list position n lt is) (different_push (take position list) n met.1 (met.0 ∙ refused.new));
}

-- nothing is kept behind the last entry, since what was kept is one
pub way_ends : (list : List ℕ) (kept : Option ℕ) → AreDifferent (kept_nodes kept ++ list) → (IfSome kept (λ n. is_among n list ≡ true)) → kept ≡ None
way_ends list None once listed = refl
way_ends list (Some k) once listed = absurd (let absent = different_head k list once in cc)

-- the contended lock is held: the next trip skips its entry
pub way_again : (a : Holding) (b : Refused) (list : List ℕ) (position n : ℕ) → IsContended list b position
    → n ≡ b.contended → a.held ≡ b.contended ∷ [] → HoldsKept (Some n) list a
way_again a b list position n met is alone = rw is (record {
  held = alone;
  listed = any_passes_from_place (λ m. eqb m b.contended) list position b.contended met.entry (eqb_same b.contended);
})

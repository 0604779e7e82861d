-- Replaying a history record by record.
use Rattle.std.proofs.Common.{◌≡◌, ℕ, suc, ◌+◌, ◌↔◌, ◌≢◌, Bool, true, false, eqb, List, [], ◌∷◌, ◌++◌, length, refl, ap, ◌∙◌, arith}
use Rattle.ww_plain.specs.declared.node.Node.{Node}
use Rattle.ww_plain.specs.Meaning.{graph_after}
use Rattle.std.specs.Bool.{if◌then◌else◌}
use Rattle.std.proofs.lemmas.Bool.Decides.{nat_tests}
use Rattle.std.proofs.lemmas.List.{append-nil}
use Rattle.ww_plain.specs.History.{Recorded, IsLegal, last_graph, part_from, part_of}
use Rattle.ww_plain.specs.Laws.{GrowsBy}
use Rattle.ww_plain.proofs.Members.{eqb_same}

-- A history, replayed as far as the records of `rest`: it is legal exactly if they are from here, and ends with the same graph.
pub record IsReplayed (first : List Node) (all : List Recorded) (graph : List Node) (rest : List Recorded) : Type 0 where
  pub legal : IsLegal first all ↔ IsLegal graph rest
  pub ends : last_graph first all ≡ last_graph graph rest

-- ---- longer histories

pub last_graph-append : (graph : List Node) (front rest : List Recorded)
    → last_graph graph (front ++ rest) ≡ last_graph (last_graph graph front) rest
last_graph-append graph [] rest = refl
last_graph-append graph (r ∷ rs) rest = last_graph-append (graph_after graph r.transaction) rs rest

legal_front : (graph : List Node) (front rest : List Recorded) → IsLegal graph (front ++ rest) → IsLegal graph front
    × IsLegal (last_graph graph front) rest
legal_front graph [] rest h = (tt, h)
legal_front graph (r ∷ rs) rest h = let later = legal_front (graph_after graph r.transaction) rs rest h.1 in ((h.0, later.0), later.1)

pub legal_append : (graph : List Node) (front rest : List Recorded) → IsLegal graph front
    → IsLegal (last_graph graph front) rest → IsLegal graph (front ++ rest)
legal_append graph [] rest a b = b
legal_append graph (r ∷ rs) rest a b = (a.0, legal_append (graph_after graph r.transaction) rs rest a.1 b)

pub goes_on : (graph : List Node) (front rest : List Recorded)
    → (IsLegal graph (front ++ rest) ↔ (IsLegal graph front × IsLegal (last_graph graph front) rest))
    × (last_graph graph (front ++ rest) ≡ last_graph (last_graph graph front) rest)
goes_on graph front rest = (
  (legal_front graph front rest, λ both. legal_append graph front rest both.0 both.1),
  last_graph-append graph front rest,
)

-- the part in two histories that follow each other, where a test says whether the first record is the caller's
part_step : (own : Bool) (entry : ℕ × Recorded) (xs ys zs : List (ℕ × Recorded)) → xs ≡ ys ++ zs
    → (if own then entry ∷ xs else xs) ≡ (if own then entry ∷ ys else ys) ++ zs
part_step true entry xs ys zs e = ap (λ rest. entry ∷ rest) e
part_step false entry xs ys zs e = e

pub part_from-append : (place caller : ℕ) (front rest : List Recorded)
    → part_from place caller (front ++ rest)
    ≡ part_from place caller front ++ part_from (place + length front) caller rest
part_from-append place caller [] rest = let same : place ≡ place + 0 = omega arith in ap (λ p. part_from p caller rest) same
part_from-append place caller (r ∷ rs) rest =
    let same : place + 1 + length rs ≡ place + suc (length rs) = omega arith in
    part_step (eqb r.caller caller) (place, r) (part_from (place + 1) caller (rs ++ rest))
    (part_from (place + 1) caller rs) (part_from (place + suc (length rs)) caller rest)
    (part_from-append (place + 1) caller rs rest ∙ ap (λ p. part_from (place + 1) caller rs ++ part_from p caller rest) same)

own_part : (history : List Recorded) (r : Recorded)
    → part_of r.caller (history ++ r ∷ []) ≡ part_of r.caller history ++ (length history, r) ∷ []
own_part history r =
    let start : 0 + length history ≡ length history = omega arith in
    let here : part_from (0 + length history) r.caller (r ∷ []) ≡ (length history, r) ∷ [] = rw (eqb_same r.caller, start) refl in
    part_from-append 0 r.caller history (r ∷ []) ∙ ap (λ rest. part_of r.caller history ++ rest) here

other_part : (history : List Recorded) (r : Recorded) (caller : ℕ) → caller ≢ r.caller
    → part_of caller (history ++ r ∷ []) ≡ part_of caller history
other_part history r caller other =
    let apart : eqb r.caller caller ≡ false = grind (arith, nat_tests) in
    let here : part_from (0 + length history) caller (r ∷ []) ≡ [] = rw apart refl in
    part_from-append 0 caller history (r ∷ []) ∙ ap (λ rest. part_of caller history ++ rest) here ∙ append-nil (part_of caller history)

pub grows : (graph : List Node) (history : List Recorded) (r : Recorded) → GrowsBy graph history r
grows graph history r = record {
  legal = (
    λ h. let both = legal_front graph history (r ∷ []) h in
        (both.0, both.1.0),
    λ both. legal_append graph history (r ∷ []) both.0 (both.1, tt),
  );
  ends = last_graph-append graph history (r ∷ []);
  own_part = own_part history r;
  other_parts = other_part history r;
}

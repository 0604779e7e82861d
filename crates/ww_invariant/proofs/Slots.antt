-- The slots of a table as it is made, and as they are taken once it is closed.
use Rattle.std.proofs.Common.{◌≡◌, ℕ, zero, suc, ◌+◌, ◌<◌, ◌≤◌, Bool, false, List, [], ◌∷◌, ◌++◌, length, set, get_or, sym, refl, ap, ◌∙◌, arith, length-append, get_or-set_other}
use mathlib.Core.Logic.{dite}
use mathlib.Core.Option.{some, some-injective}
use native.Mathlib.Decide.{ℕ_discrete}
use lib.ListN.{get_elem?}
use Rattle.atomic_table.proofs.Lists.{at_last, at_longer}
use Rattle.ww_plain.specs.declared.node.Node.{Node}
use Rattle.ww_plain.specs.Graph.{node_at}
use Rattle.ww_invariant.specs.declared.cells.Cell.{Cell}
use Rattle.ww_invariant.specs.declared.cells.Cell.TheVariants.{Content, Line}
use Rattle.ww_invariant.specs.Homes.{AreSlots, AreTakenBelow}

pub slots_more : (graph : List Node) (n : ℕ) (slots : List Cell) (x : Cell) → AreSlots graph n slots
    → (n < length graph → x ≡ Content (node_at graph n)) → (length graph ≤ n → x ≡ Line [])
    → AreSlots graph (n + 1) (slots ++ x ∷ [])
slots_more graph n slots x are node list = record {
  many = let l = length-append slots (x ∷ []) in let m = are.many in omega arith;
  nodes = λ k low small. dite (ℕ_discrete k n)
      (λ e. ap (get_elem? (slots ++ x ∷ [])) e ∙ at_last slots x n are.many
      ∙ ap some (node (let s = small in omega arith))
      ∙ ap (λ (j : ℕ). some (Content (node_at graph j))) (sym e))
      (λ ne. at_longer slots (x ∷ []) k (Content (node_at graph k)) (are.nodes k (omega arith) small));
  lists = λ k low big. dite (ℕ_discrete k n)
      (λ e. ap (get_elem? (slots ++ x ∷ [])) e ∙ at_last slots x n are.many ∙ ap some (list (let s = big in omega arith)))
      (λ ne. at_longer slots (x ∷ []) k (Line []) (are.lists k (omega arith) big));
}

pub take_on : (taken count : ℕ) (filled : List Bool) → AreTakenBelow taken count filled
    → AreTakenBelow (taken + 1) count (set filled taken false)
take_on taken count filled are = record {
  there = λ k low small. get_or-set_other filled taken k false false (λ e. omega arith) ∙ are.there k (omega arith) small;
  gone = λ k low. dite (ℕ_discrete k taken)
      (λ e. ap (λ (i : ℕ). get_or (set filled taken false) i false) e ∙ set_false filled taken)
      (λ ne. get_or-set_other filled taken k false false ne ∙ are.gone k (omega arith));
}
  where
    set_false : (fs : List Bool) (i : ℕ) → get_or (set fs i false) i false ≡ false
    set_false [] i = refl
    set_false (f ∷ fs) zero = refl
    set_false (f ∷ fs) (suc i) = set_false fs i

-- the nodes of the slots below n are these
abbrev pub AreNodesBelow : List Cell → ℕ → List Node → Type 0
AreNodesBelow slots n nodes = (k : ℕ) (x : Node) → k < n → get_elem? slots k ≡ some (Content x) → get_elem? nodes k ≡ some x

pub node_more : (nodes : List Node) (slots : List Cell) (n : ℕ) (node : Node) → length nodes ≡ n
    → get_elem? slots n ≡ some (Content node) → AreNodesBelow slots n nodes → AreNodesBelow slots (n + 1) (nodes ++ node ∷ [])
node_more nodes slots n node long here are = λ k x low e. dite (ℕ_discrete k n)
    (λ is. ap (get_elem? (nodes ++ node ∷ [])) is ∙ at_last nodes node n long
    ∙ ap some (let z : some (Content node) ≡ some (Content x) = sym here ∙ sym (ap (get_elem? slots) is) ∙ e in
    let y : Content node ≡ Content x = some-injective _ _ z in let w : node ≡ x = cc in w))
    (λ isnt. at_longer nodes (node ∷ []) k x (are k x (omega arith) e))

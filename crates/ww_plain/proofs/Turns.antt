-- Turning a walk node by node.
use Rattle.std.proofs.Common.{◌≡◌, ℕ, ◌+◌, ◌<◌, List, [], ◌∷◌, ◌++◌, length, take, drop, get_or, Option, Some, refl, ap, ◌∙◌, add-one, drop-cons}
use Rattle.std.proofs.lemmas.List.{take_more}
use Rattle.ww_plain.specs.declared.node.Node.{Node}
use Rattle.ww_plain.specs.Graph.{with_port}
use Rattle.ww_plain.specs.Walk.{last_of}
use Rattle.ww_plain.specs.Meaning.{turned}
use Rattle.ww_plain.proofs.Fronts.{last_from-push}

-- the node at i is turned, and then those behind it
pub turned_more : (graph : List Node) (p : ℕ) (before : Option ℕ) (walk : List ℕ) (i : ℕ) → i < length walk
    → turned graph p before (drop i walk)
    ≡ turned (with_port graph (get_or walk i 0) p before) p (Some (get_or walk i 0)) (drop (i + 1) walk)
turned_more graph p before walk i lt = rw (add-one, drop-cons walk i 0) refl

last_of-push : (vs : List ℕ) (v : ℕ) → last_of (vs ++ v ∷ []) ≡ v
last_of-push [] v = refl
last_of-push (w ∷ ws) v = last_from-push w ws v

pub last_more : (walk : List ℕ) (i : ℕ) → i < length walk → last_of (take (i + 1) walk) ≡ get_or walk i 0
last_more walk i lt = ap last_of (take_more walk i 0 lt) ∙ last_of-push (take i walk) (get_or walk i 0)

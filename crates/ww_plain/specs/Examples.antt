-- Small transactions and histories, and what the definitions say of each: closed statements, which compare the definitions
-- with the rules.
use Rattle.std.specs.Prelude.{ℕ, ◌≡◌, List, [], ◌∷◌, Option, Some, None}
use Rattle.ww_plain.specs.declared.node.Node.{Node}
use Rattle.ww_plain.specs.declared.transaction.By.{By}
use Rattle.ww_plain.specs.Graph.{value_of}
use Rattle.ww_plain.specs.Transaction.{add, link, sum, reverse, Fits}
use Rattle.ww_plain.specs.Footprint.{footprint_of}
use Rattle.ww_plain.specs.Meaning.{Answer, done, short}
use Rattle.ww_plain.specs.History.{Recorded, IsLegal, last_graph}

-- a node of this value, whose port 0 leads to this target
abbrev pub node : ℕ → Option ℕ → Node
node value target = record { value = value; ports = target ∷ [] }

-- node 0 leads to node 1, and that to node 2
abbrev pub line : List Node
line = node 0 (Some 1) ∷ node 0 (Some 2) ∷ node 0 None ∷ []

abbrev pub one : List Node
one = node 0 None ∷ []

-- a footprint has the stop of a walk, and no node twice
abbrev pub FootprintsAre : By → Type 0
FootprintsAre by =
    (footprint_of line (sum 0 0 1) ≡ 0 ∷ 1 ∷ []) ×
    (footprint_of line (link 2 3 (Some 2)) ≡ 2 ∷ []) ×
    (footprint_of line (add by ((0, 1) ∷ (1, 1) ∷ (1, 1) ∷ (0, 1) ∷ [])) ≡ 0 ∷ 1 ∷ [])

-- what names nothing doesn't fit
abbrev pub NothingFits : By → Type 0
NothingFits by =
    (¬ Fits 0 (sum 0 0 1)) ×
    (¬ Fits 3 (reverse 0 8 1)) ×
    (¬ Fits 3 (reverse 0 0 65)) ×
    (¬ Fits 3 (add by []))

-- one record, of an add
abbrev pub adds : By → List (ℕ × ℕ) → Answer → List Recorded
adds by pairs answer = record { caller = 0; seq = 0; transaction = add by pairs; answer = answer } ∷ []

-- a record whose answer is another, that doesn't fit, or that names a node twice is not legal
abbrev pub OneIsLegal : By → Type 0
OneIsLegal by =
    IsLegal one (adds by ((0, 1) ∷ []) done) ×
    (value_of (last_graph one (adds by ((0, 1) ∷ []) done)) 0 ≡ 1) ×
    (¬ IsLegal one (adds by ((0, 1) ∷ []) short)) ×
    (¬ IsLegal one (adds by ((1, 1) ∷ []) done)) ×
    (¬ IsLegal one (adds by ((0, 1) ∷ (0, 1) ∷ []) done))

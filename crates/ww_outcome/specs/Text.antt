-- The lines of an outcome.
use Rattle.std.specs.Prelude.{ℕ, List, [], ◌++◌, take, codes, decimal, true, false, Option, Some, None}
use Rattle.std.specs.List.{flat_map}
use Rattle.ww_plain.specs.declared.node.Node.{Node}
use Rattle.ww_plain.specs.Meaning.{Answer, values, done, moved, short, full, was, summed, ended}
use Rattle.ww_json.specs.Pieces.{spaced, spaced_or_dash, numbered}
use Rattle.ww_outcome.specs.Said.{Said, answered, already, interrupted, cancelling}
use Rattle.ww_outcome.specs.Outcome.{Told}

-- what a reply says
abbrev pub answer_text : Answer → List ℕ
answer_text (values vs) = codes "values" ++ flat_map spaced vs
answer_text done = codes "done"
answer_text moved = codes "moved"
answer_text short = codes "short"
answer_text full = codes "full"
answer_text (was target) = codes "was" ++ spaced_or_dash target
answer_text (summed count total) = codes "sum " ++ decimal count ++ codes " " ++ decimal total
answer_text (ended last) = codes "end " ++ decimal last

-- what an answer to an act of a script says
abbrev pub said_text : Said → List ℕ
said_text (answered answer) = answer_text answer
said_text (already node) = codes "already " ++ decimal node
said_text (interrupted script) = codes "interrupted " ++ decimal script
said_text (cancelling true) = codes "cancelled"
said_text (cancelling false) = codes "pending"

-- what an act of a script was told
unfoldable pub reply_line : ℕ → ℕ → Said → List ℕ
reply_line script index said =
    codes "reply " ++ decimal script ++ codes " " ++ decimal index ++ codes " " ++ said_text said ++ codes "\n"

-- the lines of a script
unfoldable pub script_lines : ℕ → List Said → List ℕ
script_lines script saids = numbered (reply_line script) 0 saids

-- whose a place is, and which of that script's
unfoldable pub place_line : ℕ → ℕ × ℕ → List ℕ
place_line place p = codes "at " ++ decimal place ++ codes " " ++ decimal p.0 ++ codes " " ++ decimal p.1 ++ codes "\n"

-- the lines of the places, if they are told
abbrev pub place_lines : Option (List (ℕ × ℕ)) → List ℕ
place_lines None = []
place_lines (Some places) = numbered place_line 0 places

-- a node with its value and so many of its ports
abbrev pub node_text : ℕ → ℕ → Node → List ℕ
node_text ports index node =
    codes "node " ++ decimal index ++ codes " " ++ decimal node.value ++
    flat_map spaced_or_dash (take ports node.ports)

-- the line of a node
unfoldable pub node_line : ℕ → ℕ → Node → List ℕ
node_line ports index node = node_text ports index node ++ codes "\n"

-- the answers, the places if they are told, and the graph
unfoldable pub outcome_lines : Told → List ℕ
outcome_lines told =
    numbered script_lines 0 told.replies ++ place_lines told.places ++ numbered (node_line told.ports) 0 told.graph

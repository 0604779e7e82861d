-- How an input says scripts.
use Rattle.std.specs.Prelude.{ℕ, ◌==◌, List, [], ◌∷◌, map, take, codes, Option, Some, None, if◌then◌else◌}
use Rattle.serde_json.specs.Data.{Data, null, boolean, string, object, no_members, member}
use Rattle.ww_plain.specs.declared.node.Node.{Node}
use Rattle.ww_plain.specs.declared.transaction.By.{By}
use Rattle.ww_plain.specs.declared.transaction.By.TheVariants as by
use Rattle.ww_plain.specs.Transaction.{Transaction, get, add, move, link, sum, reverse, peek}
use Rattle.ww_json.specs.Spelling.{list, whole, kind_word}
use Rattle.ww_script_parts.specs.Acts.{Action, does, interruptible, cancels}
use Rattle.ww_script_parts.specs.declared.version.Version.TheVariants.{One, Two}
use Rattle.ww_script_parts.specs.Versions.{ports_of, number_of_version}
use Rattle.ww_script_parts.specs.Scripts.{Plan}

-- the word for a way of taking many locks
abbrev pub by_word : By → List ℕ
by_word by.List = codes "list"
by_word by.Order = codes "order"

-- a node, or none
abbrev pub target_data : Option ℕ → Data
target_data None = null
target_data (Some target) = whole target

-- a node of so many ports, with its keys in order
abbrev pub node_data : ℕ → Node → Data
node_data ports node =
    object (member (codes "ports") (list (map target_data (take ports node.ports)))
    (member (codes "value") (whole node.value) no_members))

-- a node and an amount
abbrev pub pair_data : ℕ × ℕ → Data
pair_data pair = list (whole pair.0 ∷ whole pair.1 ∷ [])

-- a word, and then where a walk starts, along which port it leads, and its greatest length
abbrev pub course_data : List ℕ → ℕ → ℕ → ℕ → Data
course_data word start port length = list (string word ∷ whole start ∷ whole port ∷ whole length ∷ [])

-- a transaction, with its word first
abbrev pub transaction_data : Transaction → Data
transaction_data (get by nodes) = list (string (codes "get") ∷ string (by_word by) ∷ list (map whole nodes) ∷ [])
transaction_data (add by pairs) = list (string (codes "add") ∷ string (by_word by) ∷ list (map pair_data pairs) ∷ [])
transaction_data (move from to amount) = list (string (codes "move") ∷ whole from ∷ whole to ∷ whole amount ∷ [])
transaction_data (link node port target) =
    list (string (codes "link") ∷ whole node ∷ whole port ∷ target_data target ∷ [])
transaction_data (sum start port length) = course_data (codes "sum") start port length
transaction_data (reverse start port length) = course_data (codes "reverse") start port length
transaction_data (peek node) = list (string (codes "peek") ∷ whole node ∷ [])

-- an act, with its word first
abbrev pub act_data : Action → Data
act_data (does txn) = transaction_data txn
act_data (interruptible txn) = list (string (codes "interruptible") ∷ transaction_data txn ∷ [])
act_data (cancels script) = list (string (codes "cancel") ∷ whole script ∷ [])

-- a script
abbrev pub script_data : List Action → Data
script_data script = list (map act_data script)

-- the number of the version whose nodes have so many ports
abbrev pub version_number : ℕ → ℕ
version_number ports = number_of_version (if ports == ports_of One then One else Two)

-- the value of an input of scripts, with the keys in the order in which an object holds them
abbrev pub plan_data : Plan → Data
plan_data plan =
    object (member (codes "history") (boolean plan.history)
    (member (codes "kind") (string (kind_word plan.kind))
    (member (codes "nodes") (list (map (node_data plan.ports) plan.graph))
    (member (codes "scripts") (list (map script_data plan.scripts))
    (member (codes "version") (whole (version_number plan.ports)) no_members)))))

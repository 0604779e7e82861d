-- How an input says the values that scripts and schedules share.
use Rattle.std.specs.Prelude.{ℕ, List, codes}
use Rattle.serde_json.specs.Data.{Data, number, array, unsigned}
use Rattle.serde_json.specs.View.{items_of}
use Rattle.ww_queue.specs.declared.kind.Kind.{Kind}
use Rattle.ww_queue.specs.declared.kind.Kind.TheVariants.{WoundWait, WaitDie}

-- an array of these values
abbrev pub list : List Data → Data
list ds = array (items_of ds)

-- a whole number
abbrev pub whole : ℕ → Data
whole n = number (unsigned n)

-- the word for a kind
abbrev pub kind_word : Kind → List ℕ
kind_word WoundWait = codes "wound-wait"
kind_word WaitDie = codes "wait-die"

-- Histories of transactions, and which of them are legal.
use Rattle.std.specs.Prelude.{ℕ, ◌≡◌, ◌+◌, ◌==◌, ◌∷◌, [], List, length, map, if◌then◌else◌}
use Rattle.ww_plain.specs.declared.node.Node.{Node}
use Rattle.ww_plain.specs.declared.history.Record.{Record}
use Rattle.ww_plain.specs.Transaction.{Transaction, transaction_of, Fits, HasNoDouble}
use Rattle.ww_plain.specs.Meaning.{Answer, answer_of, answer_to, graph_after}

-- a `Record`, with lists where that has vectors
pub record Recorded : Type 0 where
  pub caller : ℕ
  pub seq : ℕ
  pub transaction : Transaction
  pub answer : Answer

abbrev pub recorded_of : Record → Recorded
recorded_of r =
    record { caller = r.caller; seq = r.seq; transaction = transaction_of r.txn; answer = answer_of r.reply }

-- the history that the records make
abbrev pub history_of : List Record → List Recorded
history_of records = map recorded_of records

-- the record may come next at this graph
pub record IsNext (graph : List Node) (r : Recorded) : Type 0 where
  pub fits : Fits (length graph) r.transaction
  pub no_double : HasNoDouble r.transaction
  pub answered : answer_to graph r.transaction ≡ r.answer

-- the graph after the history
abbrev pub last_graph : List Node → List Recorded → List Node
last_graph graph [] = graph
last_graph graph (r ∷ rs) = last_graph (graph_after graph r.transaction) rs

-- each record is answered as the plain graph of its point answers
abbrev pub IsLegal : List Node → List Recorded → Type 0
IsLegal graph [] = Unit {0}
IsLegal graph (r ∷ rs) = IsNext graph r × IsLegal (graph_after graph r.transaction) rs

-- a caller's records with their places, in order, of a history whose first place is given
abbrev pub part_from : ℕ → ℕ → List Recorded → List (ℕ × Recorded)
part_from place caller [] = []
part_from place caller (r ∷ rs) =
    if r.caller == caller then (place, r) ∷ part_from (place + 1) caller rs else part_from (place + 1) caller rs

-- the part of a caller in a history
abbrev pub part_of : ℕ → List Recorded → List (ℕ × Recorded)
part_of caller history = part_from 0 caller history

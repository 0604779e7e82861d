-- What a transaction answers, and the graph after it.
use Rattle.std.specs.Prelude.{ℕ, ◌+◌, ◌-◌, ◌%◌, ◌^◌, ◌∷◌, [], List, Option, Some, length, fold, map, sum_by, nat_lt, if◌then◌else◌}
use Rattle.ww_plain.specs.declared.node.Node.{Node}
use Rattle.ww_plain.specs.declared.reply.Reply.{Reply}
use Rattle.ww_plain.specs.declared.reply.Reply.TheVariants.{Values, Done, Moved, Short, Full, Was, Sum, End}
use Rattle.ww_plain.specs.Graph.{value_of, port_of, with_value, with_port}
use Rattle.ww_plain.specs.Transaction.{Transaction, get, add, move, link, sum, reverse, peek}
use Rattle.ww_plain.specs.Walk.{walk_of, stop_of, last_of}

-- a `Reply`, with a list where that has a vector
pub data Answer : Type 0 where
  values : List ℕ → Answer
  done : Answer
  moved : Answer
  short : Answer
  full : Answer
  was : Option ℕ → Answer
  summed : ℕ → ℕ → Answer
  ended : ℕ → Answer

abbrev pub answer_of : Reply → Answer
answer_of (Values vs) = values vs.items
answer_of Done = done
answer_of Moved = moved
answer_of Short = short
answer_of Full = full
answer_of (Was target) = was target
answer_of (Sum count total) = summed count total
answer_of (End last) = ended last

-- the graph with the amount added to the node, wrapping at 2^64
abbrev pub raised : List Node → ℕ × ℕ → List Node
raised graph pair = with_value graph pair.0 ((value_of graph pair.0 + pair.1) % 2 ^ 64)

-- the amount goes from one node to another, if the one has it and the other has room for it
abbrev pub moving : List Node → ℕ → ℕ → ℕ → Answer × List Node
moving graph from to amount =
    if nat_lt (value_of graph from) amount then (short, graph)
    else if nat_lt (2 ^ 64 - 1) (value_of graph to + amount) then (full, graph)
    else (moved, with_value (with_value graph from (value_of graph from - amount)) to (value_of graph to + amount))

-- port p of each of the nodes leads to the node before it, that of the first one to `before`
abbrev pub turned : List Node → ℕ → Option ℕ → List ℕ → List Node
turned graph p before [] = graph
turned graph p before (v ∷ vs) = turned (with_port graph v p before) p (Some v) vs

-- the walk's nodes are turned, the first to its stop
abbrev pub turning : List Node → ℕ → List ℕ → Answer × List Node
turning graph p vs = (ended (last_of vs), turned graph p (stop_of graph p vs) vs)

-- how many nodes a walk has, and the sum of their values
abbrev pub summing : List Node → List ℕ → Answer
summing graph vs = summed (length vs) (sum_by (value_of graph) vs)

-- the answer to a transaction, and the graph after it
abbrev pub meaning : List Node → Transaction → Answer × List Node
meaning graph (get by nodes) = (values (map (value_of graph) nodes), graph)
meaning graph (add by amounts) = (done, fold raised graph amounts)
meaning graph (move from to amount) = moving graph from to amount
meaning graph (link node port target) = (was (port_of graph node port), with_port graph node port target)
meaning graph (sum start port length) = (summing graph (walk_of graph start port length), graph)
meaning graph (reverse start port length) = turning graph port (walk_of graph start port length)
meaning graph (peek node) = (values (value_of graph node ∷ []), graph)

abbrev pub answer_to : List Node → Transaction → Answer
answer_to graph txn = (meaning graph txn).0

abbrev pub graph_after : List Node → Transaction → List Node
graph_after graph txn = (meaning graph txn).1

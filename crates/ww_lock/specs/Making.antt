-- What preparing a transaction makes, and what its commit needs.
use Rattle.std.specs.Prelude.{◌≡◌, ◌≤◌, length, IsTrue}
use Rattle.ww_plain.specs.Numbers.{is_among}
use Rattle.ww_plain.specs.Graph.{node_at}
use Rattle.ww_plain.specs.Footprint.{footprint_of}
use Rattle.ww_plain.specs.Transaction.{Transaction}
use Rattle.ww_plain.specs.Meaning.{answer_of, answer_to, graph_after}
use Rattle.ww_plain.specs.History.{recorded_of, IsNext}
use Rattle.ww_seat.specs.declared.committing.NodeChange.{NodeChange}
use Rattle.ww_seat.specs.Commits.{changes_of}
use Rattle.ww_lock.specs.declared.prepared.Prepared.TheInside.{Inside}
use Rattle.ww_lock.specs.Holding.{Holding, Change, Holds, SameAt}

-- the reply is the record's answer, the record may come next at the graph that it was prepared on, which has so many
-- nodes, and the changes are those of its footprint there
pub record IsPrepared (p : Inside) : Type 0 where
  pub reply : answer_of p.reply ≡ (recorded_of p.record).answer
  pub next : IsNext p.before.value (recorded_of p.record)
  pub size : p.size ≡ length p.before.value
  pub changes : p.changes.items ≡ changes_of p.before.value (recorded_of p.record).transaction

-- the state holds all that the transaction depends on and may change: its footprint in the nodes as they were seen
abbrev pub Covers : Holding → Transaction → Type 0
Covers s txn = Holds s (footprint_of s.seen txn)

-- the state holds the transaction's footprint with the contents that the change was made from, and has room for its
-- record
pub record IsChangeMade (s : Holding) (p : Change) : Type 0 where
  pub sizes : length p.before ≡ length s.seen
  pub holds : Holds s (footprint_of p.before p.transaction)
  pub contents : SameAt p.before s.seen (footprint_of p.before p.transaction)
  pub room : 1 ≤ s.room

-- it holds this node, as it was before the change
abbrev pub HoldsUnchanged : Holding → NodeChange → Type 0
HoldsUnchanged s c = IsTrue (is_among c.number s.held) × (node_at s.seen c.number ≡ c.before)

-- what preparing this transaction gives: its answer is that of the nodes as they were seen, and they become the new
-- nodes
pub record IsMadeOf (s : Holding) (p : Change) (txn : Transaction) : Type 0 where
  pub made : IsChangeMade s p
  pub transaction : p.transaction ≡ txn
  pub answer : p.answer ≡ answer_to s.seen txn
  pub leads : p.after ≡ graph_after p.before txn

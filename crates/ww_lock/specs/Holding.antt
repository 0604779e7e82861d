-- What a contract sees of a pass, and of each state that it becomes.
use Rattle.std.specs.Prelude.{ℕ, ◌≡◌, ◌<◌, ◌≤◌, List, length, map, Option, Some, None, IsTrue, if◌then◌else◌}
use Rattle.std.specs.List.{AllByRecursion}
use Rattle.atomic_table.specs.Seated.{TableId}
use Rattle.ww_queue.specs.declared.kind.Kind.{Kind}
use Rattle.ww_plain.specs.declared.node.Node.{Node}
use Rattle.ww_plain.specs.Numbers.{is_among, AreDifferent}
use Rattle.ww_plain.specs.Graph.{node_at}
use Rattle.ww_plain.specs.Transaction.{Transaction}
use Rattle.ww_plain.specs.Meaning.{Answer}
use Rattle.ww_plain.specs.History.{Recorded}

-- which world a pass is of: its table, and the parkers that its passes sleep on, in their order. A parker is told from
-- others by the table that has its token.
pub record Home : Type 0 where
  pub table : TableId
  pub parkers : List TableId

-- Its world and its number there; how many contexts and solos it may still start; how many contexts it has begun, for
-- each of which it drew a stamp; its stamp, 0 without a context; its log: all its commits with their places,
-- oldest first, with room for so many more; the nodes that it holds, in the order in which it took them; the graph as
-- it has seen it, of which the nodes held are as they were when they were locked; how often it tried to take a lock at
-- once, by one step that a free lock allows, how often it took a lock, and how often it had to back off; how often it left
-- a guard to sleep without having looked there whether its wait was cancelled; the callers
-- whose wait it cancelled, the last one first, and how often it found a cancel pending where it would set one; and each
-- time that its own wait was cancelled, the last one first: for which node, and by which caller.
pub record Holding : Type 0 where
  pub home : Home
  pub caller : ℕ
  pub left : ℕ
  pub draws : ℕ
  pub stamp : ℕ
  pub own : List (ℕ × Recorded)
  pub room : ℕ
  pub held : List ℕ
  pub seen : List Node
  pub tries : ℕ
  pub takes : ℕ
  pub deaths : ℕ
  pub deaf : ℕ
  pub cancelled : List ℕ
  pub pendings : ℕ
  pub interrupted : List (ℕ × ℕ)

-- a context that gets EDEADLK: the lock that it couldn't get, and the stamp of the older context that it met
pub record Refused : Type 0 where
  pub holding : Holding
  pub contended : ℕ
  pub met : ℕ

-- a context that has released all locks, and wants this one
pub record Wanting : Type 0 where
  pub holding : Holding
  pub contended : ℕ

-- a transaction that was prepared, its answer, and the graphs that it was made from and leads to
pub record Change : Type 0 where
  pub transaction : Transaction
  pub answer : Answer
  pub before : List Node
  pub after : List Node

-- a world: its table, its kind, the graph that it was opened with, and how many passes it gave
pub record Setting : Type 0 where
  pub home : Home
  pub kind : Kind
  pub first : List Node
  pub passes : ℕ

-- the state came from a pass of this world
pub record IsAtHome (s : Holding) (w : Setting) : Type 0 where
  pub home : s.home ≡ w.home
  pub size : length s.seen ≡ length w.first
  pub number : s.caller < w.passes

-- each of these passes came from this world
abbrev pub AreAtHome : List Holding → Setting → Type 0
AreAtHome passes w = AllByRecursion (λ s. IsAtHome s w) passes

-- the callers by whom it was interrupted
abbrev pub by_of : List (ℕ × ℕ) → List ℕ
by_of interruptions = map (λ p. p.1) interruptions

-- what it reads at a node: nothing where it doesn't hold that
abbrev pub reads : Holding → ℕ → Option Node
reads s n = if is_among n s.held then Some (node_at s.seen n) else None

-- the graphs have the same nodes at these numbers
abbrev pub SameAt : List Node → List Node → List ℕ → Type 0
SameAt graph other ns = AllByRecursion (λ n. node_at graph n ≡ node_at other n) ns

-- it holds all of these nodes
abbrev pub Holds : Holding → List ℕ → Type 0
Holds s ns = AllByRecursion (λ n. IsTrue (is_among n s.held)) ns

-- each node that is held is one of the graph, and is held once
pub record AreHeld (held : List ℕ) (seen : List Node) : Type 0 where
  pub there : AllByRecursion (λ n. n < length seen) held
  pub once : AreDifferent held
  pub few : length seen ≤ 64

-- all places of the log are below this one
abbrev pub AreBelow : ℕ → List (ℕ × Recorded) → Type 0
AreBelow place own = AllByRecursion (λ p. p.0 < place) own

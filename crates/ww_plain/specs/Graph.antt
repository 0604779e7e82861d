-- A plain graph is a list of nodes, each known by its position.
use Rattle.std.specs.Prelude.{ℕ, ◌≡◌, ◌≤◌, ◌<◌, ◌⊎◌, List, [], length, drop, Option, None, IfSome, IsTrue, slice_set, slice_index_or}
use Rattle.std.specs.List.{AllByRecursion}
use Rattle.ww_plain.specs.declared.node.Node.{Node}
use Rattle.ww_plain.specs.declared.node.TheConstants.{PORTS}
use Rattle.ww_plain.specs.declared.graph.TheConstants.{MAX_NODES}
use Rattle.ww_plain.specs.declared.graph.GraphFault.{GraphFault}
use Rattle.ww_plain.specs.declared.graph.GraphFault.TheVariants.{BadSize, BadGraph}
use Rattle.ww_plain.specs.Numbers.{is_among}

-- what is read where no node is
abbrev pub no_node : Node
no_node = record { value = 0; ports = [] }

abbrev pub node_at : List Node → ℕ → Node
node_at graph n = slice_index_or graph n no_node

abbrev pub value_of : List Node → ℕ → ℕ
value_of graph n = (node_at graph n).value

-- the node that port p of node n names
abbrev pub port_of : List Node → ℕ → ℕ → Option ℕ
port_of graph n p = slice_index_or (node_at graph n).ports p None

-- the graph with another value in node n
abbrev pub with_value : List Node → ℕ → ℕ → List Node
with_value graph n value = slice_set graph n (record (node_at graph n) { value = value })

-- the graph with another target of port p of node n
abbrev pub with_port : List Node → ℕ → ℕ → Option ℕ → List Node
with_port graph n p target =
    slice_set graph n (record (node_at graph n) { ports = slice_set (node_at graph n).ports p target })

-- each port of the node names one of so many nodes, or none
abbrev pub IsNodeOf : ℕ → Node → Type 0
IsNodeOf size node = AllByRecursion (λ port. IfSome port (λ target. target < size)) node.ports

-- the node has all its ports, as the type of a `Node` says
abbrev pub HasAllPorts : Node → Type 0
HasAllPorts node = length node.ports ≡ PORTS

-- the node has all its ports, of which those from this number on are empty
abbrev pub IsEmptyFrom : ℕ → Node → Type 0
IsEmptyFrom used node = HasAllPorts node × AllByRecursion (λ port. port ≡ None) (drop used node.ports)

-- each node is so
abbrev pub AreEmptyFrom : ℕ → List Node → Type 0
AreEmptyFrom used graph = AllByRecursion (IsEmptyFrom used) graph

-- 1 to 64 nodes, of which each port names one that is there
pub record IsGraph (graph : List Node) : Type 0 where
  pub some : 1 ≤ length graph
  pub few : length graph ≤ MAX_NODES
  pub closed : AllByRecursion (IsNodeOf (length graph)) graph

-- why nodes are no graph: first their number is looked at, then where their ports lead
abbrev pub IsNoGraph : List Node → GraphFault → Type 0
IsNoGraph nodes BadSize = (length nodes < 1) ⊎ (MAX_NODES < length nodes)
IsNoGraph nodes BadGraph =
    (1 ≤ length nodes) × (length nodes ≤ MAX_NODES) × ¬ AllByRecursion (IsNodeOf (length nodes)) nodes

-- the number of a fault
abbrev pub graph_fault_number : GraphFault → ℕ
graph_fault_number BadSize = 1
graph_fault_number BadGraph = 2

-- the two graphs have the same nodes at these positions
abbrev pub Agree : List Node → List Node → List ℕ → Type 0
Agree graph other ns = (n : ℕ) → IsTrue (is_among n ns) → node_at graph n ≡ node_at other n

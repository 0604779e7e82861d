-- Scripts, what they keep to, and how an input writes them.
use Rattle.std.specs.Prelude.{ℕ, ◌-◌, ◌≤◌, List, ◌++◌, length, map, replicate, codes, nat_lt, Bool, Option, Some, None, is_some, Result, Ok, Err, if◌then◌else◌}
use Rattle.std.specs.List.{AllByRecursion}
use Rattle.std.specs.Global.{Vec}
use Rattle.serde_json.specs.Data.{Data}
use Rattle.serde_json.specs.Find.{as_null}
use Rattle.ww_plain.specs.declared.node.Node.{Node}
use Rattle.ww_plain.specs.declared.node.TheConstants.{PORTS}
use Rattle.ww_plain.specs.declared.graph.TheConstants.{MAX_NODES}
use Rattle.ww_plain.specs.Graph.{AreEmptyFrom, IsGraph}
use Rattle.ww_queue.specs.declared.kind.Kind.{Kind}
use Rattle.ww_json.specs.declared.fault.InputFault.{InputFault}
use Rattle.ww_json.specs.declared.fault.InputFault.TheVariants.{BadGraph}
use Rattle.ww_json.specs.Parts.{◌>>=◌, size, member, only, boolean, number, below, counted, each}
use Rattle.ww_json.specs.Kinds.{kind_in}
use Rattle.ww_script_parts.specs.declared.acts.Act.{Act}
use Rattle.ww_script_parts.specs.declared.ranges.Ranges.{Ranges}
use Rattle.ww_script_parts.specs.declared.version.Version.{Version}
use Rattle.ww_script_parts.specs.Versions.{ports_of, ArePorts}
use Rattle.ww_script_parts.specs.Acts.{Action, deed_of, IsActWithin, act_in}

-- `Scripts`, with lists where they have vectors
pub record Plan : Type 0 where
  pub kind : Kind
  pub history : Bool
  pub ports : ℕ
  pub graph : List Node
  pub scripts : List (List Action)

-- the scripts as lists
abbrev pub script_lists : Vec (Vec Act) → List (List Action)
script_lists scripts = map (λ script. map deed_of script.items) scripts.items

-- the plan of these fields of `Scripts`
abbrev pub plan_of : Kind → Bool → ℕ → List Node → Vec (Vec Act) → Plan
plan_of kind history ports graph scripts =
    record { kind = kind; history = history; ports = ports; graph = graph; scripts = script_lists scripts }

-- a script of at most 10,000 acts in range
pub record IsScript (ranges : Ranges) (script : List Action) : Type 0 where
  pub few : length script ≤ 10000
  pub suit : AllByRecursion (IsActWithin ranges) script

-- so many nodes, ports of a node and scripts
abbrev pub ranges_of : ℕ → ℕ → ℕ → Ranges
ranges_of nodes ports scripts = record { nodes = nodes; ports = ports; scripts = scripts }

-- 1 to 16 scripts on a graph, whose nodes use no more ports than the version has
pub record IsPlan (plan : Plan) : Type 0 where
  pub version : ArePorts plan.ports
  pub graph : IsGraph plan.graph
  pub unused : AreEmptyFrom plan.ports plan.graph
  pub some : 1 ≤ length plan.scripts
  pub few : length plan.scripts ≤ 16
  pub each : AllByRecursion (IsScript (ranges_of (length plan.graph) plan.ports (length plan.scripts))) plan.scripts

-- null, or one of so many nodes
unfoldable pub port_in : ℕ → Data → Result (Option ℕ) InputFault
port_in size d =
    if is_some (as_null d) then Ok None
    else (below MAX_NODES d >>= λ n. if nat_lt n size then Ok (Some n) else Err BadGraph)

-- the first ports of a node, of which the others are empty
abbrev pub first_ports : Result (List (Option ℕ)) InputFault → Result (List (Option ℕ)) InputFault
first_ports read = read >>= λ ps. Ok (ps ++ replicate (PORTS - length ps) None)

-- an array of as many ports as a node of this version has
unfoldable pub ports_in : Version → ℕ → Data → Result (List (Option ℕ)) InputFault
ports_in version size d = do
  ds ← counted (ports_of version) (ports_of version) d
  first_ports (each (port_in size) ds)

-- an object of two members, value and ports
unfoldable pub node_in : Version → ℕ → Data → Result Node InputFault
node_in version count d = do
  members ← size d
  value ← member (codes "value") d
  ports ← member (codes "ports") d
  keys ← only 2 members
  n ← number value
  ps ← ports_in version count ports
  Ok (record { value = n; ports = ps })

-- an array of 1 to 64 nodes, of which each port names one
unfoldable pub graph_in : Version → Data → Result (List Node) InputFault
graph_in version d = do
  ds ← counted 1 MAX_NODES d
  each (node_in version (length ds)) ds

-- an array of at most 10,000 acts
unfoldable pub script_in : Ranges → Data → Result (List Action) InputFault
script_in ranges d = do
  ds ← counted 0 10000 d
  each (act_in ranges) ds

-- an array of 1 to 16 scripts, each of which may name any of them
unfoldable pub scripts_in : ℕ → ℕ → Data → Result (List (List Action)) InputFault
scripts_in nodes ports d = do
  ds ← counted 1 16 d
  each (script_in (ranges_of nodes ports (length ds))) ds

-- All of an input but its version: with it there are five keys. They are looked at first, and then the fields in turn.
unfoldable pub plan_in : Version → ℕ → Data → Result Plan InputFault
plan_in version members d = do
  kind ← member (codes "kind") d
  history ← member (codes "history") d
  nodes ← member (codes "nodes") d
  scripts ← member (codes "scripts") d
  keys ← only 5 members
  k ← kind_in kind
  h ← boolean history
  g ← graph_in version nodes
  ss ← scripts_in (length g) (ports_of version) scripts
  Ok (record { kind = k; history = h; ports = ports_of version; graph = g; scripts = ss })

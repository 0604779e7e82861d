-- What opening a world gives.
use Rattle.std.specs.Prelude.{ℕ, ◌≡◌, ◌≤◌, ◌<◌, ◌⊎◌, List, [], length, map, reverse, slice_index_or}
use Rattle.atomic_table.specs.Seated.{TableId}
use Rattle.ww_plain.specs.declared.node.Node.{Node}
use Rattle.std.specs.List.{AllByRecursion}
use Rattle.ww_invariant.specs.Rule.{first_graph}
use Rattle.ww_table.specs.declared.board.Board.{Board}
use Rattle.ww_seat.specs.declared.bell.Wire.{Wire}
use Rattle.ww_seat.specs.Bells.{heard, leads_to, sleeps_at}
use Rattle.ww_lock.specs.declared.world.OpenFault.{OpenFault}
use Rattle.ww_lock.specs.declared.world.Rest.{Rest}
use Rattle.ww_lock.specs.declared.world.OpenFault.TheVariants.{BadSize, NoMemory}
use Rattle.ww_lock.specs.Holding.{Home, Holding, Setting, AreAtHome}

-- the world with this board, to whose passes these wires lead
abbrev pub home_at : Board → List Wire → Home
home_at board wires = record { table = board.table.shared.table_id; parkers = map leads_to wires }

-- what contracts see of it
abbrev pub setting_of : Board → List Wire → Setting
setting_of board wires = record {
  home = home_at board wires;
  kind = board.table.shared.key.kind;
  first = first_graph board.table.shared.key;
  passes = length wires;
}

-- the pass of this number, which has done nothing yet
abbrev pub fresh : Home → List Node → ℕ → ℕ → ℕ → Holding
fresh home first budget caller room =
    record {
      home = home;
      caller = caller;
      left = budget;
      draws = 0;
      stamp = 0;
      own = [];
      room = room;
      held = [];
      seen = first;
      tries = 0;
      takes = 0;
      deaths = 0;
      deaf = 0;
      cancelled = [];
      pendings = 0;
      interrupted = [];
    }

-- so many passes, each with its number, that have done nothing yet
pub record AreFresh (all : List Holding) (first : List Node) (home : Home) (passes budget : ℕ) : Type 0 where
  pub count : length all ≡ passes
  pub each : (i : ℕ) (d : Holding) → i < length all → slice_index_or all i d ≡ fresh home first budget i (slice_index_or all i d).room

-- the parts of passes that sleep on these parkers, the last one first, each of which has seen this graph, and hasn't slept
-- yet
pub record AreRests (graph : List Node) (parkers : List TableId) (rests : List Rest) : Type 0 where
  pub parkers_are : reverse (map (λ r. sleeps_at r.patience) rests) ≡ parkers
  pub seen : AllByRecursion (λ r. r.seen ≡ graph) rests
  pub awake : AllByRecursion (λ r. heard r.patience ≡ 0) rests

-- 1 to 16 passes, each of which may do something
pub record IsWorldSize (passes budget : ℕ) : Type 0 where
  pub some : 1 ≤ passes
  pub few : passes ≤ 16
  pub budgeted : 1 ≤ budget

-- a world over this graph, and its passes, which are at home there
pub record IsOpened (w : Setting) (all : List Holding) (first : List Node) (passes budget : ℕ) : Type 0 where
  pub sizes : IsWorldSize passes budget
  pub first_graph : w.first ≡ first
  pub count : w.passes ≡ passes
  pub passes_fresh : AreFresh all first w.home passes budget
  pub home : AreAtHome all w

abbrev pub IsOpenFault : ℕ → ℕ → OpenFault → Type 0
IsOpenFault passes budget BadSize = (passes ≡ 0) ⊎ (16 < passes) ⊎ (budget ≡ 0)
IsOpenFault passes budget NoMemory = IsWorldSize passes budget

abbrev pub open_number : OpenFault → ℕ
open_number BadSize = 1
open_number NoMemory = 3

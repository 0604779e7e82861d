-- Scripts of version 1, and the same as scripts of version 2.
use Rattle.std.specs.Prelude.{ℕ, ◌≡◌, ◌↔◌, ◌-◌, List, ◌++◌, codes, replicate, None}
use Rattle.std.specs.List.{flat_map}
use Rattle.ww_plain.specs.declared.node.Node.{Node}
use Rattle.ww_json.specs.Pieces.{spaced_or_dash, numbered}
use Rattle.ww_script_parts.specs.declared.version.Version.TheVariants.{One, Two}
use Rattle.ww_script_parts.specs.Versions.{ports_of}
use Rattle.ww_script_parts.specs.Scripts.{Plan, IsPlan}
use Rattle.ww_outcome.specs.Outcome.{Told, IsOutcome}
use Rattle.ww_outcome.specs.Text.{script_lines, place_lines, node_text, outcome_lines}

-- the same scripts and the same graph, as version 2 has them
abbrev pub in_version_2 : Plan → Plan
in_version_2 plan = record plan { ports = ports_of Two }

-- the same is told, with all ports of the nodes
abbrev pub told_in_version_2 : Told → Told
told_in_version_2 told = record told { ports = ports_of Two }

-- the ports that version 1 lacks, as they are written where they are empty
abbrev pub lacking : List ℕ
lacking = flat_map spaced_or_dash (replicate (ports_of Two - ports_of One) None)

-- the line of a node in version 1, with those ports at its end
abbrev pub longer_line : ℕ → Node → List ℕ
longer_line index node = node_text (ports_of One) index node ++ lacking ++ codes "\n"

-- What is told of version 1 is an outcome where it is one of version 2; and then the text of version 1 is that of
-- version 2 with the ports cut off, which are empty, that version 1 lacks.
pub record IsCutOff (plan : Plan) (told : Told) : Type 0 where
  pub outcome : IsOutcome plan told ↔ IsOutcome (in_version_2 plan) (told_in_version_2 told)
  pub text : IsOutcome plan told → outcome_lines (told_in_version_2 told)
      ≡ numbered script_lines 0 told.replies ++ place_lines told.places ++ numbered longer_line 0 told.graph

-- scripts of version 1 are scripts in version 2 as well, and mean the same there
abbrev pub VersionsAgree : Type 0
VersionsAgree = (plan : Plan) → IsPlan plan → plan.ports ≡ ports_of One →
    IsPlan (in_version_2 plan) × ((told : Told) → told.ports ≡ ports_of One → IsCutOff plan told)

-- The versions of an input.
use Rattle.std.specs.Prelude.{ℕ, ◌≡◌, ◌⊎◌}
use Rattle.ww_plain.specs.declared.node.TheConstants.{PORTS}
use Rattle.ww_script_parts.specs.declared.version.Version.{Version}
use Rattle.ww_script_parts.specs.declared.version.Version.TheVariants.{One, Two}

-- how many ports a node has
abbrev pub ports_of : Version → ℕ
ports_of One = 4
ports_of Two = PORTS

-- the number by which an input says its version
abbrev pub number_of_version : Version → ℕ
number_of_version One = 1
number_of_version Two = 2

-- a node of some version has so many ports
abbrev pub ArePorts : ℕ → Type 0
ArePorts ports = (ports ≡ ports_of One) ⊎ (ports ≡ ports_of Two)

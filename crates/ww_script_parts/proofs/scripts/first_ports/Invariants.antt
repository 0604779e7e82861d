use Rattle.serde_json.specs.View.{view}
use Rattle.ww_script_parts.proofs.FirstPorts.{AreRead}
use Rattle.ww_script_parts.proofs.scripts.first_ports.Given as goal

abbrev pub invariant-loop-index : goal.invariant-loop-index
invariant-loop-index l = AreRead view l.size l.items l.index l.ports

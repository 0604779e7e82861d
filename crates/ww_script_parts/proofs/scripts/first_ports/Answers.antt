use Rattle.std.proofs.Common.{refl}
use Rattle.std.proofs.lemmas.Result.{err_from_is_err_and}
use Rattle.serde_json.specs.View.{view}
use Rattle.ww_json.proofs.Each.{each_stops}
use Rattle.ww_script_parts.specs.Scripts.{port_in}
use Rattle.ww_script_parts.proofs.FirstPorts.{none_read, one_read}
use Rattle.ww_script_parts.proofs.scripts.first_ports.Goals as goal

pub loop-index-init : goal.loop-index-init
loop-index-init c = none_read view c.args.size c.args.items.now

pub loop-index-preserved : goal.loop-index-preserved
loop-index-preserved c =
    one_read view c.args.size c.args.items.now c.loop-index.index c.index-items-index.result c.loop-index.ports _ c.in_ok-ports.field-0
    c.requires.few c.loop-index-test.true c.index-items-index.is c.loop-index.invariant c.in_ok-ports.ensures refl

pub returns-in_err-ports : goal.returns-in_err-ports
returns-in_err-ports c =
    let p = err_from_is_err_and c.from_residual.result c.from_residual.ensures.1 in
    let stops = each_stops view (port_in c.args.size) c.args.items.now c.loop-index.index c.index-items-index.result _ _
    c.loop-index-test.true c.index-items-index.is c.loop-index.invariant.read c.in_err-ports.ensures in
    rw (p.1, p.2) (rw stops refl)

use Rattle.std.proofs.Common.{arith, take}
use Rattle.std.proofs.lemmas.List.{length-take}
use Rattle.std.proofs.lemmas.Grind.{common_steps}
use Rattle.ww_run.proofs.Bytes.{consumes_some, on_err_always}
use Rattle.ww_run.proofs.streams.read_front.Goals as goal

pub returns-in_err-extend_from_slice-in-Ok-clause-failed : goal.returns-in_err-extend_from_slice-in-Ok-clause-failed
returns-in_err-extend_from_slice-in-Ok-clause-failed g c =
    let left = g.R.Read.remaining in
    on_err_always c.from_residual.result
    (consumes_some c.args.most (left c.args.reader.now) (left c.loop-block.reader)
    (left c.read.new.self) c.loop-block.found.items
    (take c.in-Ok.n c.read.new.buf) c.loop-block.invariant.taken c.in-Ok.ensures.bytes.0
    (grind (arith, common_steps, length-take c.in-Ok.n c.read.new.buf)))

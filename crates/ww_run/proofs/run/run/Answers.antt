use Rattle.std.proofs.Common.{subst, List, ℕ}
use Rattle.ww_run.specs.Run.{IsRefusedFor}
use Rattle.ww_run.proofs.Ends.{runs_refused, runs_stopped}
use Rattle.ww_run.proofs.run.run.Goals as goal

pub returns-in-Ok : goal.returns-in-Ok
returns-in-Ok g c =
    let left = g.R.Read.remaining in
    let held = g.W.Write.contents in
    let read = c.in-Ok.ensures in
    runs_refused (left c.args.reader.now) (left c.read_front.new.reader)
    (held c.args.writer.now) _ c.in-Ok.input.items c.in-Err.refusal c.refuse.result
    (record { few = read.bound; taken = read.bytes; whole = read.end })
    (subst (λ (input : List ℕ). IsRefusedFor input c.in-Err.refusal) c.deref.ensures.value c.in-Err.ensures.err)
    c.refuse.ensures

pub returns-in-Err-NoMemory : goal.returns-in-Err-NoMemory
returns-in-Err-NoMemory g c =
    let left = g.R.Read.remaining in
    let held = g.W.Write.contents in
    runs_stopped (left c.args.reader.now) (left c.read_front.new.reader)
    (held c.args.writer.now) _ c.refuse-in-Err-NoMemory.result c.in-Err-NoMemory.ensures.failed
    c.refuse-in-Err-NoMemory.ensures

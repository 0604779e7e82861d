use Rattle.std.proofs.Common.{string_bytes, refl, ap, arith}
use Rattle.ww_model.specs.Snapshot.{state_of}
use Rattle.ww_schedule.proofs.Replays.{on_ok, told_none, told_more, told_all, told_to}
use Rattle.ww_schedule.proofs.replay.push_events.Goals as goal

pub loop-index-init : goal.loop-index-init
loop-index-init c = told_none (state_of c.args.core.now) (string_bytes c.args.out.now)

pub loop-index-preserved : goal.loop-index-preserved
loop-index-preserved c =
    told_more (state_of c.args.core.now) c.args.events.now c.loop-index.index-counter _ c.in-Ok.answer
    (state_of c.loop-index.core) (state_of c.step.new.self)
    (string_bytes c.args.out.now) (string_bytes c.loop-index.out) (string_bytes c.push_event_line.new.out)
    c.loop-index-test.true c.loop-index.invariant (c.in-Ok.ensures.possible.0 refl) c.in-Ok.ensures.answer
    c.in-Ok.ensures.state c.in_ok-push_event_line-in-Ok.ensures

pub returns-in-Err : goal.returns-in-Err
returns-in-Err c =
    on_ok c.writeln.result
    (told_to (state_of c.args.core.now) c.args.events.now c.loop-index.index-counter _ (state_of c.loop-index.core)
    (state_of c.step.new.self)
    (string_bytes c.args.out.now) (string_bytes c.loop-index.out) (string_bytes c.writeln.new.self)
    c.loop-index-test.true c.loop-index.invariant (λ can. let no = c.in-Err.ensures.possible.1 can in absurd cc)
    (ap state_of c.in-Err.ensures.refused))
    c.writeln.ensures.bytes

pub returns : goal.returns
returns c =
    told_all (state_of c.args.core.now) c.args.events.now c.loop-index.index-counter (state_of c.loop-index.core)
    (string_bytes c.args.out.now) (string_bytes c.loop-index.out) (omega arith) c.loop-index.invariant

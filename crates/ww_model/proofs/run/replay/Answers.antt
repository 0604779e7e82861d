use Rattle.std.proofs.Common.{◌≡◌, get_or, sym, ap, ◌∙◌, arith}
use Rattle.ww_model.specs.declared.event.Event.TheVariants.{Begin}
use Rattle.ww_model.specs.State.{State, start}
use Rattle.ww_model.specs.Event.{after}
use Rattle.ww_model.specs.Run.{at_start}
use Rattle.ww_model.specs.Snapshot.{state_of}
use Rattle.ww_model.proofs.Runs.{ok_of, on_ok, err_of, went_on, stopped, went_all, goes_reached}
use Rattle.ww_model.proofs.run.replay.Goals as goal

pub loop-i-init : goal.loop-i-init
loop-i-init c = record {
  goes = record { run = tt; state = c.in-Ok.ensures.state };
  locks = ap (λ (s : State). s.locks) c.in-Ok.ensures.state;
  seats = ap (λ (s : State). s.seats) c.in-Ok.ensures.state;
}

pub loop-i-preserved : goal.loop-i-preserved
loop-i-preserved c = let ok = c.if-is_err.ensures.negation in record {
  goes = went_on (start c.args.kind c.args.locks c.args.seats) c.args.events.now c.loop-i.i (Begin 0)
      (state_of c.loop-i.core) (state_of c.step.new.self) c.loop-i-test.true c.loop-i.invariant.goes
      (c.step.ensures.possible.0 (ok_of c.step.result ok))
      (on_ok c.step.result (state_of c.step.new.self
      ≡ after (state_of c.loop-i.core) (get_or c.args.events.now c.loop-i.i (Begin 0))) ok
      c.step.ensures.state);
  locks = c.step.ensures.locks ∙ c.loop-i.invariant.locks;
  seats = c.step.ensures.seats ∙ c.loop-i.invariant.seats;
}

pub returns-then-is_err-clause-fault : goal.returns-then-is_err-clause-fault
returns-then-is_err-clause-fault c = stopped (start c.args.kind c.args.locks c.args.seats) c.args.events.now
    c.loop-i.i (Begin 0) (state_of c.loop-i.core) c.loop-i-test.true c.loop-i.invariant.goes
    (λ can. err_of c.step.result (sym c.if-is_err.ensures.value) (c.step.ensures.possible.1 can))

pub returns-clause-run : goal.returns-clause-run
returns-clause-run c = (went_all (start c.args.kind c.args.locks c.args.seats) c.args.events.now c.loop-i.i
    (state_of c.loop-i.core) (omega arith) c.loop-i.invariant.goes).run

pub returns-clause-state : goal.returns-clause-state
returns-clause-state c = (went_all (start c.args.kind c.args.locks c.args.seats) c.args.events.now c.loop-i.i
    (state_of c.loop-i.core) (omega arith) c.loop-i.invariant.goes).state

pub returns-clause-reached : goal.returns-clause-reached
returns-clause-reached c = goes_reached (start c.args.kind c.args.locks c.args.seats) c.args.events.now
    (state_of c.loop-i.core) (at_start c.args.kind c.args.locks c.args.seats)
    (went_all (start c.args.kind c.args.locks c.args.seats) c.args.events.now c.loop-i.i (state_of c.loop-i.core)
    (omega arith) c.loop-i.invariant.goes)

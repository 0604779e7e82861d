use Rattle.std.proofs.Common.{arith}
use Rattle.ww_seat.proofs.Glances.{stayed_none, stayed_further, stayed_at}
use Rattle.ww_seat.proofs.seats.Seat.take_rest.Goals as goal

pub loop-init : goal.loop-init
loop-init c = (c.requires.at, stayed_none c.args.self.now, c.requires.may)

pub returns-then-sees_late-clause-stayed : goal.returns-then-sees_late-clause-stayed
returns-then-sees_late-clause-stayed c = stayed_further c.loop.invariant.1 c.sees_late.ensures.stayed (omega (arith, c.sees_late.ensures.may.few))

pub loop-preserved : goal.loop-preserved
loop-preserved c = (
  stayed_at c.loop.invariant.0 c.sees_late.ensures.stayed,
  stayed_further c.loop.invariant.1 c.sees_late.ensures.stayed (omega (arith, c.sees_late.ensures.may.few)),
  c.sees_late.ensures.may,
)

use Rattle.std.proofs.Common.{length-set}
use Rattle.std.proofs.Math.Seq.{map-set_same}
use Rattle.ww_seat.specs.Bells.{rings_at}
use Rattle.ww_seat.proofs.wake.wake_seat.Goals as goal

pub returns-then-u-bells-clause-placed : goal.returns-then-u-bells-clause-placed
returns-then-u-bells-clause-placed c = let bells = c.args.bells.now in record {
  count = length-set bells c.from-u.result c.ring.new.self;
  places = map-set_same rings_at bells c.from-u.result c.ring.new.self c.index-bells-u.result c.ring.ensures.placed;
}

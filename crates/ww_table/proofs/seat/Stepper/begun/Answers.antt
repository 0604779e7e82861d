use Rattle.std.proofs.Common.{arith}
use Rattle.ww_invariant.proofs.InsideSteps.{counts_outside}
use Rattle.ww_table.proofs.Seated.{has_count}
use Rattle.ww_table.proofs.seat.Stepper.begun.Goals as goal

pub load-requires : goal.load-requires
load-requires c = let s = c.requires.at in
    (s.home, has_count c.args.board.now _ (omega arith), counts_outside _ _ _ _ s.seated _)

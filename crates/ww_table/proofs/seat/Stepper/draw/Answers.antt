use Rattle.std.proofs.Common.{arith}
use Rattle.ww_invariant.proofs.Moves.{draws_one}
use Rattle.ww_table.proofs.Seated.{has_count}
use Rattle.ww_table.proofs.seat.Stepper.draw.Goals as goal

pub fetch_add-stamp-requires : goal.fetch_add-stamp-requires
fetch_add-stamp-requires c = let s = c.requires.at in
    (s.home, has_count c.args.board.now _ (omega arith), draws_one _ _ _ _ s.seated c.requires.may)

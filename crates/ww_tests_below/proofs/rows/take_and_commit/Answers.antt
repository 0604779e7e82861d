use Rattle.std.proofs.Common.{Bool, List, slice_set, true, ap, arith}
use Rattle.ww_tests_below.specs.Looking.{owned_in}
use Rattle.ww_tests_below.proofs.Trying.{below_just, owns_both}
use Rattle.ww_tests_below.proofs.rows.take_and_commit.Goals as goal

pub take-requires-clause-below : goal.take-requires-clause-below
take-requires-clause-below g c = below_just c.args.one.now 1 (omega arith) c.requires.holds.owned

pub commit-requires : goal.commit-requires
commit-requires g c = record {
  both = owns_both c.args.board.now c.compare.new.board (slice_set (owned_in c.args.one.now) 0 true) c.in-Some.first c.args.second
      c.take.new.seat c.compare.ensures (ap (λ (l : List Bool). slice_set l 0 true) c.requires.holds.owned) c.in-Some.ensures.took.0
      c.in-Some.ensures.took.1 (c.take.ensures.others 1 c.args.second (λ e. absurd cc) c.requires.has);
}

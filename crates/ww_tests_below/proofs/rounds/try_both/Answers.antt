use Rattle.std.proofs.Common.{rules, ◌≡◌, Bool, List, slice_set, true, ap, ◌∙◌, arith}
use Rattle.ww_tests_below.specs.Looking.{none, owned_in}
use Rattle.ww_tests_below.proofs.Trying.{below_just, below_none, may_begin}
use Rattle.ww_tests_below.proofs.rounds.try_both.Goals as goal

pub begin-requires-clause-may : goal.begin-requires-clause-may
begin-requires-clause-may c = may_begin c.args.board.now c.args.seat.now c.requires.rests (search rules)

pub take-requires-clause-below : goal.take-requires-clause-below
take-requires-clause-below c = let owned : owned_in c.begin.new.self ≡ none = search rules in below_none c.begin.new.self owned

pub take-requires-2-clause-below : goal.take-requires-2-clause-below
take-requires-2-clause-below c = let owned : owned_in c.begin.new.self ≡ none = search rules in
    below_just c.take.new.seat 0 (omega arith) (c.in-Some.ensures.took.0.owned ∙ ap (λ (l : List Bool). slice_set l 0 true) owned)

use Rattle.ww_tests_below.proofs.Holding.{may_end}
use Rattle.ww_tests_below.proofs.rings.untie.Goals as goal

pub end-requires-clause-may : goal.end-requires-clause-may
end-requires-clause-may g c = may_end c.hand_back.new.board c.hand_back.new.younger c.hand_back.ensures.holds

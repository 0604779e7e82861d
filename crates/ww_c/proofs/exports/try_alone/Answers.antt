use Rattle.std.proofs.Common.{rules, ◌≡◌}
use Rattle.ww_c.specs.Modes.{is_ready}
use Rattle.ww_c.proofs.Modes.{lent, ready_plain}
use Rattle.ww_c.proofs.exports.try_alone.Goals as goal

pub try_lock_plainly-requires-clause-plain : goal.try_lock_plainly-requires-clause-plain
try_lock_plainly-requires-clause-plain c = let h = c.args.seat.now in let is : h.mode ≡ 2 = search rules in
    ready_plain _ (lent is_ready _ _ c.lend-desk.ensures.value (h.ready is))

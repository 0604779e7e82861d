use Rattle.std.proofs.Common.{rules, ◌<◌, arith}
use Rattle.ww_c.specs.Modes.{is_plain}
use Rattle.ww_c.proofs.Modes.{lent, plain_plain}
use Rattle.ww_c.proofs.exports.ww_try_.Goals as goal

pub try_lock_plainly-requires-clause-plain : goal.try_lock_plainly-requires-clause-plain
try_lock_plainly-requires-clause-plain c = let h = c.args.seat.now in
    let low : c.args.lock < h.below = search rules in let some : 0 < h.below = omega (arith, low) in
    plain_plain _ (lent is_plain _ _ c.lend.ensures.value (h.plain (h.only_plain some)))

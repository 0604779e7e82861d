use Rattle.std.proofs.Common.{Err}
use Rattle.ww_users.proofs.Rounds.{starts_again}
use Rattle.ww_users.proofs.until.lock_until.Goals as goal

pub loop-preserved : goal.loop-preserved
loop-preserved g c = let starts = c.loop.invariant.2 in
    let round = (c.requires.rounds _ (Err c.in-Err.backoff) starts c.in-Err.ensures).err in
    (tt, tt, starts_again starts round c.back_off-acquiring.ensures.taken c.back_off-acquiring.ensures.alone)

use Rattle.std.proofs.Common.{rules}
use Rattle.ww_users.proofs.Contexts.{spent_walk}
use Rattle.ww_users.proofs.walk.lock_walk.Goals as goal

pub unreachable-requires : goal.unreachable-requires
unreachable-requires g c =
    let spent = spent_walk c.args.pass c.in-Err.field-0.0 c.in-Err.field-0.1 c.in-Err.ensures in search rules

use Rattle.std.proofs.Common.{Err, subst}
use Rattle.ww_users.specs.Rounds.{IsRoundHalt}
use Rattle.ww_users.proofs.Rounds.{starts_again, round_halted, back_halted}
use Rattle.ww_users.proofs.until.lock_until_interruptible.Goals as goal

pub returns-in-Err-Interrupted-clause-put_off : goal.returns-in-Err-Interrupted-clause-put_off
returns-in-Err-Interrupted-clause-put_off g c = let starts = c.loop.invariant.2 in
    let round = (c.requires.rounds _ (Err c.in-Err-Interrupted.field-0) starts c.in-Err-Interrupted.ensures).err in
    round_halted _ starts (subst (IsRoundHalt c.loop.acquiring) c.in-Err-Interrupted.field-0-is round) c.give_up.ensures

pub loop-preserved : goal.loop-preserved
loop-preserved g c = let starts = c.loop.invariant.2 in
    let round = (c.requires.rounds _ (Err c.in-Err-Deadlk.field-0) starts c.in-Err-Deadlk.ensures).err in
    let again = rw c.unlock_all-contended.ensures at c.in-Ok-lock_slow_interruptible.ensures in
    (tt, tt, starts_again starts (subst (IsRoundHalt c.loop.acquiring) c.in-Err-Deadlk.field-0-is round) again.taken again.alone)

pub returns-in-Err-clause-put_off : goal.returns-in-Err-clause-put_off
returns-in-Err-clause-put_off g c = let starts = c.loop.invariant.2 in
    let round = (c.requires.rounds _ (Err c.in-Err-Deadlk.field-0) starts c.in-Err-Deadlk.ensures).err in
    back_halted _ starts (subst (IsRoundHalt c.loop.acquiring) c.in-Err-Deadlk.field-0-is round)
    (rw c.unlock_all-contended.ensures at c.in-Err.ensures.interrupted) c.fini.ensures

use Rattle.std.proofs.Common.{◌-◌, length}
use Rattle.ww_users.proofs.Alongs.{IsAlong}
use Rattle.ww_users.proofs.walk.lock_along.Given as goal

abbrev pub invariant-loop-stop : goal.invariant-loop-stop
invariant-loop-stop g l = IsAlong l.fn.acquiring l.acquiring l.start l.port l.most l.walk.items l.stop

abbrev pub decreases-loop-stop : goal.decreases-loop-stop
decreases-loop-stop g l = l.most - length l.walk.items

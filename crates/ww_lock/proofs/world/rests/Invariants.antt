use Rattle.std.proofs.Common.{◌≡◌, length, map}
use Rattle.ww_seat.specs.Bells.{leads_to}
use Rattle.ww_lock.specs.Opened.{AreRests}
use Rattle.ww_lock.proofs.world.rests.Given as goal

abbrev pub invariant-loop : goal.invariant-loop
invariant-loop l = AreRests l.graph (map leads_to l.wires.items) l.rests.items × (length l.wires.items ≡ l.counter)

use Rattle.ww_queue.specs.declared.queue.TheConstants.{MAX_WAITERS}
use Rattle.ww_queue.proofs.Rooms.{room_for}
use Rattle.ww_queue.proofs.laws.each_seat_has_room.Goals as goal

pub returns : goal.returns
returns c = room_for MAX_WAITERS

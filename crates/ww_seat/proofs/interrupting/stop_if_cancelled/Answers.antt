use Rattle.ww_table.specs.Seat.{size_of}
use Rattle.ww_seat.proofs.Stopped.{HasLeft, has_left, stopped_goes}
use Rattle.ww_seat.proofs.interrupting.stop_if_cancelled.Goals as goal

pub leave-requires-2-clause-at : goal.leave-requires-2-clause-at
leave-requires-2-clause-at c = let at = c.requires.at.1 in
    let left : HasLeft (size_of c.args.board.now) c.heed-mark.result c.args.seat.now.seat.me c.args.seen c.leave.new.self.seat.me =
    has_left at.orderly at.working (c.heed-mark.ensures.heeded c.if-mark-eq0.false) (c.leave.ensures.gone.gone c.if-not-leave.false) in
    record { seat = c.leave.ensures.gone.seat; lock = at.lock; orderly = left.orderly }

pub leave-requires-2-clause-may : goal.leave-requires-2-clause-may
leave-requires-2-clause-may c = let at = c.requires.at.1 in
    let left : HasLeft (size_of c.args.board.now) c.heed-mark.result c.args.seat.now.seat.me c.args.seen c.leave.new.self.seat.me =
    has_left at.orderly at.working (c.heed-mark.ensures.heeded c.if-mark-eq0.false) (c.leave.ensures.gone.gone c.if-not-leave.false) in
    stopped_goes at.working left

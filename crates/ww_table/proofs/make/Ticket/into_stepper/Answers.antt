use Rattle.ww_table.proofs.Making.{new_seat}
use Rattle.ww_table.proofs.make.Ticket.into_stepper.Goals as goal

pub returns : goal.returns
returns c = let b = c.args.board.now in
    new_seat c.args.self c.seated.result c.requires.ticket c.requires.kind b.locks_is b.places_are c.seated.ensures

use Rattle.std.proofs.Common.{rules, ◌<◌, arith}
use Rattle.ww_table.specs.Seat.{size_of}
use Rattle.ww_seat.proofs.Outside.{node_read}
use Rattle.ww_seat.proofs.taking.node_or_blank.Goals as goal

pub returns-then-lock-from-clause-read : goal.returns-then-lock-from-clause-read
returns-then-lock-from-clause-read c = let low : c.args.lock < size_of c.args.board.now =
    omega (arith, c.if-lock-from.true, c.from.ensures, c.size.ensures) in
    let read = node_read c.requires.at.1 low (c.requires.owner low) c.node.ensures.swapped in
    record { orderly = read.0; view = search rules; node = λ _. read.1; blank = λ high. absurd (omega (arith, low, high)) }

use Rattle.ww_plain.proofs.Members.{different_none}
use Rattle.ww_plain.proofs.Doubles.{double_of_two}
use Rattle.ww_plain.proofs.transaction.first_double.Goals as goal

pub returns-in-Move : goal.returns-in-Move
returns-in-Move c = rw (c.in-Move.is, c.then_some.ensures) (double_of_two c.in-Move.from c.in-Move.to)

pub returns-in-Link : goal.returns-in-Link
returns-in-Link c = rw c.in-Link.is different_none

pub returns-in-Sum : goal.returns-in-Sum
returns-in-Sum c = rw c.in-Sum.is different_none

pub returns-in-Reverse : goal.returns-in-Reverse
returns-in-Reverse c = rw c.in-Reverse.is different_none

pub returns-in-Peek : goal.returns-in-Peek
returns-in-Peek c = rw c.in-Peek.is different_none

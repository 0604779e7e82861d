use Rattle.ww_plain.proofs.Reversals.{reverses}
use Rattle.ww_plain.proofs.laws.reverse_turns_the_walk.Goals as goal

pub returns : goal.returns
returns c = reverses

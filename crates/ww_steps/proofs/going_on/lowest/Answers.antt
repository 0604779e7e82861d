use Rattle.std.proofs.Common.{w64, arith}
use Rattle.std.proofs.lemmas.Nat.Bits.{bit_at-trailing_zeros}
use Rattle.ww_steps.proofs.going_on.lowest.Goals as goal

pub returns-clause-set : goal.returns-clause-set
returns-clause-set c = (bit_at-trailing_zeros w64 c.args.word (let some = c.requires.some in omega arith) (let fits = c.ranges.word.fits in omega arith)).1

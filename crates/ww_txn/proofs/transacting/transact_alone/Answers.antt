use Rattle.std.proofs.Common.{rules}
use Rattle.ww_plain.proofs.Members.{different_none}
use Rattle.ww_txn.proofs.transacting.transact_alone.Goals as goal

pub prepare-requires-clause-no_double : goal.prepare-requires-clause-no_double
prepare-requires-clause-no_double g c = different_none

pub returns-in_default-clause-answer : goal.returns-in_default-clause-answer
returns-in_default-clause-answer g c = (different_none, search rules)

pub returns-clause-answer : goal.returns-clause-answer
returns-clause-answer g c = (different_none, search rules)

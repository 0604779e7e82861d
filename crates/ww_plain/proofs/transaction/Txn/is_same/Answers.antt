use Rattle.ww_plain.proofs.Sames.{txn_same}
use Rattle.ww_plain.proofs.transaction.Txn.is_same.Goals as goal

pub returns : goal.returns
returns c = search txn_same

use Rattle.ww_plain.proofs.Sames.{record_same}
use Rattle.ww_plain.proofs.history.Record.is_same.Goals as goal

pub returns : goal.returns
returns c = search record_same

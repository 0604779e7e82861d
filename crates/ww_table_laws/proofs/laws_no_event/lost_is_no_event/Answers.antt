use Rattle.ww_table_laws.proofs.NoEvents.{lost_stays}
use Rattle.ww_table_laws.proofs.laws_no_event.lost_is_no_event.Goals as goal

pub returns : goal.returns
returns c = λ key s r id me i t. lost_stays key s r id me t.here t.seated i

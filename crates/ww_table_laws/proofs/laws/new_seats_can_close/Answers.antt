use Rattle.ww_table.proofs.Making.{new_come}
use Rattle.ww_table_laws.proofs.laws.new_seats_can_close.Goals as goal

pub returns : goal.returns
returns c = new_come

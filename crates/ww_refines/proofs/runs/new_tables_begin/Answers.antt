use Rattle.ww_refines.proofs.Seating as kept
use Rattle.ww_refines.proofs.runs.new_tables_begin.Goals as goal

pub returns : goal.returns
returns c = kept.new_tables_begin

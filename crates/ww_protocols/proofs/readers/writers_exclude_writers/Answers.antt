use Rattle.ww_protocols.proofs.HallsKept as kept
use Rattle.ww_protocols.proofs.readers.writers_exclude_writers.Goals as goal

pub returns : goal.returns
returns c = kept.writers_exclude_writers

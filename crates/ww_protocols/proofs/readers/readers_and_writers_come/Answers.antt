use Rattle.ww_protocols.proofs.HallRuns as kept
use Rattle.ww_protocols.proofs.readers.readers_and_writers_come.Goals as goal

pub returns : goal.returns
returns c = kept.readers_and_writers_come

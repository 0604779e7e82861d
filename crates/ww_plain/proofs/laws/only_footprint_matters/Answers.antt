use Rattle.ww_plain.proofs.Frames.{inside}
use Rattle.ww_plain.proofs.laws.only_footprint_matters.Goals as goal

pub returns : goal.returns
returns c = inside

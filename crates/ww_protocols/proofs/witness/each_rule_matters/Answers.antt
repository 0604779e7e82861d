use Rattle.ww_protocols.proofs.ClassRuns as kept
use Rattle.ww_protocols.proofs.witness.each_rule_matters.Goals as goal

pub returns : goal.returns
returns c = kept.each_rule_matters

use Rattle.ww_script.proofs.Said.{version_1_cut_off}
use Rattle.ww_script.proofs.input.each_version_1_is_cut_off.Goals as goal

pub returns : goal.returns
returns c = version_1_cut_off

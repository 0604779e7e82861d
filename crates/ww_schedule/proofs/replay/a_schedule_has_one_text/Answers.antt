use Rattle.ww_schedule.proofs.OneText.{one_text}
use Rattle.ww_schedule.proofs.replay.a_schedule_has_one_text.Goals as goal

pub returns : goal.returns
returns c = one_text

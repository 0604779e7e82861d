use Rattle.ww_word.proofs.Words.{reading_is_unique}
use Rattle.ww_word.proofs.laws.reading_is_unique.Goals as goal

pub returns : goal.returns
returns c = reading_is_unique

use Rattle.ww_word.proofs.AnyWords.{words_tell_holders}
use Rattle.ww_word.proofs.laws.words_tell_holders.Goals as goal

pub returns : goal.returns
returns c = words_tell_holders

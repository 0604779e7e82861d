use Rattle.std.proofs.Common.{◌∙◌, arith}
use Rattle.ww_word.proofs.AnyWords.{narrow_is_packed}
use Rattle.ww_model.specs.State.{word_of}
use Rattle.ww_view.proofs.Written.{word_is_valid}
use Rattle.ww_table_laws.proofs.laws.few_seats_have_narrow_words.Goals as goal

pub returns : goal.returns
returns c = λ key s r n few low. r.words.owners n low ∙ narrow_is_packed (word_of r.core n) (word_is_valid r.core n r.reached (let z = r.places in omega arith))

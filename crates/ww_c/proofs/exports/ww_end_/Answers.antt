use Rattle.std.proofs.Common.{Some, refl, subst, pos, Option}
use Rattle.ww_steps.specs.declared.turn.Answer.TheVariants.{Done}
use Rattle.ww_steps.specs.Situations.{Situation}
use Rattle.ww_steps.specs.Answers.{IsEndAnswer}
use Rattle.ww_c.specs.Exports.{IsCall}
use Rattle.ww_c.proofs.exports.ww_end_.Goals as goal

pub returns : goal.returns
returns c = subst (λ (o : Option Situation). IsCall IsEndAnswer o (pos 0) (Some c.end_bare.new.self))
    c.lend.ensures.value (Done, c.end_bare.new.self, refl, c.end_bare.ensures, refl)

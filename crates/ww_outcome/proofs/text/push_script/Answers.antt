use Rattle.std.proofs.Common.{ap}
use Rattle.ww_outcome.specs.Said.{said_of}
use Rattle.ww_outcome.specs.Text.{reply_line}
use Rattle.ww_json.proofs.Numbered.{numbered_by}
use Rattle.ww_outcome.proofs.text.push_script.Goals as goal

pub loop-index-preserved : goal.loop-index-preserved
loop-index-preserved c =
    let answer = c.index-answers-index.result in
    numbered_by said_of (reply_line c.args.script) c.args.answers.now c.loop-index.index answer _ _ _ _
    c.loop-index-test.true (ap said_of c.index-answers-index.is) c.loop-index.invariant c.in_ok-push_answer_line.ensures

use Rattle.std.proofs.Common.{◌≡◌, map, get_or, ap, ◌∙◌}
use Rattle.std.specs.Global.{Vec}
use Rattle.ww_outcome.specs.declared.outcome.ScriptAnswer.{ScriptAnswer}
use Rattle.ww_outcome.specs.Said.{said_of}
use Rattle.ww_outcome.specs.Text.{script_lines}
use Rattle.ww_json.proofs.Numbered.{numbered_by}
use Rattle.ww_outcome.proofs.text.push_scripts.Goals as goal

pub loop-script-preserved : goal.loop-script-preserved
loop-script-preserved c =
    let seen = λ (answers : Vec ScriptAnswer). map said_of answers.items in
    let answers = c.index-scripts-script.result in
    let is : map said_of c.deref.result.now ≡ seen (get_or c.args.scripts.now c.loop-script.script answers) =
    ap (map said_of) c.deref.ensures.value ∙ ap seen c.index-scripts-script.is in
    numbered_by seen script_lines c.args.scripts.now c.loop-script.script answers _ _ _ _
    c.loop-script-test.true is c.loop-script.invariant c.in_ok-push_script.ensures

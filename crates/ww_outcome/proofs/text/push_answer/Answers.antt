use Rattle.std.proofs.Common.{◌∙◌, append_assoc, string_bytes}
use Rattle.std.specs.Prelude.{codes, decimal}
use Rattle.std.proofs.lemmas.Result.{on_ok_weaker}
use Rattle.ww_outcome.proofs.text.push_answer.Goals as goal

pub returns-in-Interrupted : goal.returns-in-Interrupted
returns-in-Interrupted c = rw c.in-Interrupted.is
    (on_ok_weaker c.push_number-in-Interrupted.result
    (λ told. told ∙ append_assoc (string_bytes c.args.out.now) (codes "interrupted ") (decimal c.in-Interrupted.script))
    c.push_number-in-Interrupted.ensures)

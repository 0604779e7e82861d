use Rattle.std.proofs.Common.{codes, ◌∙◌, append_assoc, string_bytes}
use Rattle.ww_schedule.proofs.Replays.{on_ok}
use Rattle.ww_schedule.proofs.replay.push_answer.Goals as goal

-- the text is longer than `search` looks into
pub returns-in-Interrupted : goal.returns-in-Interrupted
returns-in-Interrupted c =
    rw (c.in-Interrupted.is) (on_ok c.push_number-in-Interrupted.result
    (λ pushed. pushed ∙ append_assoc (string_bytes c.args.out.now) (codes "interrupted ") _)
    c.push_number-in-Interrupted.ensures)

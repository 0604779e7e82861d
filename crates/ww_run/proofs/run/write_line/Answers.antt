use Rattle.std.proofs.Common.{◌∙◌, subst, List, ℕ}
use Rattle.std.specs.Prelude.{codes}
use Rattle.std.specs.Io.KnownBytes.{Appends}
use Rattle.std.proofs.lemmas.Result.{on_ok_weaker, on_err_weaker}
use Rattle.ww_script.specs.Fault.{refusal_text}
use Rattle.ww_run.specs.Streams.{AppendsFront}
use Rattle.ww_run.specs.Run.{line_of}
use Rattle.ww_run.proofs.Bytes.{appends_then, front_more, front_after, on_err_always}
use Rattle.ww_run.proofs.run.write_line.Goals as goal

pub returns-in_err-write_out-clause-err : goal.returns-in_err-write_out-clause-err
unfolding line_of
returns-in_err-write_out-clause-err g c =
    let held = g.W.Write.contents in
    let line = c.as_bytes.ensures.value ∙ c.refusal_line.ensures in
    on_err_always c.from_residual.result
    (front_more (held c.args.writer.now) (held c.write_out.new.writer) (refusal_text c.args.number) (codes "\n")
    (subst (λ (text : List ℕ). AppendsFront (held c.args.writer.now)
    (held c.write_out.new.writer) text) line c.in_err-write_out.ensures.err))

pub returns-clause-ok : goal.returns-clause-ok
unfolding line_of
returns-clause-ok g c =
    let held = g.W.Write.contents in
    let line = c.as_bytes.ensures.value ∙ c.refusal_line.ensures in
    let first = subst (λ (text : List ℕ). Appends (held c.args.writer.now) (held c.write_out.new.writer) text) line
    c.in_ok-write_out.ensures.ok in
    on_ok_weaker c.write_out-2.result
    (appends_then (held c.args.writer.now) (held c.write_out.new.writer) _ (refusal_text c.args.number)
    (codes "\n") first) c.write_out-2.ensures.ok

pub returns-clause-err : goal.returns-clause-err
unfolding line_of
returns-clause-err g c =
    let held = g.W.Write.contents in
    let line = c.as_bytes.ensures.value ∙ c.refusal_line.ensures in
    let first = subst (λ (text : List ℕ). Appends (held c.args.writer.now) (held c.write_out.new.writer) text) line
    c.in_ok-write_out.ensures.ok in
    on_err_weaker c.write_out-2.result
    (front_after (held c.args.writer.now) (held c.write_out.new.writer) _ (refusal_text c.args.number)
    (codes "\n") first) c.write_out-2.ensures.err

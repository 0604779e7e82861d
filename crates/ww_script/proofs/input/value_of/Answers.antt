use Rattle.ww_script.proofs.Parsed.{parsed_some, parsed_none}
use Rattle.ww_script.proofs.input.value_of.Goals as goal

pub returns-in-Ok : goal.returns-in-Ok
returns-in-Ok c = parsed_some c.args.bytes.now _ c.in-Ok.ensures.ok.0 c.in-Ok.ensures.ok.1

pub returns-in_default : goal.returns-in_default
returns-in_default c =
    λ ne. parsed_none c.args.bytes.now (c.in-Err.ensures.err (λ m. c.in_default.not-Memory (c.classify.ensures.memory.1 m)))

use Rattle.std.proofs.Common.{◌≡◌, sym, ◌∙◌}
use Rattle.ww_queue.specs.declared.kind.Kind.TheVariants.{WoundWait, WaitDie}
use Rattle.ww_seat.proofs.Working.{cleared_same}
use Rattle.ww_seat.proofs.leaving.take_sign_back.Goals as goal

pub returns-in-WoundWait-clause-cleared : goal.returns-in-WoundWait-clause-cleared
returns-in-WoundWait-clause-cleared c =
    cleared_same c.args.seat.now.seat.me (λ d. absurd
    (let e : WoundWait ≡ WaitDie = sym c.in-WoundWait.is ∙ c.kind.ensures ∙ c.requires.seat.kind ∙ d in cc))

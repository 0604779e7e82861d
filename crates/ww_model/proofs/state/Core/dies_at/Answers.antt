use Rattle.std.proofs.Common.{sym, true≢false}
use Rattle.ww_model.proofs.state.Core.dies_at.Goals as goal

pub returns-in-None : goal.returns-in-None
returns-in-None c = (λ is. absurd (true≢false (sym is)), λ d. absurd (c.in-None.ensures d.0.0 d.0.1))

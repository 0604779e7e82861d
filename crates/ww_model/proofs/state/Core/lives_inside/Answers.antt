use Rattle.std.proofs.Common.{sym, ◌∙◌, subst}
use Rattle.ww_model.specs.Event.{MayLive}
use Rattle.ww_model.specs.Run.{Reached}
use Rattle.ww_model.specs.Snapshot.{Snapshot, state_of}
use Rattle.ww_model.proofs.Ranges.{place_is}
use Rattle.ww_model.proofs.state.Core.lives_inside.Goals as goal

pub returns : goal.returns
returns c = let now = state_of c.args.self.now in
    let reached = subst (λ (s : Snapshot). Reached (state_of s)) c.self.view_is c.self.invariant.reached in (
      λ is. (c.place_of.result, c.lives_at.ensures.0 is),
      λ some. c.lives_at.ensures.1 (subst (MayLive now c.args.seat)
          (sym (c.place_of.ensures ∙ place_is now reached c.args.seat some.0 some.1.inside)) some.1),
    )

-- A context that owns nothing, waits for nothing, and wants no lock any more, rests.
use Rattle.std.proofs.Common.{◌≡◌, inl, inr, ⊎_elim, ◌∙◌, subst, arith}
use Rattle.ww_queue.specs.Queue.{Stands}
use Rattle.ww_model.specs.declared.state.Holder.TheVariants.{Taken}
use Rattle.ww_model.specs.State.{OwnsNone, InNoQueue}
use Rattle.ww_laws.specs.Scene.{Scene}
use Rattle.ww_laws.specs.GoingOn.{WhoWantsNoneRests}
use Rattle.ww_laws.proofs.Endless.{holds_at}
use Rattle.ww_laws.proofs.Runs.{lawful_at}
use Rattle.ww_laws.proofs.Served.{same_context, drawn_on}
use Rattle.ww_laws.proofs.Livelock.{stood_next}
use Rattle.ww_laws.proofs.Contexts.{gained_next}

pub who_wants_none_rests : WhoWantsNoneRests
who_wants_none_rests scene step run s i some own idle none j later same =
    let bound = (lawful_at scene step run i).base.stamps.below s in
    holds_at (λ x. OwnsNone (scene x).core s × InNoQueue (scene x).core s) i j later (own, idle)
    (λ x from below now. let mine = same_context scene step run x j s ((scene i).core.stamp s) (omega arith)
    (drawn_on scene step run i x ((scene i).core.stamp s) from (omega arith)) (omega arith) (omega arith) ∙ same in (
      λ n has. ⊎_elim (λ fast. none x n from mine (inl fast)) (λ take. none x n from mine (inr (inr take)))
          (gained_next (scene x) (step x) s n (now.0 n)
          (subst (λ (w : Scene). w.core.owner n ≡ Taken s) (run.goes_on x) has)),
      λ n e h is. ⊎_elim (λ old. now.1 n old.0 old.1 old.2) (λ joins. none x n from mine (inr (inl joins)))
          (stood_next (scene x) (step x) s n
          (subst (λ (w : Scene). Stands (w.core.queue n) s) (run.goes_on x) (e, h, is))),
    ))

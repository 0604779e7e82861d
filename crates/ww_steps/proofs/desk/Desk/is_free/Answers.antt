use Rattle.std.proofs.Common.{rules, inr, subst}
use Rattle.ww_steps.specs.Answers.{HasLookedAt}
use Rattle.ww_steps.specs.Situations.{Situation}
use Rattle.ww_steps.specs.Stations.{situation_of}
use Rattle.ww_steps.proofs.Seeing.{seen_of}
use Rattle.ww_steps.proofs.desk.Desk.is_free.Goals as goal

pub returns : goal.returns
returns c = let h = c.self.inside.station in let q = c.is_free.new.self in let taken = c.is_free.ensures.taken c.if-is_free.false in
    inr (
      search rules,
      search rules,
      (
        taken.0,
        taken.1,
        subst (λ (s : Situation). HasLookedAt s c.args.lock taken.0 (situation_of (record h { seat = q }))) c.self.view_is
            (seen_of h q c.args.lock taken.0 taken.2),
      ),
    )

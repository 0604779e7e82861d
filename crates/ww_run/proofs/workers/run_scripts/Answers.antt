use Rattle.std.proofs.Common.{◌≡◌, ℕ, ◌<◌, ◌≤◌, List, length, get_or, Some, None, if◌then◌else◌, refl, ap, subst, ◌∙◌, rules}
use Rattle.std.specs.Global.{Vec}
use Rattle.ww_script_parts.specs.declared.acts.Act.{Act}
use Rattle.ww_plain.specs.History.{history_of}
use Rattle.ww_plain.specs.declared.node.TheConstants.{PORTS}
use Rattle.ww_script_parts.proofs.More.{ports_few, scripts_more}
use Rattle.ww_script.specs.Scripts.{script_lists, ranges_of}
use Rattle.ww_script.specs.Outcome.{place_list, places_of}
use Rattle.ww_run.proofs.Scripts.{all_worked, all_there}
use Rattle.ww_run.proofs.Outcomes.{outcome_of}
use Rattle.ww_run.specs.Workers.{AreShort}
use Rattle.ww_run.proofs.Ready.{few_each, same_count, is_budget, are_ready}
use Rattle.ww_run.proofs.workers.run_scripts.Goals as goal
use Rattle.ww_run.proofs.workers.run_scripts.Goals.{then-history+in_ok-places, else-history}

pub budget-budget-requires : goal.budget-budget-requires
budget-budget-requires g c = rw c.deref.ensures.value
    (few_each (ranges_of (length c.scripts.inside.graph) c.scripts.inside.ports
    (length (script_lists c.scripts.inside.scripts))) c.scripts.inside.scripts.items c.scripts.invariant.each)

pub work-requires-after_bounds : goal.work-requires-after_bounds
work-requires-after_bounds g c = λ κs within.
    let scripts = c.scripts.inside.scripts.items in
    let each = scripts_more c.scripts.inside.ports PORTS (ports_few c.scripts.inside.ports c.scripts.invariant.version)
    (length c.scripts.inside.graph) (length (script_lists c.scripts.inside.scripts))
    (script_lists c.scripts.inside.scripts) c.scripts.invariant.each in
    are_ready c.in-Ok.world scripts c.in-Ok.passes.items c.scripts.inside.graph _ c.budget-budget.result c.in-Ok.ensures.ok
    (grind rules) each
    (is_budget c.budget-budget.result scripts c.budget-budget.ensures.some
    (subst (AreShort c.budget-budget.result) c.deref.ensures.value c.budget-budget.ensures.each)
    (subst (λ (xs : List (Vec Act)). (other : ℕ) → 1 ≤ other → AreShort other xs → c.budget-budget.result ≤ other)
    c.deref.ensures.value c.budget-budget.ensures.least))

pub close-requires-clause-home : goal.close-requires-clause-home
close-requires-clause-home g c = (all_worked c.in-Ok.world (script_lists c.scripts.inside.scripts) c.in_ok-works.works.items
    c.in_ok-passes.passes.items c.in_ok-passes.replies.items c.in_ok-works.ensures c.in_ok-passes.ensures).1

pub close-requires-clause-there : goal.close-requires-clause-there
close-requires-clause-there g c =
    let worked = all_worked c.in-Ok.world (script_lists c.scripts.inside.scripts) c.in_ok-works.works.items
    c.in_ok-passes.passes.items c.in_ok-passes.replies.items c.in_ok-works.ensures c.in_ok-passes.ensures in
    all_there c.in-Ok.world.passes _ _ c.in_ok-passes.passes.items
    (same_count c.in-Ok.world c.scripts.inside.scripts.items c.in-Ok.passes.items c.scripts.inside.graph _ _ c.in-Ok.ensures.ok
    (grind rules)) worked.0

pub returns : goal.returns
returns g c =
    let worked = all_worked c.in-Ok.world (script_lists c.scripts.inside.scripts) c.in_ok-works.works.items
    c.in_ok-passes.passes.items c.in_ok-passes.replies.items c.in_ok-works.ensures c.in_ok-passes.ensures in
    let history = history_of c.in_ok-closed.closed.records.items in
    let places : place_list c.if-history.places ≡ if◌then◌else◌ c.scripts.inside.history (Some (places_of history)) None =
    elim c.if-history.branch [
      | then-history+in_ok-places w ↦ rw (w.places-is, w.if-history.true)
          (ap Some (w.in_ok-places.ensures ∙ ap (λ rs. places_of (history_of rs)) w.deref-then-history.ensures.value))
      | else-history w ↦ rw (w.places-is, w.if-history.false) refl
    ] in
    outcome_of _ c.args.scripts _ c.in-Ok.world c.in_ok-passes.passes.items c.in_ok-closed.closed c.scripts.view_is
    c.in-Ok.ensures.ok.first_graph
    (same_count c.in-Ok.world c.scripts.inside.scripts.items c.in-Ok.passes.items c.scripts.inside.graph _ _ c.in-Ok.ensures.ok
    (grind rules)) worked.0 c.in_ok-closed.ensures refl places refl

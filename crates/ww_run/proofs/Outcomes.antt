-- What comes of scripts is an outcome.
use Rattle.std.proofs.Common.{◌≡◌, ℕ, ◌<◌, List, length, Some, None, if◌then◌else◌, sym, ap, subst, ◌∙◌}
use Rattle.std.specs.List.{AllByRecursion}
use Rattle.ww_plain.specs.History.{history_of, IsLegal, last_graph}
use Rattle.ww_plain.specs.declared.node.Node.{Node}
use Rattle.ww_lock.specs.Holding.{Holding, Setting}
use Rattle.ww_lock.specs.Closed.{IsClosed}
use Rattle.ww_lock.specs.declared.close.History.{History}
use Rattle.ww_script.specs.Scripts.{Plan}
use Rattle.ww_script.specs.Outcome.{places_of, Told, IsOutcome}
use Rattle.ww_run.proofs.Scripts.{AreWorked, are_answered}
use Rattle.ww_run.proofs.Balance.{are_balanced}

-- what a closed world tells of scripts is an outcome
pub outcome_of : (seen plan : Plan) (told : Told) (w : Setting) (passes : List Holding) (h : History)
    → seen ≡ plan → w.first ≡ seen.graph → w.passes ≡ length seen.scripts
    → AreWorked 0 seen.scripts told.replies passes → IsClosed w passes h → told.graph ≡ h.graph
    → told.places ≡ if◌then◌else◌ seen.history (Some (places_of (history_of h.records.items))) None
    → told.ports ≡ seen.ports
    → IsOutcome plan told
outcome_of seen plan told w passes h is first count all closed graph places ports =
    let history = history_of h.records.items in
    let cancels = are_balanced seen.scripts told.replies w passes count all closed.balanced in
    let IsOutcomeOf : Plan → Type 0 = λ p. IsOutcome p told in
    subst IsOutcomeOf is (record {
      history = history;
      explained = record {
        legal = subst (λ (g : List Node). IsLegal g history) first closed.legal;
        callers = subst (λ (n : ℕ). AllByRecursion (λ r. r.caller < n) history) count closed.callers;
        answered = are_answered 0 seen.scripts told.replies passes history all closed.parts;
        places = places;
        ports = ports;
        graph = ap (λ g. last_graph g history) (sym first) ∙ sym closed.fold ∙ sym graph;
      };
      pending = cancels.0;
      balanced = cancels.1;
    })

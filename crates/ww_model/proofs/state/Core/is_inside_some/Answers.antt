use Rattle.std.proofs.Common.{suc, ◌≡◌, ◌↔◌, ◌==◌, IsTrue, None, subst}
use Rattle.ww_model.specs.Snapshot.{Snapshot, state_of, guard_number, InsideSome}
use Rattle.ww_queue.proofs.Outcomes.{same_number}
use Rattle.ww_model.proofs.Outcomes.{number_same, nobody_inside}
use Rattle.ww_model.proofs.Slots.{any_tells}
use Rattle.ww_model.proofs.state.Core.is_inside_some.Goals as goal

pub returns : goal.returns
returns c = subst (λ (s : Snapshot). IsTrue c.any_guarded_by.result ↔ InsideSome (state_of s) c.args.seat) c.self.view_is
    (rw (c.any_guarded_by.ensures, c.deref.ensures.value)
    (any_tells (λ g. guard_number g == suc c.args.seat) c.self.inside.guards.items None
    (λ g. guard_number g ≡ suc c.args.seat) (nobody_inside c.args.seat)
    (λ g. same_number (guard_number g) (suc c.args.seat)) (λ g. number_same (guard_number g) (suc c.args.seat))))

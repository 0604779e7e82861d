use Rattle.std.proofs.Common.{ap, arith, refl, subst, sym, ◌∙◌}
use Rattle.std.specs.Vec.{with_items}
use Rattle.std.proofs.lemmas.Result.{err_from_is_err_and}
use Rattle.ww_lock.specs.Carried.{holding_of}
use Rattle.ww_lock.specs.Moves.{HasLost}
use Rattle.ww_lock.specs.declared.hand.Hand.TheInside.{Inside}
use Rattle.ww_lock.proofs.Carrying.{at_board, bells_at, may_try, even_slice, waits_in_vain, waits_out}
use Rattle.ww_lock.proofs.hand.Hand.wait_for.Goals as goal

pub wait_for-requires-clause-at : goal.wait_for-requires-clause-at
wait_for-requires-clause-at g c = let h = c.self.inside in (
  at_board h c.args.self.now c.world.inside.board c.world.inside.wires.items c.args.world.now c.self.view_is
      c.world.view_is c.requires.home c.self.invariant,
  record {
    bells_are = bells_at h c.args.self.now c.world.inside.board c.world.inside.wires.items c.args.world.now _ c.self.view_is
        c.world.view_is c.requires.home c.world.invariant.1 c.deref_mut.ensures.value;
    few = omega (arith, c.world.invariant.2);
    even = even_slice h.seat.me h.patience _ h.bells.items c.deref_mut.ensures.value c.self.invariant.even;
  },
)

pub wait_for-requires-clause-may : goal.wait_for-requires-clause-may
wait_for-requires-clause-may g c = let h = c.self.inside in
    let at = at_board h c.args.self.now c.world.inside.board c.world.inside.wires.items c.args.world.now c.self.view_is
    c.world.view_is c.requires.home c.self.invariant in
    let may = subst (HasLost c.args.n) (sym c.self.view_is) c.requires.may in
    let t = may_try h c.args.self.now c.world.inside.board c.args.n c.from.result c.self.view_is
    c.self.invariant at c.requires.may.may c.from.ensures in record {
      there = omega (arith, t.there, c.world.inside.board.fits);
      away = t.away;
      want = record { lacks = t.lacks; base = t.base; signs = may.signs };
      nodes = t.nodes;
      tried = may.glances;
    }

pub invariant_of-self : goal.invariant_of-self
invariant_of-self g c = (waits_in_vain c.self.inside _ c.wait_for.new.self c.wait_for.new.patience c.deref_mut.result.now
    c.wait_for.new.bells c.args.n c.from.result c.args.waits c.in_err-node.field-0.0 c.self.invariant
    (subst (HasLost c.args.n) (sym c.self.view_is) c.requires.may).may c.in_err-node.ensures.waited c.in_err-node.ensures.even
    c.deref_mut.ensures.value c.from.ensures c.world.invariant.2).carries

pub returns-in_err-node : goal.returns-in_err-node
returns-in_err-node g c = let p = err_from_is_err_and c.from_residual.result c.from_residual.ensures.1 in
    let v = waits_in_vain c.self.inside _ c.wait_for.new.self c.wait_for.new.patience c.deref_mut.result.now
    c.wait_for.new.bells c.args.n c.from.result c.args.waits c.in_err-node.field-0.0 c.self.invariant
    (subst (HasLost c.args.n) (sym c.self.view_is) c.requires.may).may c.in_err-node.ensures.waited c.in_err-node.ensures.even
    c.deref_mut.ensures.value c.from.ensures c.world.invariant.2 in
    λ s was. rw (p.1, p.2) (v.came s (ap holding_of c.self.view_is ∙ was))

pub invariant_of-self-2 : goal.invariant_of-self-2
invariant_of-self-2 g c = let h = c.self.inside in
    let g : Inside = record h {
      seat = c.wait_for.new.self;
      marks = c.add.new.marks;
      seen = c.add.new.seen;
      patience = c.wait_for.new.patience;
      bells = with_items h.bells c.wait_for.new.bells;
    } in
    (waits_out h g _ c.deref_mut.result.now c.wait_for.new.bells c.args.n c.from.result c.args.waits c.in_ok-node.node c.self.invariant
    (subst (HasLost c.args.n) (sym c.self.view_is) c.requires.may).may c.in_ok-node.ensures.waited c.in_ok-node.ensures.even
    c.deref_mut.ensures.value refl c.from.ensures refl c.add.ensures.marks c.add.ensures.seen).carries

pub returns : goal.returns
returns g c = let h = c.self.inside in
    let g : Inside = record h {
      seat = c.wait_for.new.self;
      marks = c.add.new.marks;
      seen = c.add.new.seen;
      patience = c.wait_for.new.patience;
      bells = with_items h.bells c.wait_for.new.bells;
    } in
    let v = waits_out h g _ c.deref_mut.result.now c.wait_for.new.bells c.args.n c.from.result c.args.waits c.in_ok-node.node c.self.invariant
    (subst (HasLost c.args.n) (sym c.self.view_is) c.requires.may).may c.in_ok-node.ensures.waited c.in_ok-node.ensures.even
    c.deref_mut.ensures.value refl c.from.ensures refl c.add.ensures.marks c.add.ensures.seen in
    λ s was. v.came s (ap holding_of c.self.view_is ∙ was)

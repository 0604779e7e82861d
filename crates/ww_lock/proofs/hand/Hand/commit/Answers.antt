use Rattle.std.proofs.Common.{ap, length, sym, subst, ◌∙◌}
use Rattle.ww_plain.specs.declared.history.Record.{Record}
use Rattle.ww_lock.specs.declared.hand.Hand.TheInside.{Inside}
use Rattle.ww_lock.specs.declared.prepared.Receipt.{Receipt}
use Rattle.ww_lock.specs.Holding.{Change}
use Rattle.ww_lock.specs.Carried.{Carried, holding_of, MayStillCommit}
use Rattle.ww_lock.specs.Hands.{carried_of}
use Rattle.ww_lock.specs.Making.{IsChangeMade}
use Rattle.ww_lock.specs.Moves.{IsCommitted}
use Rattle.ww_lock.proofs.Carrying.{at_board}
use Rattle.ww_lock.proofs.Changes.{Commits, change_of, may_settle, commits}
use Rattle.ww_lock.proofs.hand.Hand.commit.Goals.{After-drop-changes}
use Rattle.ww_lock.proofs.hand.Hand.commit.Goals as goal

pub commit-place-requires-clause-may : goal.commit-place-requires-clause-may
commit-place-requires-clause-may c = let h = c.self.inside in
    let i = c.prepared.inside in
    let p = change_of i in
    let r : Record = record (i.record) { caller = c.caller.result; seq = c.commits-seq.result } in
    let fresh = subst MayStillCommit (sym c.self.view_is) c.requires.may.0 in
    let who = c.caller.ensures ∙ sym (ap (λ (v : Carried). (holding_of v).caller) c.self.view_is) in
    let seq = c.commits-seq.ensures ∙ sym (ap (λ (v : Carried). length (holding_of v).own) c.self.view_is) in
    let at = at_board h c.args.self.now c.world.inside.board c.world.inside.wires.items c.args.world.now c.self.view_is
    c.world.view_is c.requires.home c.self.invariant in
    let made = subst (λ (q : Change). IsChangeMade (holding_of c.args.self.now) q) (sym c.prepared.view_is) c.requires.may.1 in
    let mine = subst (λ (v : Carried). IsChangeMade (holding_of v) p) (sym c.self.view_is) made in
    let m = may_settle h p r c.self.invariant fresh mine seq c.prepared.invariant.next.fits in record {
      away = c.self.invariant.away;
      owner = m.owner;
      caller = who;
      seq = m.seq;
      next = let next = c.prepared.invariant.next in record { fits = next.fits; no_double = next.no_double; answered = next.answered };
      changes_are = c.deref.ensures.value ∙ c.prepared.invariant.changes;
      size = mine.sizes ∙ sym c.self.invariant.size ∙ at.size;
      held = m.held;
      fewer = m.fewer;
      reserved = mine.room;
    }

abbrev after : After-drop-changes → Inside
after c = record (c.self.inside) { seat = c.commit-place.new.self }

abbrev told : After-drop-changes → Receipt
told c = record { place = c.commit-place.result; seq = c.commits-seq.result; reply = c.prepared.inside.reply }

done : (c : After-drop-changes) → Commits c.self.inside (after c) (change_of c.prepared.inside) (told c)
done c =
    let h = c.self.inside in
    let i = c.prepared.inside in
    let r : Record = record (i.record) { caller = c.caller.result; seq = c.commits-seq.result } in
    let who = c.caller.ensures ∙ sym (ap (λ (v : Carried). (holding_of v).caller) c.self.view_is) in
    let seq = c.commits-seq.ensures ∙ sym (ap (λ (v : Carried). length (holding_of v).own) c.self.view_is) in
    commits h c.commit-place.new.self (change_of i) r i.before.value (told c) c.self.invariant
    (subst MayStillCommit (sym c.self.view_is) c.requires.may.0) c.commit-place.ensures
    (λ j. record { caller = who j; seq = seq j; transaction = (change_of i).transaction; answer = (change_of i).answer }) seq
    c.prepared.invariant.reply

pub invariant_of-self : goal.invariant_of-self
invariant_of-self c = (done c).carries

pub returns : goal.returns
returns c = subst (λ (q : Change). IsCommitted (holding_of c.args.self.now) q (holding_of (carried_of (after c))) (told c)) c.prepared.view_is
    (subst (λ (v : Carried). IsCommitted (holding_of v) (change_of c.prepared.inside) (holding_of (carried_of (after c))) (told c))
    c.self.view_is (done c).is)

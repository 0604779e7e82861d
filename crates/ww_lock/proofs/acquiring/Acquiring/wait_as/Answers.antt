use Rattle.std.proofs.Common.{◌≡◌, ℕ, List, ap, arith, Err, false, length, refl, subst, ◌∙◌}
use Rattle.ww_plain.specs.Numbers.{is_among}
use Rattle.ww_seat.specs.declared.waiting.NoLock.{NoLock}
use Rattle.ww_lock.specs.Holding.{Holding}
use Rattle.ww_lock.specs.Carried.{holding_of}
use Rattle.ww_lock.specs.Moves.{HasReturned}
use Rattle.ww_lock.proofs.acquiring.Acquiring.wait_as.Goals as goal

pub invariant_of-result : goal.invariant_of-result
invariant_of-result g c = let l = c.requires.may.0 in
    let e = c.in-Ok.ensures l.before (ap holding_of c.deref_mut.ensures.value ∙ l.tried) in (
      e.0,
      omega (arith, c.requires.may.1, ap (λ (s : Holding). s.stamp) l.tried, ap (λ (s : Holding). s.stamp) e.2.added),
      e.3,
    )

pub invariant_of-result-in-Err-Deadlk : goal.invariant_of-result-in-Err-Deadlk
invariant_of-result-in-Err-Deadlk g c = let l = c.requires.may.0 in
    let e = subst (λ (why : NoLock). HasReturned l.before c.args.n c.args.waits (Err why) c.wait_for.new.self) c.in-Err-Deadlk.field-0-is
    (c.in-Err-Deadlk.ensures l.before (ap holding_of c.deref_mut.ensures.value ∙ l.tried)) in (
      e.0,
      e.3,
      e.2.1,
      omega (arith, e.2.2, ap (λ (s : Holding). s.stamp) e.2.0),
      omega (arith, l.may.there, ap (λ (s : Holding). length s.seen) l.tried, ap (λ (s : Holding). length s.seen) e.2.0),
    )

pub overflow_cast-result : goal.overflow_cast-result
overflow_cast-result g c = let l = c.requires.may.0 in
    let e = subst (λ (why : NoLock). HasReturned l.before c.args.n c.args.waits (Err why) c.wait_for.new.self) c.in-Err-Interrupted.field-0-is
    (c.in-Err-Interrupted.ensures l.before (ap holding_of c.deref_mut.ensures.value ∙ l.tried)) in
    let few = e.4.1 in omega (arith, few)

pub invariant_of-result-in-Err-Interrupted : goal.invariant_of-result-in-Err-Interrupted
invariant_of-result-in-Err-Interrupted g c = let l = c.requires.may.0 in
    let e = subst (λ (why : NoLock). HasReturned l.before c.args.n c.args.waits (Err why) c.wait_for.new.self) c.in-Err-Interrupted.field-0-is
    (c.in-Err-Interrupted.ensures l.before (ap holding_of c.deref_mut.ensures.value ∙ l.tried)) in (
      e.0,
      omega (arith, c.requires.may.1, ap (λ (s : Holding). s.stamp) l.tried, ap (λ (s : Holding). s.stamp) e.2.told),
      e.3,
    )

pub returns-in-Ok : goal.returns-in-Ok
returns-in-Ok g c = λ s was. let e = c.in-Ok.ensures s (ap holding_of c.deref_mut.ensures.value ∙ was) in (e.2, e.1)

pub returns-in-Err-Deadlk : goal.returns-in-Err-Deadlk
returns-in-Err-Deadlk g c = λ s was.
    let e = subst (λ (why : NoLock). HasReturned s c.args.n c.args.waits (Err why) c.wait_for.new.self) c.in-Err-Deadlk.field-0-is
    (c.in-Err-Deadlk.ensures s (ap holding_of c.deref_mut.ensures.value ∙ was)) in (
      record {
        new = subst (λ (ns : List ℕ). is_among c.args.n ns ≡ false) (ap (λ (a : Holding). a.held) was) c.requires.may.0.may.new;
        holds = e.2.3;
        told = e.2.0;
        contended = refl;
        is_stamp = e.2.1;
        older = e.2.2;
      },
      e.1,
    )

pub returns-in-Err-Interrupted : goal.returns-in-Err-Interrupted
returns-in-Err-Interrupted g c = λ s was.
    let e = subst (λ (why : NoLock). HasReturned s c.args.n c.args.waits (Err why) c.wait_for.new.self) c.in-Err-Interrupted.field-0-is
    (c.in-Err-Interrupted.ensures s (ap holding_of c.deref_mut.ensures.value ∙ was)) in (e.4.0, e.2)

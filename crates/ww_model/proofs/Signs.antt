-- Each event keeps who may have a sign.
use Rattle.std.proofs.Common.{◌≡◌, ◌≢◌, ◌⊎◌, inl, inr, ⊎_elim, ℕ, suc, ◌<◌, List, refl, sym, ap, ◌∙◌, subst, arith}
use mathlib.Core.Logic.{dite}
use native.Mathlib.Decide.{ℕ_discrete}
use Rattle.ww_queue.specs.declared.kind.Kind.{Kind}
use Rattle.ww_queue.specs.declared.entry.Entry.{Entry}
use Rattle.ww_queue.specs.Queue.{Has, Stands, joined, left}
use Rattle.ww_queue.proofs.Joins.{joined_has, joined_old}
use Rattle.ww_queue.proofs.Leaves.{left_has, left_others}
use Rattle.ww_model.specs.declared.state.Holder.{Holder}
use Rattle.ww_model.specs.declared.state.Holder.TheVariants.{Nobody, Taken}
use Rattle.ww_model.specs.declared.event.Event.TheVariants.{Clear, Fast, FastGive, Guard, Join, Sign, Take, Give, Die, Unguard, Leave}
use Rattle.ww_model.specs.State.{put, waiter_of, place_of}
use Rattle.ww_model.specs.Event.{given_to}
use Rattle.ww_model.specs.Lawful.{Signs, Keeps}
use Rattle.ww_model.proofs.Puts.{put_else, put_cases}
use Rattle.ww_model.proofs.Holders.{other_seat}
use Rattle.ww_model.proofs.Dues.{wound_from, death_from, sign_for, sign_owed}

-- who owned none before a lock changed hands
pub owned_none : (owner : ℕ → Holder) (n : ℕ) (o : Holder) (t : ℕ) → owner n ≢ Taken t
    → ((m : ℕ) → put owner n o m ≢ Taken t) → (m : ℕ) → owner m ≢ Taken t
owned_none owner n o t isnt none m a = dite (ℕ_discrete m n) (λ e. isnt (ap owner (sym e) ∙ a)) (λ d. none m (put_else owner n o m d ∙ a))

pub reowned : (kind : Kind) (mark : ℕ → ℕ) (owner : ℕ → Holder) (queue : ℕ → List Entry) (guard : ℕ → ℕ) (n : ℕ) (o : Holder)
    → ((m : ℕ) (e : Entry) → Has (queue m) e → owner n ≢ Taken e.seat) → Signs kind mark owner queue guard
    → Signs kind mark (put owner n o) queue guard
reowned kind mark owner queue guard n o isnt l = record {
  unowning = λ wounding m e h none. l.unowning wounding m e h (owned_none owner n o e.seat (isnt m e h) none);
  waiting = l.waiting;
}

-- a seat inside leaves the list
pub shrunk : (kind : Kind) (mark : ℕ → ℕ) (owner : ℕ → Holder) (queue : ℕ → List Entry) (guard : ℕ → ℕ) (s n : ℕ) →
    guard n ≡ suc s → Signs kind mark owner queue guard → Signs kind mark owner (put queue n (left (queue n) s)) guard
shrunk kind mark owner queue guard s n inside l = record {
  unowning = λ wounding m e. put_cases queue n (left (queue n) s) m (λ q. Has q e → ((i : ℕ) → owner i ≢ Taken e.seat) → mark e.seat ≡ 0)
      (λ _ h. l.unowning wounding n e (left_has (queue n) s e h)) (λ _. l.unowning wounding m e);
  waiting = λ dying t p. dite (ℕ_discrete t s) (λ i. inr (n, inside ∙ ap suc (sym i))) (λ isnt. ⊎_elim
      (λ x. inl (
        x.0,
        (
          x.1.0,
          put_cases queue n (left (queue n) s) x.0 (λ q. Has q x.1.0)
              (λ is. left_others (queue n) s x.1.0 (λ i. isnt (sym x.1.2 ∙ i)) (subst (λ y. Has (queue y) x.1.0) is x.1.1)) (λ _. x.1.1),
          x.1.2,
        ),
      )) inr (l.waiting dying t p));
}

pub keeps_signs : Keeps (λ c. Signs c.kind c.sign c.owner c.queue c.guard)
keeps_signs c (Clear s) can l = record {
  unowning = λ wounding m e h none. put_cases c.sign s 0 e.seat (λ x. x ≡ 0) (λ _. refl) (λ _. l.signs.signs.unowning wounding m e h none);
  waiting = λ dying t. put_cases c.sign s 0 t
      (λ x. 0 < x → ((n : ℕ) × Stands (c.queue n) t) ⊎ ((n : ℕ) × (c.guard n ≡ suc t)))
      (λ _ p. absurd (omega arith)) (λ _. l.signs.signs.waiting dying t);
}
keeps_signs c (Fast s n) can l = reowned c.kind c.sign c.owner c.queue c.guard n (Taken s)
    (λ m e h i. let o = can.base.idle.free in cc) l.signs.signs
keeps_signs c (FastGive s n) can l = reowned c.kind c.sign c.owner c.queue c.guard n Nobody
    (λ m e h. other_seat s e.seat (c.owner n) can.base.owns (can.base.away.queue m e h)) l.signs.signs
keeps_signs c (Give s n) can l = reowned c.kind c.sign c.owner c.queue c.guard n (given_to (c.asked n) (c.queue n))
    (λ m e h. other_seat s e.seat (c.owner n) can.base.owns
    (λ i. (l.base.owners.at n).taken_stands_not s can.base.owns e
    (subst (λ x. Has (c.queue x) e) (l.base.guards.own_guard m n e h (can.base.inside.guard ∙ ap suc (sym i)))
    h) i)) l.signs.signs
keeps_signs c (Take s n) can l = shrunk c.kind c.sign (put c.owner n (Taken s)) c.queue c.guard s n can.base.inside.guard
    (reowned c.kind c.sign c.owner c.queue c.guard n (Taken s)
    (λ m e h i. ⊎_elim (λ o. let w : ⊥ = cc in w) (λ o. let w : ⊥ = cc in w) can.base.free) l.signs.signs)
keeps_signs c (Die s n) can l = shrunk c.kind c.sign c.owner c.queue c.guard s n can.base.inside.guard l.signs.signs
keeps_signs c (Leave s n) can l = shrunk c.kind c.sign c.owner c.queue c.guard s n can.base.inside.guard l.signs.signs
keeps_signs c (Join s n) can l = record {
  unowning = λ wounding m e. put_cases c.queue n (joined (c.queue n) (waiter_of c s)) m
      (λ q. Has q e → ((i : ℕ) → c.owner i ≢ Taken e.seat) → c.sign e.seat ≡ 0)
      (λ _ h none. ⊎_elim (λ x. let same = ap (λ (y : Entry). y.seat) x in
      ⊎_elim (λ p. ap c.sign same ∙ p) (λ p. absurd (none p.0 (p.1 ∙ ap Taken (sym same)))) can.signs)
      (λ x. l.signs.signs.unowning wounding n e x none) (joined_has (c.queue n) (waiter_of c s) e h))
      (λ _. l.signs.signs.unowning wounding m e);
  waiting = λ dying t p. ⊎_elim (λ x. inl (
    x.0,
    (
      x.1.0,
      put_cases c.queue n (joined (c.queue n) (waiter_of c s)) x.0 (λ q. Has q x.1.0)
          (λ is. joined_old (c.queue n) (waiter_of c s) x.1.0 (subst (λ y. Has (c.queue y) x.1.0) is x.1.1)) (λ _. x.1.1),
      x.1.2,
    ),
  )) inr (l.signs.signs.waiting dying t p);
}
keeps_signs c (Guard s n) can l = record {
  unowning = l.signs.signs.unowning;
  waiting = λ dying t p. ⊎_elim inl (λ x. inr (
    x.0,
    put_else c.guard n (suc s) x.0
        (λ is. let z = ap c.guard is in let y = can.base.free in let w = x.1 in omega arith) ∙ x.1,
  )) (l.signs.signs.waiting dying t p);
}
keeps_signs c (Unguard s n) can l = record {
  unowning = l.signs.signs.unowning;
  waiting = λ dying t p. ⊎_elim inl (λ x. inr (
    x.0,
    put_else c.guard n 0 x.0
        (λ is. let same : t ≡ s = (let z = ap c.guard is in let y = can.base.inside.guard in let w = x.1 in omega arith) in
        let v = ap c.sign same in let u = (can.signs.safe dying).unsigned in omega arith) ∙ x.1,
  )) (l.signs.signs.waiting dying t p);
}
keeps_signs c (Sign s v) can l = let n = place_of c s in let k = sign_for c s v in let owed = sign_owed c s v can.signs.owed in record {
  unowning = λ wounding m e h none. put_cases c.sign v k e.seat (λ x. x ≡ 0)
      (λ is. absurd (none n ((wound_from c s n v k wounding owed).0 ∙ ap Taken (sym is))))
      (λ _. l.signs.signs.unowning wounding m e h none);
  waiting = λ dying t. put_cases c.sign v k t (λ x. 0 < x → ((i : ℕ) × Stands (c.queue i) t) ⊎ ((i : ℕ) × (c.guard i ≡ suc t)))
      (λ is _. let r = death_from c s n v k dying owed in inl (n, (r.entry, r.stands, r.seat ∙ sym is)))
      (λ _. l.signs.signs.waiting dying t);
}
keeps_signs c _ can l = l.signs.signs

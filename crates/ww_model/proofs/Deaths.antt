-- Each event keeps what Wait-Die promises.
use Rattle.std.proofs.Common.{◌≡◌, ◌≢◌, ◌⊎◌, inl, inr, ⊎_elim, ℕ, suc, ◌+◌, ◌<◌, true, List, None, sym, ap, ◌∙◌, subst, arith}
use Rattle.std.specs.Option.{IsSome}
use mathlib.Core.Logic.{dite}
use native.Mathlib.Decide.{ℕ_discrete}
use Rattle.ww_queue.specs.declared.kind.Kind.TheVariants.{WaitDie}
use Rattle.ww_queue.specs.declared.entry.Entry.{Entry}
use Rattle.ww_queue.specs.Queue.{Has, Before, joined, left}
use Rattle.ww_queue.proofs.Joins.{joined_has, joined_before}
use Rattle.ww_queue.proofs.Leaves.{left_before}
use Rattle.ww_queue.proofs.Aheads.{before_second}
use Rattle.ww_model.specs.declared.state.Holder.{Holder}
use Rattle.ww_model.specs.declared.state.Holder.TheVariants.{Nobody, Taken}
use Rattle.ww_model.specs.declared.event.Event.TheVariants.{Begin, Clear, Fast, FastGive, Guard, Join, Sign, Take, Give, Die, Unguard, End, Leave}
use Rattle.ww_model.specs.State.{State, put, waiter_of, dies, owes}
use Rattle.ww_model.specs.Event.{given_to}
use Rattle.ww_model.specs.Lawful.{QueueAt, DeathsAt, Deaths, Keeps}
use Rattle.ww_model.proofs.Options.{some_of}
use Rattle.ww_model.proofs.Puts.{put_cases, puts_cases}
use Rattle.ww_model.proofs.Departures.{stood, stood_before}
use Rattle.ww_model.proofs.Holders.{not_given}
use Rattle.ww_model.proofs.Dues.{dies_younger, dies_behind, owes_death, sign_for, sign_some}

pub stamp_moves : (stamp mark : ℕ → ℕ) (o : Holder) (q : List Entry) (g s k : ℕ) → o ≢ Taken s
    → DeathsAt stamp mark o q g → DeathsAt (put stamp s k) mark o q g
stamp_moves stamp mark o q g s k isnt l = record {
  younger_signed = λ t e own. put_cases stamp s k t
      (λ x. 0 < x → g ≢ suc t → Has q e → g ≢ suc e.seat → e.holds ≡ true → x < e.stamp → 0 < mark e.seat)
      (λ is. absurd (isnt (own ∙ ap Taken is))) (λ _. l.younger_signed t e own);
  later_holders_signed = l.later_holders_signed;
}

pub sign_moves : (stamp mark : ℕ → ℕ) (o : Holder) (q : List Entry) (g s k : ℕ) →
    ((e : Entry) → Has q e → g ≢ suc e.seat → (e.seat ≢ s) ⊎ (0 < k)) → DeathsAt stamp mark o q g → DeathsAt stamp (put mark s k) o q g
sign_moves stamp mark o q g s k how l = record {
  younger_signed = λ t e own p out h out' b younger. put_cases mark s k e.seat (λ x. 0 < x)
      (λ is. ⊎_elim (λ isnt. absurd (isnt is)) (λ some. some) (how e h out')) (λ _. l.younger_signed t e own p out h out' b younger);
  later_holders_signed = λ e f h p p' out out' b. put_cases mark s k f.seat (λ x. 0 < x)
      (λ is. ⊎_elim (λ isnt. absurd (isnt is)) (λ some. some) (how f (before_second q e f h) out'))
      (λ _. l.later_holders_signed e f h p p' out out' b);
}

-- nobody outside the guard owns the lock any more, and nobody new stands in the list
pub unowned : (stamp mark : ℕ → ℕ) (o o' : Holder) (q q' : List Entry) (g : ℕ) →
    ((t : ℕ) → o' ≡ Taken t → g ≡ suc t) → ((e f : Entry) → Before q' e f → Before q e f)
    → DeathsAt stamp mark o q g → DeathsAt stamp mark o' q' g
unowned stamp mark o o' q q' g void from l = record {
  younger_signed = λ t e own _ out. absurd (out (void t own));
  later_holders_signed = λ e f h. l.later_holders_signed e f (from e f h);
}

-- a waiter that has to die and isn't signed keeps the seat inside
pub all_signed : (c : State) (s n : ℕ) → c.kind ≡ WaitDie → ((v k : ℕ) → Has (owes c s n) (v, k) → c.sign v ≢ 0) → dies c s n ≡ None →
    (t : ℕ) → IsSome (dies c t n) → 0 < c.sign t
all_signed c s n dying paid lives t d = let k = some_of (dies c t n) d in dite (ℕ_discrete t s)
    (λ is. let some = k.1 in let none = ap (λ x. dies c x n) is ∙ lives in absurd cc)
    (λ isnt. let z = paid t k.0 (owes_death c s n t k.0 dying isnt k.1) in omega arith)

pub unguarded : (c : State) (s n : ℕ) → c.kind ≡ WaitDie → QueueAt c.stamp c.owner (c.queue n)
    → ((v k : ℕ) → Has (owes c s n) (v, k) → c.sign v ≢ 0) →
    dies c s n ≡ None → DeathsAt c.stamp c.sign (c.owner n) (c.queue n) 0
unguarded c s n dying l paid lives = record {
  younger_signed = λ t e own p _ h _ b younger. all_signed c s n dying paid lives e.seat
      (dies_younger c n e dying l.once h (omega arith) b t own
      (λ is. let z = l.stamps e h in let y = ap c.stamp is in omega arith) p younger);
  later_holders_signed = λ e f h p p' _ _ b. let k = before_second (c.queue n) e f h in
      all_signed c s n dying paid lives f.seat (dies_behind c n f dying l.once k p' b e h p);
}

departed : (c : State) (s n m : ℕ) → DeathsAt c.stamp c.sign (c.owner m) (c.queue m) (c.guard m) →
    DeathsAt c.stamp c.sign (c.owner m) (put c.queue n (left (c.queue n) s) m) (c.guard m)
departed c s n m l = record {
  younger_signed = λ t e own p out h. l.younger_signed t e own p out (stood c.queue n s m e h);
  later_holders_signed = λ e f h. l.later_holders_signed e f (stood_before c.queue n s m e f h);
}

pub keeps_deaths : Keeps (λ c. Deaths c.kind c.stamp c.sign c.owner c.queue c.guard)
keeps_deaths c (Begin s) can l = λ dying m. stamp_moves c.stamp c.sign (c.owner m) (c.queue m) (c.guard m) s
    (c.drawn + 1) (can.base.owns_none m) (l.signs.deaths dying m)
keeps_deaths c (End s) can l = λ dying m. stamp_moves c.stamp c.sign (c.owner m) (c.queue m) (c.guard m) s 0
    (can.base.owns_none m) (l.signs.deaths dying m)
keeps_deaths c (Clear s) can l = λ dying m. sign_moves c.stamp c.sign (c.owner m) (c.queue m) (c.guard m) s 0
    (λ e h out. inl (λ is. ⊎_elim (λ a. a.0.queue m e h is)
    (λ a. out (ap c.guard (l.base.guards.own_guard m a.0 e h (a.1.inside.guard ∙ ap suc (sym is)))
    ∙ a.1.inside.guard ∙ ap suc (sym is))) can.signs)) (l.signs.deaths dying m)
keeps_deaths c (Sign s v) can l = λ dying m. sign_moves c.stamp c.sign (c.owner m) (c.queue m) (c.guard m) v (sign_for c s v)
    (λ e h out. inr (sign_some c s v l.base can.signs.owed)) (l.signs.deaths dying m)
keeps_deaths c (Fast s n) can l = λ dying m. put_cases c.owner n (Taken s) m (λ o. DeathsAt c.stamp c.sign o (c.queue m) (c.guard m))
    (λ is. subst (λ q. DeathsAt c.stamp c.sign (Taken s) q (c.guard m)) (sym (ap c.queue is ∙ can.base.idle.empty))
    record { younger_signed = λ t e _ _ _ h. absurd h; later_holders_signed = λ e f h. absurd h }) (λ _. l.signs.deaths dying m)
keeps_deaths c (FastGive s n) can l = λ dying m. put_cases c.owner n Nobody m (λ o. DeathsAt c.stamp c.sign o (c.queue m) (c.guard m))
    (λ _. unowned c.stamp c.sign (c.owner m) Nobody (c.queue m) (c.queue m) (c.guard m) (λ t own. absurd (cc))
    (λ e f h. h) (l.signs.deaths dying m)) (λ _. l.signs.deaths dying m)
keeps_deaths c (Give s n) can l = λ dying m. put_cases c.owner n (given_to (c.asked n) (c.queue n)) m
    (λ o. DeathsAt c.stamp c.sign o (c.queue m) (c.guard m))
    (λ _. unowned c.stamp c.sign (c.owner m) (given_to (c.asked n) (c.queue n)) (c.queue m) (c.queue m) (c.guard m)
    (λ t own. absurd (not_given (c.asked n) (c.queue n) t own)) (λ e f h. h) (l.signs.deaths dying m)) (λ _. l.signs.deaths dying m)
keeps_deaths c (Take s n) can l = λ dying m. puts_cases c.owner c.queue n (Taken s) (left (c.queue n) s) m
    (λ o q. DeathsAt c.stamp c.sign o q (c.guard m))
    (λ is. unowned c.stamp c.sign (c.owner m) (Taken s) (c.queue m) (left (c.queue n) s) (c.guard m)
    (λ t own. ap c.guard is ∙ can.base.inside.guard ∙ ap suc (let z : s ≡ t = cc in z))
    (λ e f h. subst (λ x. Before (c.queue x) e f) (sym is) (left_before (c.queue n) s e f h))
    (l.signs.deaths dying m)) (λ _. l.signs.deaths dying m)
keeps_deaths c (Guard s n) can l = λ dying m. put_cases c.guard n (suc s) m (λ g. DeathsAt c.stamp c.sign (c.owner m) (c.queue m) g)
    (λ is. let free = λ (t : ℕ) (z : c.guard m ≡ suc t). let y = ap c.guard is in let f = can.base.free in
    let w : ⊥ = omega arith in w in record {
      younger_signed = λ t e own p _ h _. (l.signs.deaths dying m).younger_signed t e own p (free t) h (free e.seat);
      later_holders_signed = λ e f h p p' _ _. (l.signs.deaths dying m).later_holders_signed e f h p p' (free e.seat) (free f.seat);
    }) (λ _. l.signs.deaths dying m)
keeps_deaths c (Join s n) can l = λ dying m. put_cases c.queue n (joined (c.queue n) (waiter_of c s)) m
    (λ q. DeathsAt c.stamp c.sign (c.owner m) q (c.guard m))
    (λ is. let mine = λ (e : Entry) (i : e ≡ waiter_of c s). let z : c.guard m ≡ suc e.seat = ap c.guard is
    ∙ can.base.inside.guard ∙ sym (ap (λ (x : Entry). suc x.seat) i) in z in record {
      younger_signed = λ t e own p out h out'. (l.signs.deaths dying m).younger_signed t e own p out
          (⊎_elim (λ i. absurd (out' (mine e i))) (λ i. subst (λ x. Has (c.queue x) e) (sym is) i)
          (joined_has (c.queue n) (waiter_of c s) e h)) out';
      later_holders_signed = λ e f h p p' out out'. (l.signs.deaths dying m).later_holders_signed e f
          (⊎_elim (λ i. absurd (out (mine e i)))
          (⊎_elim (λ i. absurd (out' (mine f i))) (λ i. subst (λ x. Before (c.queue x) e f) (sym is) i))
          (joined_before (c.queue n) (waiter_of c s) e f h)) p p' out out';
    }) (λ _. l.signs.deaths dying m)
keeps_deaths c (Die s n) can l = λ dying m. departed c s n m (l.signs.deaths dying m)
keeps_deaths c (Leave s n) can l = λ dying m. departed c s n m (l.signs.deaths dying m)
keeps_deaths c (Unguard s n) can l = λ dying m. put_cases c.guard n 0 m (λ g. DeathsAt c.stamp c.sign (c.owner m) (c.queue m) g)
    (λ is. subst (λ x. DeathsAt c.stamp c.sign (c.owner x) (c.queue x) 0) (sym is)
    (unguarded c s n dying (l.base.queues.at n) can.signs.signed (can.signs.safe dying).lives)) (λ _. l.signs.deaths dying m)
keeps_deaths c _ can l = l.signs.deaths

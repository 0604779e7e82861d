-- Each event keeps what a seat without a context may hold.
use Rattle.std.proofs.Common.{◌≡◌, ◌≢◌, ◌⊎◌, ⊎_elim, ℕ, suc, ◌+◌, ◌<◌, List, sym, ap, ◌∙◌, arith}
use Rattle.ww_queue.specs.declared.entry.Entry.{Entry}
use Rattle.ww_queue.specs.Queue.{Has, joined, left}
use Rattle.ww_queue.proofs.Joins.{joined_has}
use Rattle.ww_queue.proofs.Leaves.{left_has, left_gone}
use Rattle.ww_model.specs.declared.state.Holder.{Holder}
use Rattle.ww_model.specs.declared.state.Holder.TheVariants.{Nobody, Taken}
use Rattle.ww_model.specs.declared.event.Event.TheVariants.{Begin, Fast, FastGive, Join, Take, Give, Die, End, Leave}
use Rattle.ww_model.specs.State.{State, put, waiter_of}
use Rattle.ww_model.specs.Event.{given_to}
use Rattle.ww_model.specs.Lawful.{Solos, KeepsBase}
use Rattle.ww_model.proofs.Puts.{put_cases, put_was, put_kept}
use Rattle.ww_model.proofs.Departures.{stood}
use Rattle.ww_model.proofs.Holders.{not_given}

-- a seat takes one lock more
pub gets : (stamp : ℕ → ℕ) (owner : ℕ → Holder) (queue : ℕ → List Entry) (s n : ℕ) → (0 < stamp s)
    ⊎ ((m : ℕ) → owner m ≢ Taken s) → Solos stamp owner queue
    → (t i j : ℕ) → stamp t ≡ 0 → put owner n (Taken s) i ≡ Taken t → put owner n (Taken s) j ≡ Taken t → i ≡ j
gets stamp owner queue s n may l t i j solo a b =
    let none = λ (k : ℕ) (x : Taken s ≡ Taken t) (y : owner k ≡ Taken t). let e : s ≡ t = cc in
    let w : ⊥ = ⊎_elim (λ p. let z = ap stamp e in omega arith) (λ p. p k (y ∙ ap Taken (sym e))) may in w in
    ⊎_elim
    (λ x. ⊎_elim (λ y. x.0 ∙ sym y.0) (λ y. absurd (none j x.1 y.1)) (put_was owner n (Taken s) j (λ o. o ≡ Taken t) b))
    (λ x. ⊎_elim (λ y. absurd (none i y.1 x.1)) (λ y. l.one_lock t i j solo x.1 y.1) (put_was owner n (Taken s) j (λ o. o ≡ Taken t) b))
    (put_was owner n (Taken s) i (λ o. o ≡ Taken t) a)

-- nobody has taken the lock any more
pub gives : (stamp : ℕ → ℕ) (owner : ℕ → Holder) (queue : ℕ → List Entry) (n : ℕ) (o : Holder)
    → ((t : ℕ) → o ≢ Taken t) → Solos stamp owner queue →
    Solos stamp (put owner n o) queue
gives stamp owner queue n o isnt l = let was = λ (t i : ℕ). put_kept owner n o i (λ x. x ≡ Taken t) (isnt t) in record {
  one_lock = λ t i j solo a b. l.one_lock t i j solo (was t i a) (was t j b);
  none_queued = λ i j e h solo a. l.none_queued i j e h solo (was e.seat j a);
}

departed : (c : State) (s n : ℕ) → Solos c.stamp c.owner c.queue → Solos c.stamp c.owner (put c.queue n (left (c.queue n) s))
departed c s n l = record { one_lock = l.one_lock; none_queued = λ i j e h. l.none_queued i j e (stood c.queue n s i e h) }

pub keeps_solos : KeepsBase (λ c. Solos c.stamp c.owner c.queue)
keeps_solos c (Begin s) can l = record {
  one_lock = λ t i j. put_cases c.stamp s (c.drawn + 1) t (λ x. x ≡ 0 → c.owner i ≡ Taken t → c.owner j ≡ Taken t → i ≡ j)
      (λ _ h. absurd (omega arith)) (λ _. l.solos.one_lock t i j);
  none_queued = λ i j e h. put_cases c.stamp s (c.drawn + 1) e.seat (λ x. x ≡ 0 → c.owner j ≢ Taken e.seat)
      (λ _ z. absurd (omega arith)) (λ _. l.solos.none_queued i j e h);
}
keeps_solos c (End s) can l = record {
  one_lock = λ t i j. put_cases c.stamp s 0 t (λ x. x ≡ 0 → c.owner i ≡ Taken t → c.owner j ≡ Taken t → i ≡ j)
      (λ is _ a. absurd (can.owns_none i (a ∙ ap Taken is))) (λ _. l.solos.one_lock t i j);
  none_queued = λ i j e h. put_cases c.stamp s 0 e.seat (λ x. x ≡ 0 → c.owner j ≢ Taken e.seat)
      (λ is _ a. can.owns_none j (a ∙ ap Taken is)) (λ _. l.solos.none_queued i j e h);
}
keeps_solos c (Fast s n) can l = record {
  one_lock = gets c.stamp c.owner c.queue s n can.may_own l.solos;
  none_queued = λ i j e h solo. put_cases c.owner n (Taken s) j (λ o. o ≢ Taken e.seat)
      (λ _ a. can.away.queue i e h (let z : e.seat ≡ s = cc in z)) (λ _. l.solos.none_queued i j e h solo);
}
keeps_solos c (Take s n) can l = record {
  one_lock = gets c.stamp c.owner c.queue s n can.may_own l.solos;
  none_queued = λ i j e. put_cases c.queue n (left (c.queue n) s) i
      (λ q. Has q e → c.stamp e.seat ≡ 0 → put c.owner n (Taken s) j ≢ Taken e.seat)
      (λ _ h solo. put_cases c.owner n (Taken s) j (λ o. o ≢ Taken e.seat)
      (λ _ a. left_gone (c.queue n) s (l.queues.at n).once e h (let z : e.seat ≡ s = cc in z))
      (λ _. l.solos.none_queued n j e (left_has (c.queue n) s e h) solo))
      (λ isnt h solo. put_cases c.owner n (Taken s) j (λ o. o ≢ Taken e.seat)
      (λ _ a. isnt (l.guards.own_guard i n e h (can.inside.guard ∙ ap suc (let z : s ≡ e.seat = cc in z))))
      (λ _. l.solos.none_queued i j e h solo));
}
keeps_solos c (FastGive s n) can l = gives c.stamp c.owner c.queue n Nobody (λ t o. cc) l.solos
keeps_solos c (Give s n) can l = gives c.stamp c.owner c.queue n (given_to (c.asked n) (c.queue n))
    (not_given (c.asked n) (c.queue n)) l.solos
keeps_solos c (Join s n) can l = record {
  one_lock = l.solos.one_lock;
  none_queued = λ i j e. put_cases c.queue n (joined (c.queue n) (waiter_of c s)) i
      (λ q. Has q e → c.stamp e.seat ≡ 0 → c.owner j ≢ Taken e.seat)
      (λ _ h solo a. ⊎_elim (λ x. let same = ap (λ (y : Entry). y.seat) x in
      ⊎_elim (λ p. let z = ap c.stamp same in omega arith) (λ p. p j (a ∙ ap Taken same)) can.may_own)
      (λ x. l.solos.none_queued n j e x solo a) (joined_has (c.queue n) (waiter_of c s) e h))
      (λ _ h. l.solos.none_queued i j e h);
}
keeps_solos c (Die s n) can l = departed c s n l.solos
keeps_solos c (Leave s n) can l = departed c s n l.solos
keeps_solos c _ can l = l.solos

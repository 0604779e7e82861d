-- Each event keeps who may have heeded a cancel.
use Rattle.std.proofs.Common.{◌≡◌, ◌≢◌, ◌⊎◌, inl, inr, ⊎_elim, ℕ, suc, ◌+◌, ◌<◌, ◌≤◌, List, [], refl, sym, ap, ◌∙◌, subst, arith}
use mathlib.Core.Logic.{dite}
use native.Mathlib.Decide.{ℕ_discrete}
use Rattle.ww_queue.specs.declared.entry.Entry.{Entry}
use Rattle.ww_queue.specs.Queue.{Has, Stands, StandsNot, joined, left}
use Rattle.ww_queue.proofs.Joins.{joined_old}
use Rattle.ww_model.specs.declared.state.Holder.{Holder}
use Rattle.ww_model.specs.declared.state.Holder.TheVariants.{Nobody, Taken, Handed}
use Rattle.ww_model.specs.declared.event.Event.TheVariants.{Fast, FastGive, Guard, Join, Take, Give, Die, Unguard, Cancel, Heed, Leave}
use Rattle.ww_model.specs.State.{State, put, HasOther, InNoQueue, waiter_of}
use Rattle.ww_model.specs.Event.{CanLeave, given_to}
use Rattle.ww_model.specs.Lawful.{IsKept, Cancels, IsBase, KeepsBase}
use Rattle.ww_model.proofs.Puts.{put_else, put_cases}
use Rattle.ww_model.proofs.Holders.{other_has}

-- owners, lists and guards change, but for what keeps whoever has heeded a cancel
pub moved : (seats : ℕ) (cancel mark : ℕ → ℕ) (owner owner' : ℕ → Holder) (queue queue' : ℕ → List Entry) (guard guard' : ℕ → ℕ) →
    ((t n : ℕ) → 0 < mark t → IsKept owner queue guard t n → IsKept owner' queue' guard' t n) →
    Cancels seats cancel mark owner queue guard → Cancels seats cancel mark owner' queue' guard'
moved seats cancel mark owner owner' queue queue' guard guard' same l = record {
  set = l.set;
  heeded = l.heeded;
  heeding = λ t p. let k = l.heeding t p in (k.0, same t k.0 p k.1);
}

-- the lock of another's guard is another one
pub elsewhere : (guard : ℕ → ℕ) (s t n m : ℕ) → guard n ≡ suc s → guard m ≡ suc t → t ≢ s → m ≢ n
elsewhere guard s t n m mine his other is = other (let z = ap guard is in omega arith)

-- whoever is kept by another from lock n hasn't the lock, and so neither takes nor gives it
pub not_own : (o : Holder) (t : ℕ) → (u : ℕ) × (u ≢ t) × ((o ≡ Taken u) ⊎ (o ≡ Handed u)) → (o ≡ Taken t) ⊎ (o ≡ Handed t) → ⊥
not_own o t other own = other_has o t t other own refl

pub not_free : (o : Holder) (t : ℕ) → (u : ℕ) × (u ≢ t) × ((o ≡ Taken u) ⊎ (o ≡ Handed u)) → (o ≡ Nobody) ⊎ (o ≡ Handed t) → ⊥
not_free o t other free = ⊎_elim
    (λ none. ⊎_elim (λ a. let w : ⊥ = cc in w) (λ a. let w : ⊥ = cc in w) other.2)
    (λ handed. not_own o t other (inr handed)) free

-- a waiter that has heeded a cancel is kept by another
pub kept_there : (c : State) → IsBase c → (s n : ℕ) → CanLeave c s n → HasOther c s n
kept_there c l s n can = let k = l.cancels.heeding s (let z = can.heeded in omega arith) in
    subst (HasOther c s) (l.guards.one_guard s k.0 n k.1.inside can.inside.guard) k.1.other

-- a seat that stands in no list has heeded none
pub away_unheeded : (c : State) → IsBase c → (s : ℕ) → InNoQueue c s → c.heeded s ≡ 0
away_unheeded c l s none = dite (ℕ_discrete (c.heeded s) 0) (λ is. is)
    (λ some. let k = l.cancels.heeding s (omega arith) in let h = k.1.waits in absurd (none k.0 h.0 h.1 h.2))

-- so has one that doesn't wait at the lock that it is inside of
pub inside_unheeded : (c : State) → IsBase c → (s n : ℕ) → c.guard n ≡ suc s → StandsNot (c.queue n) s → c.heeded s ≡ 0
inside_unheeded c l s n inside none = dite (ℕ_discrete (c.heeded s) 0) (λ is. is)
    (λ some. let k = l.cancels.heeding s (omega arith) in let h = k.1.waits in
    absurd (none h.0 (subst (λ m. Has (c.queue m) h.0) (l.guards.one_guard s k.0 n k.1.inside inside) h.1) h.2))

pub keeps_cancels : KeepsBase (λ c. Cancels c.seats c.cancel c.heeded c.owner c.queue c.guard)
keeps_cancels c (Fast s n) can l = moved c.seats c.cancel c.heeded c.owner (put c.owner n (Taken s)) c.queue c.queue
    c.guard c.guard (λ t m p k. record {
      inside = k.inside;
      waits = k.waits;
      other = subst (λ o. (u : ℕ) × (u ≢ t) × ((o ≡ Taken u) ⊎ (o ≡ Handed u))) (sym (put_else c.owner n (Taken s) m
          (λ is. let h = k.waits in let none : Has {A = Entry} [] h.0 =
          subst (λ q. Has q h.0) (ap c.queue is ∙ can.idle.empty) h.1 in none))) k.other;
    }) l.cancels
keeps_cancels c (FastGive s n) can l =
    moved c.seats c.cancel c.heeded c.owner (put c.owner n Nobody) c.queue c.queue c.guard c.guard
    (λ t m p k. record {
      inside = k.inside;
      waits = k.waits;
      other = subst (λ o. (u : ℕ) × (u ≢ t) × ((o ≡ Taken u) ⊎ (o ≡ Handed u))) (sym (put_else c.owner n Nobody m
          (λ is. let h = k.waits in let none : Has {A = Entry} [] h.0 =
          subst (λ q. Has q h.0) (ap c.queue is ∙ can.empty) h.1 in none))) k.other;
    }) l.cancels
keeps_cancels c (Guard s n) can l = moved c.seats c.cancel c.heeded c.owner c.owner c.queue c.queue c.guard
    (put c.guard n (suc s)) (λ t m p k. record {
      inside = put_else c.guard n (suc s) m (λ is. let z = ap c.guard is in let f = can.free in let g = k.inside in omega arith) ∙ k.inside;
      waits = k.waits;
      other = k.other;
    }) l.cancels
keeps_cancels c (Unguard s n) can l = moved c.seats c.cancel c.heeded c.owner c.owner c.queue c.queue c.guard
    (put c.guard n 0) (λ t m p k. record {
      inside = put_else c.guard n 0 m (elsewhere c.guard s t n m can.inside.guard k.inside
          (λ is. let z = ap c.heeded is in let y = can.unheeded in omega arith)) ∙ k.inside;
      waits = k.waits;
      other = k.other;
    }) l.cancels
keeps_cancels c (Join s n) can l = moved c.seats c.cancel c.heeded c.owner c.owner c.queue
    (put c.queue n (joined (c.queue n) (waiter_of c s))) c.guard c.guard (λ t m p k. record {
      inside = k.inside;
      waits = let h = k.waits in (
        h.0,
        put_cases c.queue n (joined (c.queue n) (waiter_of c s)) m (λ q. Has q h.0)
            (λ is. joined_old (c.queue n) (waiter_of c s) h.0 (subst (λ x. Has (c.queue x) h.0) is h.1)) (λ _. h.1),
        h.2,
      );
      other = k.other;
    }) l.cancels
keeps_cancels c (Take s n) can l = moved c.seats c.cancel c.heeded c.owner (put c.owner n (Taken s)) c.queue
    (put c.queue n (left (c.queue n) s)) c.guard c.guard (λ t m p k.
    let far : m ≢ n = elsewhere c.guard s t n m can.inside.guard k.inside
    (λ is. not_free (c.owner n) s (subst (λ x. HasOther c x n) is
    (subst (HasOther c t) (l.guards.one_guard t m n k.inside (can.inside.guard ∙ ap suc (sym is))) k.other))
    can.free) in record {
      inside = k.inside;
      waits = subst (λ q. Stands q t) (sym (put_else c.queue n (left (c.queue n) s) m far)) k.waits;
      other = subst (λ o. (u : ℕ) × (u ≢ t) × ((o ≡ Taken u) ⊎ (o ≡ Handed u))) (sym (put_else c.owner n (Taken s) m far)) k.other;
    }) l.cancels
keeps_cancels c (Give s n) can l = moved c.seats c.cancel c.heeded c.owner
    (put c.owner n (given_to (c.asked n) (c.queue n))) c.queue c.queue c.guard c.guard (λ t m p k.
    let far : m ≢ n = elsewhere c.guard s t n m can.inside.guard k.inside
    (λ is. not_own (c.owner n) s (subst (λ x. HasOther c x n) is
    (subst (HasOther c t) (l.guards.one_guard t m n k.inside (can.inside.guard ∙ ap suc (sym is))) k.other))
    (inl can.owns)) in record {
      inside = k.inside;
      waits = k.waits;
      other = subst (λ o. (u : ℕ) × (u ≢ t) × ((o ≡ Taken u) ⊎ (o ≡ Handed u)))
          (sym (put_else c.owner n (given_to (c.asked n) (c.queue n)) m far)) k.other;
    }) l.cancels
keeps_cancels c (Die s n) can l = moved c.seats c.cancel c.heeded c.owner c.owner c.queue
    (put c.queue n (left (c.queue n) s)) c.guard c.guard (λ t m p k. record {
      inside = k.inside;
      waits = subst (λ q. Stands q t) (sym (put_else c.queue n (left (c.queue n) s) m
          (elsewhere c.guard s t n m can.inside.guard k.inside
          (λ is. let z = ap c.heeded is in let y = can.unheeded in omega arith)))) k.waits;
      other = k.other;
    }) l.cancels
keeps_cancels c (Leave s n) can l = record {
  set = l.cancels.set;
  heeded = λ t. put_cases c.heeded s 0 t (λ x. x ≤ c.seats) (λ _. omega arith) (λ _. l.cancels.heeded t);
  heeding = λ t. put_cases c.heeded s 0 t (λ x. 0 < x → (m : ℕ) × IsKept c.owner (put c.queue n (left (c.queue n) s)) c.guard t m)
      (λ _ p. absurd (omega arith))
      (λ isnt p. let k = l.cancels.heeding t p in (
        k.0,
        record {
          inside = k.1.inside;
          waits = subst (λ q. Stands q t) (sym
              (put_else c.queue n (left (c.queue n) s) k.0
              (elsewhere c.guard s t n k.0 can.inside.guard k.1.inside isnt))) k.1.waits;
          other = k.1.other;
        },
      ));
}
keeps_cancels c (Heed s n) can l = record {
  set = λ t. put_cases c.cancel s 0 t (λ x. x ≤ c.seats) (λ _. omega arith) (λ _. l.cancels.set t);
  heeded = λ t. put_cases c.heeded s (c.cancel s) t (λ x. x ≤ c.seats) (λ _. l.cancels.set s) (λ _. l.cancels.heeded t);
  heeding = λ t. put_cases c.heeded s (c.cancel s) t (λ x. 0 < x → (m : ℕ) × IsKept c.owner c.queue c.guard t m)
      (λ is _. subst (λ x. (m : ℕ) × IsKept c.owner c.queue c.guard x m) (sym is)
      (n, record { inside = can.inside.guard; waits = can.waits; other = can.other }))
      (λ _. l.cancels.heeding t);
}
keeps_cancels c (Cancel s v) can l = record {
  set = λ t. put_cases c.cancel v (s + 1) t (λ x. x ≤ c.seats) (λ _. let z = can.away.seat in omega arith) (λ _. l.cancels.set t);
  heeded = l.cancels.heeded;
  heeding = l.cancels.heeding;
}
keeps_cancels c _ can l = l.cancels

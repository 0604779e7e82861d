-- Whoever is condemned gives way at its next look.
use Rattle.std.proofs.Common.{ℕ, suc, ◌+◌, ◌≡◌, ◌≢◌, ◌<◌, ◌⊎◌, inl, inr, ⊎_elim, true, true≢false, refl, sym, ap, ◌∙◌, subst, arith}
use Rattle.std.specs.Option.{IsSome}
use Rattle.ww_queue.specs.declared.kind.Kind.TheVariants.{WaitDie}
use Rattle.ww_queue.specs.declared.entry.Entry.{Entry}
use Rattle.ww_queue.specs.Queue.{Has, Before, Stands}
use Rattle.ww_queue.proofs.Deaths.{dies_when}
use Rattle.ww_model.specs.declared.state.Holder.TheVariants.{Nobody, Taken, Handed}
use Rattle.ww_model.specs.declared.event.Event.{Event}
use Rattle.ww_model.specs.declared.event.Event.TheVariants.{Begin, Fast, FastGive, Take, Give, End}
use Rattle.ww_model.specs.State.{State, owner_as, dies}
use Rattle.ww_model.specs.Event.{BasePossible, Possible, after, actor, given_to}
use Rattle.ww_model.specs.Lawful.{IsBase, IsLawful}
use Rattle.ww_model.specs.Laws.{OfLawful, OfReached}
use Rattle.ww_model.proofs.Puts.{put_else}
use Rattle.ww_model.proofs.Options.{some_of}
use Rattle.ww_model.proofs.Cancels.{not_free}
use Rattle.ww_model.proofs.Meetings.{same_kind}
use Rattle.ww_model.proofs.Dues.{dies_why, dies_by, dies_wounded, dies_behind, by_kind, seat_is, stamp_is}
use Rattle.ww_model.proofs.Kept.{keeps_lawful, reached_is_lawful}
use Rattle.ww_model.proofs.Stays.{same_seats, same_locks, entry_stays, stands_stays, guard_stays, queue_stays, others_are_left_alone}
use Rattle.ww_model.proofs.Leaving.{condemned_can_die}
use Rattle.ww_laws.specs.Condemned.{KeepsCause, CondemnedStays, GoesInside, CondemnedLooks, LooksOn, WhoLooksGivesWay}

-- the seat owns the lock, or it was handed to it
abbrev HasIt : State → ℕ → ℕ → Type 0
HasIt c t n = (c.owner n ≡ Taken t) ⊎ (c.owner n ≡ Handed t)

-- whoever begins or ends a context has no lock
has_none : (c : State) (t u n : ℕ) → IsBase c → ((m : ℕ) → c.owner m ≢ Taken u)
    → ((e : Entry) → Has (c.queue n) e → e.seat ≢ u) → HasIt c t n → t ≢ u
has_none c t u n l owns_none stands_not own is = ⊎_elim
    (λ y. owns_none n (y ∙ ap Taken is))
    (λ y. let h = (l.owners.at n).handed_stands t y in stands_not h.0 h.1 (h.2 ∙ is)) own

-- so an owner keeps its stamp
owner_stamp : (c : State) (e : Event) (t n : ℕ) → IsBase c → BasePossible c e → HasIt c t n → (after c e).stamp t ≡ c.stamp t
owner_stamp c (Begin u) t n l can own = put_else c.stamp u (c.drawn + 1) t (has_none c t u n l can.owns_none (can.away.queue n) own)
owner_stamp c (End u) t n l can own = put_else c.stamp u 0 t (has_none c t u n l can.owns_none (can.away.queue n) own)
owner_stamp c _ t n l can own = refl

-- a waiter with a context dies in Wait-Die of an older owner, also of one to whom the lock was handed
dies_of_owner : (d : State) (n t : ℕ) (e : Entry) → d.kind ≡ WaitDie → IsBase d → Has (d.queue n) e → 0 < e.stamp → e.holds ≡ true →
    HasIt d t n → t ≢ e.seat → 0 < d.stamp t → d.stamp t < e.stamp → IsSome (dies d e.seat n)
dies_of_owner d n t e dying l h p b own isnt q younger = let o = owner_as d (d.owner n) in let same = stamp_is d (d.owner n) t own in
    dies_by d e.seat n WaitDie dying (dies_when o (d.queue n) e (d.sign e.seat) (l.queues.at n).once h (p, b) (inl (record {
      seat = t;
      owns = ⊎_elim (λ y. seat_is d (d.owner n) t y) (λ y. ap (λ x. (owner_as d x).seat) y) own;
      other = isnt;
      older = (omega arith, omega arith);
    })))

-- an event of another leaves it that the seat must die, if the cause stays
still_dies : (c : State) (e : Event) (a n : ℕ) → IsLawful c → Possible c e → actor e ≢ a → IsSome (dies c a n)
    → KeepsCause c (after c e) a n →
    IsSome (dies (after c e) a n)
still_dies c e a n l can other must keeps = let d = after c e in let l' = keeps_lawful c e can l in let cause = some_of (dies c a n) must in
    let w = dies_why c a n cause.0 cause.1 in let x = w.entry in
    let there : Has (d.queue n) x = (entry_stays c e a other n x w.seat).0 w.stands in
    subst (λ s. IsSome (dies d s n)) w.seat (by_kind c.kind (IsSome (dies d x.seat n))
    (λ wounding. let signed = (w.wounded wounding).0 in
    let same = (others_are_left_alone c e a l can other).signed signed in let at = ap d.sign w.seat in
    dies_wounded d n x (same_kind c e ∙ wounding) (l'.base.queues.at n).once there w.context w.holds (omega arith))
    (λ dying. ⊎_elim
    (λ i. let own = i.1 in let stamp = i.2 in let some = i.3 in let younger = i.4 in let kept = owner_stamp c e i.0 n l.base can.base own in
    let of_seat = (l.base.queues.at n).stamps x w.stands in
    dies_of_owner d n i.0 x (same_kind c e ∙ dying) l'.base there w.context w.holds
    (⊎_elim (λ y. inl (keeps.owner ∙ y)) (λ y. inr (keeps.owner ∙ y)) own)
    (λ is. let z = ap c.stamp is in omega arith) (omega arith) (omega arith))
    (λ y. dies_behind d n x (same_kind c e ∙ dying) (l'.base.queues.at n).once there w.context w.holds y.0
    (keeps.ahead dying y.0 x w.seat y.1) y.2)
    (w.older dying)))

pub condemned_stays : OfReached CondemnedStays
condemned_stays c run e a n w can other keeps = let l = reached_is_lawful c run in let d = after c e in let h = w.condemned in
    let alone = others_are_left_alone c e a l can other in let signed = alone.signed h.signed in let z = h.signed in record {
      condemned = record {
        signed = omega arith;
        owns = (h.owns.0, (alone.taken h.owns.0).0 h.owns.1);
        lock = n;
        awaited = h.awaited;
        waits = record {
          stands = (stands_stays c e a other n).0 (subst (λ m. Stands (c.queue m) a) w.lock h.waits.stands);
          outside = λ inside. h.waits.outside (ap c.guard w.lock ∙ (guard_stays c e a can.base other n).1 inside);
          owner = let own = subst (λ m. HasIt c h.awaited m) w.lock h.waits.owner in
              ⊎_elim (λ y. inl (keeps.owner ∙ y)) (λ y. inr (keeps.owner ∙ y)) own;
          other = h.waits.other;
        };
        dies_there = still_dies c e a n l can other (subst (λ m. IsSome (dies c a m)) w.lock h.dies_there) keeps;
      };
      lock = refl;
    }

pub condemned_looks : OfReached CondemnedLooks
condemned_looks c run a n w free = let h = w.condemned in let cause = some_of (dies c a h.lock) h.dies_there in
    let way = condemned_can_die c run a h (ap c.guard w.lock ∙ free) cause.0 cause.1 in
    subst (λ m. GoesInside c a m) w.lock (record {
      can = way.guard;
      looks = record { inside = way.die.base.inside; waits = way.die.base.waits; other = way.die.base.other; dies_there = way.die.signs };
    })

-- the guard is another's
guarded : (c : State) (s a n m : ℕ) → s ≢ a → c.guard m ≡ suc s → c.guard n ≡ suc a → n ≢ m
guarded c s a n m isnt his mine is = isnt (let z = ap c.guard is in omega arith)

-- nobody else changes the owner of a lock inside whose guard the seat is and where it waits
owner_inside : (c : State) (e : Event) (a n : ℕ) → BasePossible c e → actor e ≢ a → c.guard n ≡ suc a
    → Stands (c.queue n) a → (after c e).owner n ≡ c.owner n
owner_inside c (Fast s m) a n can other mine h =
    put_else c.owner m (Taken s) n (λ is. absurd (subst (λ q. Has q h.0) (ap c.queue is ∙ can.idle.empty) h.1))
owner_inside c (FastGive s m) a n can other mine h =
    put_else c.owner m Nobody n (λ is. absurd (subst (λ q. Has q h.0) (ap c.queue is ∙ can.empty) h.1))
owner_inside c (Take s m) a n can other mine h = put_else c.owner m (Taken s) n (guarded c s a n m other can.inside.guard mine)
owner_inside c (Give s m) a n can other mine h =
    put_else c.owner m (given_to (c.asked m) (c.queue m)) n (guarded c s a n m other can.inside.guard mine)
owner_inside c _ a n can other mine h = refl

pub looks_on : OfLawful LooksOn
looks_on c l e a n w can other = let d = after c e in let owner = owner_inside c e a n can.base other w.inside.guard w.waits in
    let queue = queue_stays c e a n can.base other w.inside.guard in record {
      inside = record {
        guard = (guard_stays c e a can.base other n).0 w.inside.guard;
        lock = let z = same_locks c e in let y = w.inside.lock in omega arith;
        seat = let z = same_seats c e in let y = w.inside.seat in omega arith;
      };
      waits = (stands_stays c e a other n).0 w.waits;
      other = (w.other.0, w.other.1, ⊎_elim (λ y. inl (owner ∙ y)) (λ y. inr (owner ∙ y)) w.other.2);
      dies_there = still_dies c e a n l can other w.dies_there
          (record { owner = owner; ahead = λ _ x y _ before. subst (λ q. Before q x y) (sym queue) before });
    }

pub who_looks_gives_way : OfLawful WhoLooksGivesWay
who_looks_gives_way c l a n w = record {
  takes_not = λ can. not_free (c.owner n) a w.other can.base.free;
  stays_not = λ dying can. true≢false (sym (subst IsSome (can.signs.safe dying).lives w.dies_there));
  dies = λ unheeded. record {
    base = record {
      inside = w.inside;
      waits = w.waits;
      other = w.other;
      unheeded = unheeded;
    };
    signs = w.dies_there;
  };
  heeds = λ unheeded set. record {
    base =
        record { inside = w.inside; waits = w.waits; other = w.other; cancelled = set; unheeded = unheeded };
    signs = tt;
  };
  leaves = λ some. record { base = record { inside = w.inside; waits = w.waits; heeded = some }; signs = tt };
}

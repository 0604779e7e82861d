-- Each event keeps the lists in order.
use Rattle.std.proofs.Common.{◌≡◌, ◌≢◌, ◌⊎◌, inl, inr, ⊎_elim, ℕ, suc, ◌+◌, true, false, List, refl, sym, ap, ◌∙◌, subst}
use Rattle.ww_queue.specs.declared.entry.Entry.{Entry}
use Rattle.ww_queue.specs.Queue.{Has, StandsNot, IsNewStamp, joined, left}
use Rattle.ww_queue.proofs.Joins.{joined_has, joined_once, joined_ascends}
use Rattle.ww_queue.proofs.Leaves.{left_has, left_ascends, left_once, left_gone}
use Rattle.ww_model.specs.declared.state.Holder.{Holder}
use Rattle.ww_model.specs.declared.state.Holder.TheVariants.{Nobody, Taken}
use Rattle.ww_model.specs.declared.event.Event.TheVariants.{Begin, Fast, FastGive, Join, Take, Give, Die, End, Leave}
use Rattle.ww_model.specs.State.{State, put, waiter_of}
use Rattle.ww_model.specs.Event.{given_to}
use Rattle.ww_model.specs.Lawful.{Stamps, QueueAt, Queues, KeepsBase}
use Rattle.ww_model.proofs.Puts.{put_else, put_cases}
use Rattle.ww_model.proofs.Departures.{stood}
use Rattle.ww_model.proofs.Holders.{not_given, other_seat}
use Rattle.ww_model.proofs.Owning.{owns_found, owns_none}

-- the stamp of a seat that isn't in the list changes
pub restamped : (stamp : ℕ → ℕ) (owner : ℕ → Holder) (q : List Entry) (s k : ℕ) → StandsNot q s
    → QueueAt stamp owner q → QueueAt (put stamp s k) owner q
restamped stamp owner q s k away l = record {
  once = l.once;
  stamps = λ e h. l.stamps e h ∙ sym (put_else stamp s k e.seat (away e h));
  holds = l.holds;
  holds_not = l.holds_not;
  ascends = l.ascends;
}

-- the owner of a lock changes, and neither owner is in the list
pub reowned : (stamp : ℕ → ℕ) (owner : ℕ → Holder) (q : List Entry) (n : ℕ) (o : Holder) →
    ((e : Entry) → Has q e → (owner n ≢ Taken e.seat) × (o ≢ Taken e.seat)) → QueueAt stamp owner q → QueueAt stamp (put owner n o) q
reowned stamp owner q n o apart l = record {
  once = l.once;
  stamps = l.stamps;
  holds = λ e h is. let w = l.holds e h is in (w.0, put_else owner n o w.0 (λ j. (apart e h).0 (ap owner (sym j) ∙ w.1)) ∙ w.1);
  holds_not = λ e h is m. put_cases owner n o m (λ x. x ≢ Taken e.seat) (λ _. (apart e h).1) (λ _. l.holds_not e h is m);
  ascends = l.ascends;
}

pub shrunk : (stamp : ℕ → ℕ) (owner : ℕ → Holder) (q : List Entry) (s : ℕ) → QueueAt stamp owner q → QueueAt stamp owner (left q s)
shrunk stamp owner q s l = record {
  once = left_once q s l.once;
  stamps = λ e h. l.stamps e (left_has q s e h);
  holds = λ e h. l.holds e (left_has q s e h);
  holds_not = λ e h. l.holds_not e (left_has q s e h);
  ascends = left_ascends q s l.ascends;
}

-- the stamp of a seat that isn't in the list is new there
pub is_new_stamp : (drawn : ℕ) (stamp : ℕ → ℕ) (owner : ℕ → Holder) (q : List Entry) (s : ℕ) → Stamps drawn stamp
    → QueueAt stamp owner q → StandsNot q s → IsNewStamp q (stamp s)
is_new_stamp drawn stamp owner q s differ l new e h some same = new e h (sym (differ.differ s e.seat some (sym same ∙ l.stamps e h)))

pub grown : (drawn : ℕ) (stamp : ℕ → ℕ) (owner : ℕ → Holder) (q : List Entry) (x : Entry) → Stamps drawn stamp
    → StandsNot q x.seat → x.stamp ≡ stamp x.seat
    → (x.holds ≡ true → (n : ℕ) × (owner n ≡ Taken x.seat)) → (x.holds ≡ false → (n : ℕ) → owner n ≢ Taken x.seat)
    → QueueAt stamp owner q → QueueAt stamp owner (joined q x)
grown drawn stamp owner q x differ new right holds holds_not l = record {
  once = joined_once q x new l.once;
  stamps = λ e h. ⊎_elim (λ i. subst (λ (y : Entry). y.stamp ≡ stamp y.seat) (sym i) right) (l.stamps e) (joined_has q x e h);
  holds = λ e h. ⊎_elim (λ i. subst (λ (y : Entry). y.holds ≡ true → (n : ℕ) × (owner n ≡ Taken y.seat)) (sym i)
      holds) (l.holds e) (joined_has q x e h);
  holds_not = λ e h. ⊎_elim (λ i. subst (λ (y : Entry). y.holds ≡ false → (n : ℕ) → owner n ≢ Taken y.seat) (sym i)
      holds_not) (l.holds_not e) (joined_has q x e h);
  ascends = joined_ascends q x (subst (IsNewStamp q) (sym right) (is_new_stamp drawn stamp owner q x.seat differ l new)) l.ascends;
}

-- one list changes, by entries of a seat that no other list has
pub one_queue_put : (stamp : ℕ → ℕ) (owner : ℕ → Holder) (queue : ℕ → List Entry) (n : ℕ) (q : List Entry) (s : ℕ)
    → ((e : Entry) → Has q e → Has (queue n) e ⊎ (e.seat ≡ s)) → ((m : ℕ) → m ≢ n → StandsNot (queue m) s) → Queues stamp owner queue
    → (i j : ℕ) (e f : Entry) → Has (put queue n q i) e → Has (put queue n q j) f → e.seat ≡ f.seat → i ≡ j
one_queue_put stamp owner queue n q s from others l i j e f =
    put_cases queue n q i (λ x. Has x e → Has (put queue n q j) f → e.seat ≡ f.seat → i ≡ j)
    (λ is h. put_cases queue n q j (λ y. Has y f → e.seat ≡ f.seat → i ≡ j) (λ is' _ _. is ∙ sym is')
    (λ isnt k same. ⊎_elim (λ a. is ∙ l.one_queue n j e f a k same) (λ a. absurd (others j isnt f k (sym same ∙ a))) (from e h)))
    (λ isnt h. put_cases queue n q j (λ y. Has y f → e.seat ≡ f.seat → i ≡ j)
    (λ is k same. ⊎_elim (λ a. l.one_queue i n e f h a same ∙ sym is) (λ a. absurd (others i isnt e h (same ∙ a))) (from f k))
    (λ _ k same. l.one_queue i j e f h k same))

departed : (c : State) (s n : ℕ) → Queues c.stamp c.owner c.queue → Queues c.stamp c.owner (put c.queue n (left (c.queue n) s))
departed c s n l = record {
  at = λ m. put_cases c.queue n (left (c.queue n) s) m (QueueAt c.stamp c.owner)
      (λ _. shrunk c.stamp c.owner (c.queue n) s (l.at n)) (λ _. l.at m);
  one_queue = λ i j e f h k. l.one_queue i j e f (stood c.queue n s i e h) (stood c.queue n s j f k);
}

pub keeps_queues : KeepsBase (λ c. Queues c.stamp c.owner c.queue)
keeps_queues c (Begin s) can l = record {
  at = λ m. restamped c.stamp c.owner (c.queue m) s (c.drawn + 1) (can.away.queue m) (l.queues.at m);
  one_queue = l.queues.one_queue;
}
keeps_queues c (End s) can l = record {
  at = λ m. restamped c.stamp c.owner (c.queue m) s 0 (can.away.queue m) (l.queues.at m);
  one_queue = l.queues.one_queue;
}
keeps_queues c (Fast s n) can l = record {
  at = λ m. reowned c.stamp c.owner (c.queue m) n (Taken s)
      (λ e h. (λ i. let o = can.idle.free in cc, λ i. can.away.queue m e h (cc))) (l.queues.at m);
  one_queue = l.queues.one_queue;
}
keeps_queues c (FastGive s n) can l = record {
  at = λ m. reowned c.stamp c.owner (c.queue m) n Nobody
      (λ e h. (other_seat s e.seat (c.owner n) can.owns (can.away.queue m e h), λ i. cc)) (l.queues.at m);
  one_queue = l.queues.one_queue;
}
keeps_queues c (Join s n) can l = record {
  at = λ m. put_cases c.queue n (joined (c.queue n) (waiter_of c s)) m (QueueAt c.stamp c.owner)
      (λ _. grown c.drawn c.stamp c.owner (c.queue n) (waiter_of c s) l.stamps can.not_waiting refl
      (owns_found c.locks c.owner s) (owns_none c.locks c.owner s l.owners.beyond) (l.queues.at n))
      (λ _. l.queues.at m);
  one_queue = one_queue_put c.stamp c.owner c.queue n (joined (c.queue n) (waiter_of c s)) s
      (λ e h. ⊎_elim (λ i. inr (ap (λ (y : Entry). y.seat) i)) inl (joined_has (c.queue n) (waiter_of c s) e h))
      (λ m isnt e h i. isnt (l.guards.own_guard m n e h (can.inside.guard ∙ ap suc (sym i)))) l.queues;
}
keeps_queues c (Die s n) can l = departed c s n l.queues
keeps_queues c (Leave s n) can l = departed c s n l.queues
keeps_queues c (Take s n) can l = let was = λ (t : ℕ) (d : t ≢ s). let w : c.owner n ≢ Taken t =
    ⊎_elim (λ o i. cc) (λ o i. cc) can.free in w in record {
      at = λ m. put_cases c.queue n (left (c.queue n) s) m (QueueAt c.stamp (put c.owner n (Taken s)))
          (λ _. reowned c.stamp c.owner (left (c.queue n) s) n (Taken s)
          (λ e h. let d = left_gone (c.queue n) s (l.queues.at n).once e h in (was e.seat d, λ i. d (cc)))
          (shrunk c.stamp c.owner (c.queue n) s (l.queues.at n)))
          (λ isnt. reowned c.stamp c.owner (c.queue m) n (Taken s)
          (λ e h. let d = λ (i : e.seat ≡ s). isnt (l.guards.own_guard m n e h (can.inside.guard ∙ ap suc (sym i))) in
          (was e.seat d, λ i. d (cc))) (l.queues.at m));
      one_queue = (departed c s n l.queues).one_queue;
    }
keeps_queues c (Give s n) can l = record {
  at = λ m. reowned c.stamp c.owner (c.queue m) n (given_to (c.asked n) (c.queue n))
      (λ e h. (
        other_seat s e.seat (c.owner n) can.owns
            (λ i. (l.owners.at n).taken_stands_not s can.owns e
            (subst (λ x. Has (c.queue x) e) (l.guards.own_guard m n e h (can.inside.guard ∙ ap suc (sym i))) h)
            i),
        not_given (c.asked n) (c.queue n) e.seat,
      )) (l.queues.at m);
  one_queue = l.queues.one_queue;
}
keeps_queues c _ can l = l.queues

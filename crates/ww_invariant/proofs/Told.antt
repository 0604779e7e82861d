-- What the words and lists that a seat finds tell it, by what its view knows.
use Rattle.std.proofs.Common.{◌≡◌, ◌==◌, ◌⊎◌, length, inl, inr, ⊎_elim, ℕ, zero, suc, ◌<◌, Bool, true, false, true≢false, Option, Some, refl, sym, ap, ◌∙◌, subst, arith}
use mathlib.Core.Logic.{dite}
use native.Mathlib.Decide.{dec_le}
use Rattle.ww_word.specs.declared.owner.Owner.{Owner}
use Rattle.ww_word.specs.Owner.{is_handed}
use Rattle.ww_word.specs.AnySeats.{IsValid, packed, packed_as, seat_word, unflagged}
use Rattle.ww_word.proofs.AnyWords.{flags_apart, unflagged_tells}
use Rattle.ww_queue.specs.declared.kind.Kind.{Kind}
use Rattle.ww_queue.specs.declared.kind.Kind.TheVariants.{WoundWait, WaitDie}
use Rattle.ww_queue.specs.declared.entry.Entry.{Entry}
use Rattle.ww_queue.specs.Queue.{Has, Stands, Before, entry_of}
use Rattle.ww_queue.specs.Rules.{must_die}
use Rattle.ww_queue.proofs.Outcomes.{same_number}
use Rattle.ww_queue.proofs.Leaves.{entry_when}
use Rattle.ww_queue.proofs.Aheads.{before_older}
use Rattle.ww_queue.proofs.Deaths.{dies_why}
use Rattle.ww_model.specs.declared.state.Holder.TheVariants.{Taken, Handed}
use Rattle.ww_model.specs.State.{State, any_below, owner_as, word_of}
use Rattle.ww_model.specs.Lawful.{IsLawful}
use Rattle.ww_model.proofs.Outcomes.{same_test, number_same}
use Rattle.ww_model.proofs.Slots.{below_found, found_below}
use Rattle.ww_model.proofs.Dues.{seat_from}
use Rattle.ww_model.proofs.Words.{handed_same}
use Rattle.ww_model.proofs.Ranges.{owners_are_seats}
use Rattle.ww_model.specs.Run.{Reached}
use Rattle.ww_view.specs.declared.view.View.{View}
use Rattle.ww_view.specs.View.{owns, IsAway, Knows}
use Rattle.ww_view.specs.May.{MayDie}
use Rattle.ww_view.specs.Made.{entry_of_view}
use Rattle.ww_view.proofs.Tells.{no_flags}
use Rattle.ww_view.proofs.Deaths.{die_shows}
use Rattle.ww_invariant.specs.Steps.{taker, IsToldBy}
use Rattle.ww_invariant.specs.Guards.{StandsAs, IsSeenBy}
use Rattle.ww_invariant.specs.Waiting.{StandsIfWaiting}

module _ (c : State) (v : View) (l : IsLawful c) (k : Knows c v) where
  low : (n : ℕ) → c.owner n ≡ Taken v.who → n < length v.owned
  low n own = dite (dec_le c.locks n)
      (λ beyond. absurd (let o = l.base.owners.beyond n beyond in cc)) (λ below. let r = k.owned.room in omega arith)

  -- an entry of the seat is the one that its view makes
  own_is : (n : ℕ) (e : Entry) → Has (c.queue n) e → e.seat ≡ v.who → e ≡ entry_of_view v
  own_is n e has is = λ i. record {
    seat = is i;
    stamp = ((l.base.queues.at n).stamps e has ∙ ap c.stamp is ∙ sym k.itself.stamp) i;
    holds = holds_is i;
  }
    where
      holds : (m : ℕ) → owns v m ≡ true → (b : Bool) → e.holds ≡ b → e.holds ≡ true
      holds m own true h = h
      holds m own false h = absurd ((l.base.queues.at n).holds_not e has h m (k.owned.has m own ∙ ap Taken (sym is)))

      holds_is : e.holds ≡ any_below (length v.owned) (owns v)
      holds_is = same_test e.holds (any_below (length v.owned) (owns v))
          (λ h. let o = (l.base.queues.at n).holds e has h in let own : c.owner o.0 ≡ Taken v.who = o.1
          ∙ ap Taken is in found_below (length v.owned) (owns v) o.0 (low o.0 own) (k.owned.lacks o.0 own))
          (λ some. let f = below_found (length v.owned) (owns v) some in holds f.0 f.2 e.holds refl)

  own_entry : (n : ℕ) → v.waits ≡ suc n → entry_of (c.queue n) v.who ≡ Some (entry_of_view v)
  own_entry n waits = let t = k.queues.waited n waits in
      ap (entry_of (c.queue n)) (sym t.2) ∙ entry_when (c.queue n) t.0 (l.base.queues.at n).once t.1
      ∙ ap (λ (e : Entry). Some e) (own_is n t.0 t.1 t.2)

  pub stands_as : (n j : ℕ) → n ≡ j → StandsAs v j (c.queue n)
  stands_as n j same = record {
    once = (l.base.queues.at n).once;
    absent = λ out e has is. (let z = k.queues.waits n (e, has, is) in omega arith);
    entry = λ waits. own_entry n (omega arith);
  }

  -- a waiter goes inside no guard but that of the lock where it waits
  pub stands_there : (n : ℕ) → v.inside ≡ suc n → StandsIfWaiting v
  stands_there n inside = go v.waits refl
    where
      go : (w : ℕ) → v.waits ≡ w → StandsIfWaiting v
      go zero out = inl out
      go (suc m) waits = let h = k.queues.waited m waits in
          let here = l.base.guards.own_guard m n h.0 h.1 ((k.guard.guards n inside).1 ∙ ap suc (sym h.2)) in
          inr (subst (λ q. Stands q v.who) (ap c.queue here ∙ sym (k.queues.list n inside)) h)

  pub seen_by : (n : ℕ) (o : Owner) → Reached c → v.inside ≡ suc n → o ≡ word_of c n → IsSeenBy v n o
  seen_by n o run inside is = record {
    there = λ u names. let low = owners_are_seats c run n u
        (seat_from c (c.owner n) u (sym (ap (λ (x : Owner). x.seat) is) ∙ names)) in let same = k.itself.seats in omega arith;
    own = λ lacks names. ⊎_elim
        (λ taken. absurd (true≢false (sym (k.owned.lacks n taken) ∙ lacks)))
        (λ handed. ap is_handed is ∙ handed_same c (c.owner n) (c.asked n) (c.queue n) ∙ ap (λ h. is_handed (owner_as c h)) handed)
        (seat_from c (c.owner n) v.who (sym (ap (λ (x : Owner). x.seat) is) ∙ names));
    flags = λ some none. some (k.queues.list n inside ∙ (no_flags c n o is none).0);
  }

  -- whoever has to die has to for an older context
  pub death_is_older : (n : ℕ) (o : Owner) (j : ℕ) → MayDie v n o j → j < v.stamp
  death_is_older n o j may = go v.kind refl
    where
      go : (kind : Kind) → v.kind ≡ kind → j < v.stamp
      go WoundWait is = let m = (die_shows v n o j may).wounded is in let s = k.sign j m.0 in let some = m.1 in
          let older = l.signs.older_signs v.who (omega arith) in let same = k.itself.stamp in omega arith
      go WaitDie is = let d = dies_why o v.list v.who may.why.0 j
          (subst (λ (x : Kind). must_die x o v.list v.who may.why.0 ≡ Some j) is may.why.2) in
          let list = k.queues.list n may.inside in let at = l.base.queues.at n in
          let stamp : d.0.stamp ≡ v.stamp = at.stamps d.0 (subst (λ q. Has q d.0) list d.1) ∙ ap c.stamp d.2 ∙ sym k.itself.stamp in ⊎_elim
          (λ m. let older = m.0.older.1 in let same = m.1 in omega arith)
          (λ x. let older = before_older (c.queue n) x.0 d.0 at.ascends (subst (λ q. Before q x.0 d.0) list x.1) x.2
          d.3.0 in let same = x.3 in omega arith)
          d.4

-- ---- an owner word tells whose the lock is

module _ (c : State) (v : View) (l : IsLawful c) (k : Knows c v) (away : IsAway v) (n : ℕ)
    (valid : IsValid (word_of c n)) (its : IsValid (taker v)) where
  -- a seat that is away is handed nothing
  taken_only : (c.owner n ≡ Taken v.who) ⊎ (c.owner n ≡ Handed v.who) → owns v n ≡ true
  taken_only = ⊎_elim (λ own. k.owned.lacks n own)
      (λ handed. absurd (let z = k.queues.waits n ((l.base.owners.at n).handed_stands v.who handed) in let y = away.1 in omega (arith, z, y)))

  by_word : unflagged (packed (word_of c n)) ≡ unflagged (packed (taker v)) → owns v n ≡ true
  by_word same = let e = unflagged_tells (word_of c n) v.who v.stamp valid its.seating same in
      taken_only (seat_from c (c.owner n) v.who e.0)

  by_view : owns v n ≡ true → unflagged (packed (word_of c n)) ≡ unflagged (packed (taker v))
  by_view own =
      let taken : c.owner n ≡ Taken v.who = k.owned.has n own in
      let seat : (word_of c n).seat ≡ Some v.who = ap (λ o. (owner_as c o).seat) taken in
      let stamp : (word_of c n).stamp ≡ v.stamp = ap (λ o. (owner_as c o).stamp) taken ∙ sym k.itself.stamp in
      ap (λ (o : Option ℕ). unflagged (packed_as (word_of c n) o)) seat
      ∙ ap (λ (t : ℕ). unflagged (seat_word (word_of c n).flags v.who t)) stamp
      ∙ flags_apart (word_of c n).flags v.who v.stamp valid.flags

  -- the word is the seat's own, but for its flags, just where the seat owns the lock
  pub told_by : IsToldBy v n (packed (word_of c n))
  told_by = same_test (owns v n) (unflagged (packed (word_of c n)) == unflagged (packed (taker v)))
      (λ own. number_same (unflagged (packed (word_of c n))) (unflagged (packed (taker v))) (by_view own))
      (λ same. by_word (same_number (unflagged (packed (word_of c n))) (unflagged (packed (taker v))) same))

-- The account of wakes: each step marks whom it comes to owe a wake.
use Rattle.std.proofs.Common.{◌≡◌, ◌≢◌, ℕ, ◌+◌, Bool, true, false, true≢false, cond, eqb, List, [], ◌∷◌, Option, Some, None, inl, inr, ⊎_elim, ◌⊎◌, refl, sym, ap, ◌∙◌, subst, arith}
use Rattle.std.proofs.lemmas.Bool.{cases_lt}
use Rattle.ww_queue.specs.Queue.{Has}
use Rattle.ww_plain.proofs.Members.{true_or_false, same_from_eqb, eqb_same}
use Rattle.ww_view.specs.declared.view.View.{View}
use Rattle.ww_view.specs.Made.{is_one_of, with_heir}
use Rattle.ww_seat.specs.Bells.{one_more}
use Rattle.ww_invariant.specs.Rule.{times}
use Rattle.ww_seat.specs.Accounts.{Account, account_of}
use Rattle.ww_seat.specs.Standings.{Standing, view_in, IsIn}
use Rattle.ww_seat.specs.declared.look.Arrival.{Arrival}
use Rattle.ww_seat.specs.Work.{AreWoken, HasBooked, IsMarked, IsWorking, StillHasToWake, debts_with}
use Rattle.ww_seat.proofs.Debts.{has_wakes, wakes_has, more_cancelled, more_owed, times_booked, times_more}
use Rattle.ww_seat.specs.declared.waits.Waits.{Waits}
use Rattle.ww_steps.specs.declared.turn.Answer.{Answer}
use Rattle.ww_steps.specs.declared.turn.Turn.TheVariants.{Wants, Looks}
use Rattle.ww_steps.specs.declared.station.Station.{Station}
use Rattle.ww_steps.specs.Stations.{situation_of, Keeps}
use Rattle.ww_steps.proofs.Locks.{at_turn}
use Rattle.ww_steps.proofs.Keeping.{kept}
use Rattle.ww_steps.specs.declared.turn.Answer.TheVariants.{Done, Again, Awaits, Sleeps, Deadlk, Interrupted}
use Rattle.ww_steps.specs.Situations.{Situation}
use Rattle.ww_steps.specs.Answers.{Balances, BooksWakes, IsGiveAnswer, IsWaitAnswer, WakesAlso, WakesCondemned, WakesHeir, owed_so_far}

-- it owes one wake more to each of these, and marks each but itself
record MarksThese (s : Situation) (these : ℕ → Bool) (s' : Situation) : Type 0 where
  pub caller : s'.caller ≡ s.caller
  pub owed : (u : ℕ) → owed_so_far s' u ≡ one_more (these u) (owed_so_far s u)
  pub only : (u : ℕ) → IsMarked s'.wakes u → IsMarked s.wakes u ⊎ ((these u ≡ true) × (u ≢ s.caller))
  pub still : (u : ℕ) → IsMarked s.wakes u → IsMarked s'.wakes u
  pub all : (u : ℕ) → these u ≡ true → u ≢ s.caller → IsMarked s'.wakes u

marks_balances : (s s' : Situation) (these : ℕ → Bool) → MarksThese s these s' → Balances s s'
marks_balances s s' these m =
    let owes : (u : ℕ) (b : Bool) → these u ≡ b → owed_so_far s' u ≡ one_more b (owed_so_far s u) =
    λ u b is. m.owed u ∙ ap (λ (x : Bool). one_more x (owed_so_far s u)) is in
    record {
      caller = m.caller;
      owed = λ u. elim (true_or_false (these u)) [
        | inl one ↦ omega (arith, owes u true one)
        | inr none ↦ omega (arith, owes u false none)
      ];
      marks = λ u. (
        λ marked. ⊎_elim (λ was. inl was) (λ one. inr (omega (arith, owes u true one.0), one.1)) (m.only u marked),
        ⊎_elim (λ was. m.still u was) (λ more. elim (true_or_false (these u)) [
          | inl one ↦ m.all u one more.1
          | inr none ↦ absurd (omega (arith, more.0, owes u false none))
        ]),
      );
    }

-- ---- nothing is owed that wasn't

pub balances_same : (s s' : Situation) → s'.caller ≡ s.caller → s'.cancelled ≡ s.cancelled → s'.view.debts ≡ s.view.debts
    → s'.wakes ≡ s.wakes → Balances s s'
balances_same s s' caller cancelled debts wakes = marks_balances s s' (λ _. false) (record {
  caller = caller;
  owed = λ u. ap (λ (l : List ℕ). times u l + times u s'.view.debts) cancelled ∙ ap (λ (l : List ℕ). times u s.cancelled + times u l) debts;
  only = λ u marked. inl (subst (λ (l : List ℕ). IsMarked l u) wakes marked);
  still = λ u was. subst (λ (l : List ℕ). IsMarked l u) (sym wakes) was;
  all = λ u one other. absurd (true≢false (sym one));
})

-- ... as in this one, which is what it is
abbrev IsAlike : Situation → Situation → Type 0
IsAlike s t = (t.caller ≡ s.caller) × (t.cancelled ≡ s.cancelled) × (t.view.debts ≡ s.view.debts) × (t.wakes ≡ s.wakes)

alike_balances : (s s' t : Situation) → s' ≡ t → IsAlike s t → Balances s s'
alike_balances s s' t is alike = subst (Balances s) (sym is) (balances_same s t alike.0 alike.1 alike.2 alike.3)

-- ---- one after the other

pub balances_then : (s t u : Situation) → Balances s t → Balances t u → Balances s u
balances_then s t u a b = record {
  caller = b.caller ∙ a.caller;
  owed = λ x. omega (arith, a.owed x, b.owed x);
  marks = λ x. (
    λ marked. ⊎_elim (λ was. ⊎_elim (λ first. inl first)
        (λ more. let low = b.owed x in inr (omega (arith, more.0, low), more.1)) ((a.marks x).0 was))
        (λ more. let low = a.owed x in inr (omega (arith, more.0, low), λ own. more.1 (own ∙ sym a.caller)))
        ((b.marks x).0 marked),
    ⊎_elim (λ was. (b.marks x).1 (inl ((a.marks x).1 (inl was))))
        (λ more. ⊎_elim (λ first. (b.marks x).1 (inl ((a.marks x).1 (inr (first, more.1)))))
        (λ late. (b.marks x).1 (inr (omega (arith, more.0, late), λ own. more.1 (own ∙ a.caller))))
        (cases_lt (owed_so_far s x) (owed_so_far t x))),
  );
}

-- ---- one seat more

-- the seat that it cancelled
pub balances_cancel : (s s' : Situation) (w : ℕ) → s'.caller ≡ s.caller → s'.cancelled ≡ w ∷ s.cancelled
    → s'.view.debts ≡ s.view.debts → WakesAlso s w s' → Balances s s'
balances_cancel s s' w caller cancelled debts marks = marks_balances s s' (eqb w) (record {
  caller = caller;
  owed = λ u. ap (λ (l : List ℕ). times u l + times u s'.view.debts) cancelled
      ∙ ap (λ (t : ℕ). t + times u s'.view.debts) (times_more u w s.cancelled)
      ∙ ap (λ (l : List ℕ). one_more (eqb w u) (times u s.cancelled) + times u l) debts
      ∙ sym (more_cancelled (eqb w u) (times u s.cancelled) (times u s.view.debts));
  only = λ u marked. ⊎_elim (λ was. inl was)
      (λ one. inr (subst (λ (x : ℕ). eqb w x ≡ true) (sym one.1) (eqb_same w), λ own. one.0 (sym one.1 ∙ own)))
      ((marks u).0 marked);
  still = λ u was. (marks u).1 (inl was);
  all = λ u this other. let same = same_from_eqb w u this in (marks u).1 (inr (λ own. other (sym same ∙ own), sym same));
})

-- the first waiter, if somebody waits
balances_heir : (s s' : Situation) (heir : Option ℕ) → s'.view.heir ≡ heir → s'.caller ≡ s.caller → s'.cancelled ≡ s.cancelled
    → s'.view.debts ≡ with_heir heir s.view.debts → WakesHeir s s' → Balances s s'
balances_heir s s' None is caller cancelled debts marks = marks_balances s s' (λ _. false) (record {
  caller = caller;
  owed = λ u. ap (λ (l : List ℕ). times u l + times u s'.view.debts) cancelled ∙ ap (λ (l : List ℕ). times u s.cancelled + times u l) debts;
  only = λ u marked. ⊎_elim (λ was. inl was) (λ one. let none : None ≡ Some u = sym is ∙ one.0 in absurd cc) ((marks u).0 marked);
  still = λ u was. (marks u).1 (inl was);
  all = λ u one other. absurd (true≢false (sym one));
})
balances_heir s s' (Some w) is caller cancelled debts marks = marks_balances s s' (eqb w) (record {
  caller = caller;
  owed = λ u. ap (λ (l : List ℕ). times u l + times u s'.view.debts) cancelled
      ∙ ap (λ (l : List ℕ). times u s.cancelled + times u l) debts
      ∙ ap (λ (t : ℕ). times u s.cancelled + t) (times_more u w s.view.debts)
      ∙ sym (more_owed (eqb w u) (times u s.cancelled) (times u s.view.debts));
  only = λ u marked. ⊎_elim (λ was. inl was)
      (λ one. let this : w ≡ u = (let same : Some w ≡ Some u = sym is ∙ one.0 in cc) in
      inr (subst (λ (x : ℕ). eqb w x ≡ true) this (eqb_same w), one.1))
      ((marks u).0 marked);
  still = λ u was. (marks u).1 (inl was);
  all = λ u this other. (marks u).1 (inr (is ∙ ap Some (same_from_eqb w u this), other));
})

-- ---- whom it condemned inside a guard

abbrev wakes : View → ℕ → Bool
wakes v u = cond (eqb u v.who) false (is_one_of u v.condemned)

-- those that have to be woken now and hadn't before
abbrev newly : Bool → Bool → Bool
newly before now = cond before false now

newly_owed : (was now : Bool) (t t' first : ℕ) → t ≡ one_more was first → t' ≡ one_more now first → (was ≡ true → now ≡ true)
    → t' ≡ one_more (newly was now) t
newly_owed true true t t' first before after still = after ∙ sym before
newly_owed true false t t' first before after still = absurd (true≢false (sym (still refl)))
newly_owed false now t t' first before after still = after ∙ ap (one_more now) (sym before)

newly_is : (was now : Bool) → newly was now ≡ true → (was ≡ false) × (now ≡ true)
newly_is true now e = absurd (true≢false (sym e))
newly_is false now e = (refl, e)

-- the views tell whose they are, and its debts are those of before and whom it condemned inside the guard, who have marks
pub record IsBooking (s s' : Situation) : Type 0 where
  pub own : s.view.who ≡ s.caller
  pub still_own : s'.view.who ≡ s'.caller
  pub before : List ℕ
  pub booked : HasBooked before s.view
  pub still : StillHasToWake s.view s'.view
  pub woken : AreWoken s.view s.wakes

balances_look : (s s' : Situation) → s'.caller ≡ s.caller → s'.cancelled ≡ s.cancelled → IsBooking s s' → WakesCondemned s s'
    → Balances s s'
balances_look s s' caller cancelled b marks = let v = s.view in let v' = s'.view in
    let keeps : (u : ℕ) → wakes v u ≡ true → wakes v' u ≡ true = λ u is. has_wakes v' u (b.still.still u (wakes_has v u is)) in
    let owed : (u : ℕ) → times u v'.debts ≡ one_more (newly (wakes v u) (wakes v' u)) (times u v.debts) = λ u.
    newly_owed (wakes v u) (wakes v' u) (times u v.debts) (times u v'.debts) (times u b.before)
    (ap (times u) b.booked ∙ times_booked v.who u v.condemned b.before)
    (ap (times u) (b.still.booked b.before b.booked) ∙ times_booked v'.who u v'.condemned b.before) (keeps u) in
    marks_balances s s' (λ u. newly (wakes v u) (wakes v' u)) (record {
      caller = caller;
      owed = λ u. ap (λ (l : List ℕ). times u l + times u v'.debts) cancelled
          ∙ ap (λ (t : ℕ). times u s.cancelled + t) (owed u)
          ∙ sym (more_owed (newly (wakes v u) (wakes v' u)) (times u s.cancelled) (times u v.debts));
      only = λ u marked. ⊎_elim (λ was. inl was)
          (λ has. elim (true_or_false (wakes v u)) [
            | inl old ↦ inl (b.woken u (wakes_has v u old))
            | inr new ↦ inr (ap (λ (x : Bool). newly x (wakes v' u)) new ∙ has_wakes v' u has, λ e. has.1 (e ∙ sym caller ∙ sym b.still_own))
          ]) ((marks u).0 marked);
      still = λ u was. (marks u).1 (inl was);
      all = λ u is other. (marks u).1 (inr (wakes_has v' u (newly_is (wakes v u) (wakes v' u) is).1));
    })

looked_balances : (s s' t : Situation) → s' ≡ t → (t.caller ≡ s.caller) × (t.cancelled ≡ s.cancelled) → IsBooking s s'
    → WakesCondemned s s' → Balances s s'
looked_balances s s' t is alike b marks = balances_look s s' (ap (λ (x : Situation). x.caller) is ∙ alike.0)
    (ap (λ (x : Situation). x.cancelled) is ∙ alike.1) b marks

-- ---- by what a step came to

pub wait_balances : (s s' : Situation) (n : ℕ) (waits : Waits) (a : Answer) → IsWaitAnswer s n waits a s' → IsBooking s s'
    → Balances s s'
wait_balances s s' n waits Awaits h b = alike_balances s s' _ h.now (refl, refl, refl, refl)
wait_balances s s' n waits Again h b = looked_balances s s' _ h.4 (refl, refl) b h.3
wait_balances s s' n waits Sleeps h b = looked_balances s s' _ h.3 (refl, refl) b h.0
wait_balances s s' n waits Done h b = looked_balances s s' _ h.1 (refl, refl) b h.0
wait_balances s s' n waits (Deadlk k) h b = looked_balances s s' _ h.1.now (refl, refl) b h.0
wait_balances s s' n waits (Interrupted by) h b = looked_balances s s' _ h.2 (refl, refl) b h.0
wait_balances s s' n waits _ h b = absurd h

pub give_balances : (s s' : Situation) (n : ℕ) (a : Answer) → IsGiveAnswer s n a s'
    → (a ≡ Done → s'.view.debts ≡ with_heir s'.view.heir s.view.debts) → Balances s s'
give_balances s s' n Awaits h debts = alike_balances s s' _ h.now (refl, refl, refl, refl)
give_balances s s' n Done h debts = balances_heir s s' s'.view.heir refl (ap (λ (x : Situation). x.caller) h.1)
    (ap (λ (x : Situation). x.cancelled) h.1) (debts refl) h.0
give_balances s s' n _ h debts = absurd h

-- a step that balances by itself goes on with each account
pub step_books : (s s' : Situation) → Balances s s' → BooksWakes s s'
step_books s s' step first b = balances_then first s s' b step

-- ---- further steps

entered_booked : (v : View) → v.condemned ≡ [] → HasBooked v.debts v
entered_booked v none = ap (λ (l : List ℕ). debts_with v.who l v.debts) (sym none)

entered_woken : (v : View) (marks : List ℕ) → v.condemned ≡ [] → AreWoken v marks
entered_woken v marks none u has = absurd (subst (λ (l : List ℕ). Has l u) none has.0)

-- it went inside just now
pub entered_keeps : (h : Station) (n : ℕ) (arrival : Arrival) (waits : Waits) (q : Standing) → Keeps h
    → h.turn ≡ Wants n arrival waits → IsIn h.seat n q → Keeps (record h { seat = q; turn = Looks n arrival waits })
entered_keeps h n arrival waits q k turn e = let at = at_turn h (Wants n arrival waits) k turn in let v = view_in q in
    kept h q (account_of h.seat.me) h.count h.told (Looks n arrival waits) h.wake k e.gone.same e.gone.holds refl refl k.owns (
      at.0.there,
      subst (λ (x : Bool × Bool). IsWorking n x.0 x.1 v) (λ i. (sym at.1.0 i, sym at.1.1 i)) e.working,
      entered_woken v h.wake.items e.condemned,
      (v.debts, entered_booked v e.condemned),
    )

-- it looked just after it went inside
pub entered_balances : (h : Station) (n : ℕ) (q : Standing) (waits : Waits) (a : Answer) (g : Station) → IsIn h.seat n q
    → IsWaitAnswer (situation_of (record h { seat = q })) n waits a (situation_of g) → StillHasToWake (view_in q) (view_in g.seat)
    → Balances (situation_of h) (situation_of g)
entered_balances h n q waits a g e answer still = let t : Station = record h { seat = q } in
    balances_then (situation_of h) (situation_of t) (situation_of g)
    (balances_same (situation_of h) (situation_of t) (ap (λ (x : Account). x.who) e.gone.holds)
    (ap (λ (x : Account). x.counts.cancelled) e.gone.holds) e.gone.debts refl)
    (wait_balances (situation_of t) (situation_of g) n waits a answer (record {
      own = refl;
      still_own = refl;
      before = (view_in q).debts;
      booked = entered_booked (view_in q) e.condemned;
      still = still;
      woken = entered_woken (view_in q) h.wake.items e.condemned;
    }))

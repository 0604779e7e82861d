-- The oldest context is never signed and never dies.
use Rattle.std.proofs.Common.{◌≡◌, ◌≢◌, inl, inr, ⊎_elim, ℕ, ◌<◌, ◌≤◌, ◌+◌, List, [], ◌∷◌, refl, sym, ap, ◌∙◌, subst, arith}
use Rattle.std.specs.Option.{IsSome}
use Rattle.ww_queue.specs.declared.kind.Kind.TheVariants.{WoundWait, WaitDie}
use Rattle.ww_queue.specs.declared.entry.Entry.{Entry}
use Rattle.ww_queue.specs.Queue.{Has}
use Rattle.ww_queue.proofs.Aheads.{before_first, before_older}
use Rattle.ww_model.specs.declared.event.Event.{Event}
use Rattle.ww_model.specs.declared.event.Event.TheVariants.{Begin, Clear, Sign, End}
use Rattle.ww_model.specs.State.{State, owes, place_of, dies}
use Rattle.ww_model.specs.Event.{BasePossible, Possible, after}
use Rattle.ww_model.specs.Lawful.{IsBase, IsLawful}
use Rattle.ww_model.specs.Run.{state_after, IsRun}
use Rattle.ww_model.specs.Oldest.{IsOldest, IsOldestUnsigned, GoesOn}
use Rattle.ww_model.specs.Theorem.{OldestNeverDies}
use Rattle.ww_model.proofs.Puts.{put_else, put_cases}
use Rattle.ww_model.proofs.Options.{some_of}
use Rattle.ww_model.proofs.Dues.{by_kind, DiesOf, dies_why, wound_from, death_from, sign_for, sign_owed}
use Rattle.ww_model.proofs.Kept.{keeps_lawful}
use Rattle.ww_model.proofs.Meetings.{same_kind}

module _ (c : State) (l : IsBase c) (s : ℕ) (o : IsOldest c s) where
  -- no waiter is older
  none_older : (n : ℕ) (e : Entry) → Has (c.queue n) e → 0 < e.stamp → c.stamp s ≤ e.stamp
  none_older n e h some = let same = (l.queues.at n).stamps e h in let least = o.oldest e.seat (omega arith) in omega arith

  -- Wait-Die: it has to die nowhere
  pub oldest_lives : c.kind ≡ WaitDie → (n k : ℕ) → DiesOf c s n k → ⊥
  oldest_lives dying n k d = let same = (l.queues.at n).stamps d.entry d.stands ∙ ap c.stamp d.seat in ⊎_elim
      (λ i. let a = i.2 in let b = i.3 in let older = i.4 in let least = o.oldest i.0 (omega arith) in omega arith)
      (λ x. let before = before_older (c.queue n) x.0 d.entry (l.queues.at n).ascends x.1 x.2 d.context in
      let least = none_older n x.0 (before_first (c.queue n) x.0 d.entry x.1) x.2 in omega arith)
      (d.older dying)

  -- nobody owes it a sign
  not_owed : (u n k : ℕ) → Has (owes c u n) (s, k) → ⊥
  not_owed u n k owed = by_kind c.kind ⊥
      (λ wounding. let w = wound_from c u n s k wounding owed in let e = w.3 in let some = w.1 in let older = w.2 in let same = e.3 in
      let least = none_older n e.0 e.1 (omega arith) in omega arith)
      (λ dying. oldest_lives dying n k (death_from c u n s k dying owed))

  pub never_signed : (u : ℕ) → Possible c (Sign u s) → ⊥
  never_signed u can = not_owed u (place_of c u) (sign_for c u s) (sign_owed c u s can.signs.owed)

  -- ---- it stays the oldest

  pub same_stamp : (e : Event) → BasePossible c e → e ≢ End s → (after c e).stamp s ≡ c.stamp s
  same_stamp (Begin t) can goes_on = put_else c.stamp t (c.drawn + 1) s
      (λ is. let none = can.no_context in let some = o.context in let same = ap c.stamp is in omega arith)
  same_stamp (End t) can goes_on = put_else c.stamp t 0 s (λ is. goes_on (ap End (sym is)))
  same_stamp _ can goes_on = refl

  -- another context is as old as it was, or younger than all before
  not_older : (e : Event) → BasePossible c e → (t : ℕ) → 0 < (after c e).stamp t → c.stamp s ≤ (after c e).stamp t
  not_older (Begin u) can t = put_cases c.stamp u (c.drawn + 1) t (λ x. 0 < x → c.stamp s ≤ x)
      (λ _ _. let below = l.stamps.below s in omega arith) (λ _. o.oldest t)
  not_older (End u) can t = put_cases c.stamp u 0 t (λ x. 0 < x → c.stamp s ≤ x) (λ _ some. absurd (omega arith)) (λ _. o.oldest t)
  not_older _ can t = o.oldest t

  pub oldest_stays : (e : Event) → BasePossible c e → e ≢ End s → IsOldest (after c e) s
  oldest_stays e can goes_on = let same = same_stamp e can goes_on in record {
    context = let some = o.context in omega arith;
    oldest = λ t some. let least = not_older e can t some in omega arith;
  }

  unsigned_stays : (e : Event) → Possible c e → c.sign s ≡ 0 → (after c e).sign s ≡ 0
  unsigned_stays (Clear t) can none = put_cases c.sign t 0 s (λ x. x ≡ 0) (λ _. refl) (λ _. none)
  unsigned_stays (Sign u v) can none = put_else c.sign v (sign_for c u v) s
      (λ is. never_signed u (subst (λ x. Possible c (Sign u x)) (sym is) can)) ∙ none
  unsigned_stays _ can none = none

  never_dies : (c.kind ≡ WoundWait → c.sign s ≡ 0) → (n : ℕ) → IsSome (dies c s n) → ⊥
  never_dies unsigned n must = let cause = some_of (dies c s n) must in let d = dies_why c s n cause.0 cause.1 in by_kind c.kind ⊥
      (λ wounding. let wound = d.wounded wounding in let signed = wound.0 in let none = unsigned wounding in omega arith)
      (λ dying. oldest_lives dying n cause.0 d)

-- along a run
goes_on : (before c : State) → IsLawful c → (s : ℕ) → c.stamp s ≡ before.stamp s → IsOldestUnsigned c s
    → (events : List Event) → IsRun c events →
    ¬ Has events (End s) → GoesOn before (state_after c events) s
goes_on before c l s same o [] run no_end = record {
  same = same;
  oldest = o;
  never_dies = λ n can. never_dies c l.base s o.oldest o.unsigned n can.signs;
  never_signed = never_signed c l.base s o.oldest;
}
goes_on before c l s same o (e ∷ es) run no_end = let can = run.0 in let on : e ≢ End s = λ is. no_end (inl (sym is)) in
    goes_on before (after c e) (keeps_lawful c e can l) s (same_stamp c l.base s o.oldest e can.base on ∙ same) (record {
      oldest = oldest_stays c l.base s o.oldest e can.base on;
      unsigned = λ wounding. unsigned_stays c l.base s o.oldest e can (o.unsigned (sym (same_kind c e) ∙ wounding));
    }) es run.1 (λ later. no_end (inr later))

pub oldest_never_dies : OldestNeverDies
oldest_never_dies c l s o events run no_end = goes_on c c l s refl o events run no_end

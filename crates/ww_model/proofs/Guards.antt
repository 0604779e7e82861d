-- Each event keeps the guards in order.
use Rattle.std.proofs.Common.{◌≡◌, ⊎_elim, ℕ, suc, sym, ap, ◌∙◌, arith}
use Rattle.ww_queue.specs.declared.entry.Entry.{Entry}
use Rattle.ww_queue.specs.Queue.{Has, joined, left}
use Rattle.ww_queue.proofs.Joins.{joined_has}
use Rattle.ww_model.specs.declared.event.Event.TheVariants.{Guard, Join, Take, Die, Unguard, Leave}
use Rattle.ww_model.specs.State.{State, put, waiter_of}
use Rattle.ww_model.specs.Lawful.{Guards, KeepsBase}
use Rattle.ww_model.proofs.Puts.{put_cases, put_was, put_kept}
use Rattle.ww_model.proofs.Departures.{stood}

departed : (c : State) (s n : ℕ) → Guards c.queue c.guard → Guards (put c.queue n (left (c.queue n) s)) c.guard
departed c s n l = record { one_guard = l.one_guard; own_guard = λ i j e h. l.own_guard i j e (stood c.queue n s i e h) }

pub keeps_guards : KeepsBase (λ c. Guards c.queue c.guard)
keeps_guards c (Guard s n) can l = record {
  one_guard = λ t i j a b. ⊎_elim
      (λ x. ⊎_elim (λ y. x.0 ∙ sym y.0) (λ y. absurd (can.inside_none j (y.1 ∙ sym x.1))) (put_was c.guard n (suc s) j (λ g. g ≡ suc t) b))
      (λ x. ⊎_elim (λ y. absurd (can.inside_none i (x.1 ∙ sym y.1))) (λ y. l.guards.one_guard t i j x.1 y.1)
      (put_was c.guard n (suc s) j (λ g. g ≡ suc t) b))
      (put_was c.guard n (suc s) i (λ g. g ≡ suc t) a);
  own_guard = λ i j e h b. ⊎_elim
      (λ x. let same : e.seat ≡ s = let z = x.1 in omega arith in ⊎_elim (λ a. absurd (a.1 i e h same))
      (⊎_elim (λ a. l.queues.one_queue i n e a.0 h a.1 (same ∙ sym a.2) ∙ sym x.0) (λ a. absurd (a.0 i e h same))) can.why)
      (λ x. l.guards.own_guard i j e h x.1) (put_was c.guard n (suc s) j (λ g. g ≡ suc e.seat) b);
}
keeps_guards c (Unguard s n) can l = let was = λ (t i : ℕ). put_kept c.guard n 0 i (λ g. g ≡ suc t) (λ z. omega arith) in record {
  one_guard = λ t i j a b. l.guards.one_guard t i j (was t i a) (was t j b);
  own_guard = λ i j e h b. l.guards.own_guard i j e h (was e.seat j b);
}
keeps_guards c (Join s n) can l = record {
  one_guard = l.guards.one_guard;
  own_guard = λ i j e h b. put_cases c.queue n (joined (c.queue n) (waiter_of c s)) i (λ q. Has q e → i ≡ j)
      (λ is k. ⊎_elim (λ x. is ∙ l.guards.one_guard s n j can.inside.guard (b ∙ ap (λ (y : Entry). suc y.seat) x))
      (λ x. is ∙ l.guards.own_guard n j e x b) (joined_has (c.queue n) (waiter_of c s) e k))
      (λ _ k. l.guards.own_guard i j e k b) h;
}
keeps_guards c (Take s n) can l = departed c s n l.guards
keeps_guards c (Die s n) can l = departed c s n l.guards
keeps_guards c (Leave s n) can l = departed c s n l.guards
keeps_guards c _ can l = l.guards

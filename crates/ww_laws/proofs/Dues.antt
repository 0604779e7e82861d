-- A lock that is there for a waiter is taken.
use Rattle.std.proofs.Common.{◌≡◌, ◌⊎◌, inl, inr, ⊎_elim, ℕ, suc, ◌≤◌, refl, sym, ap, ◌∙◌, subst, arith}
use Rattle.ww_queue.specs.declared.entry.Entry.{Entry}
use Rattle.ww_queue.specs.Queue.{Has}
use Rattle.ww_model.specs.declared.state.Holder.TheVariants.{Nobody, Handed}
use Rattle.ww_model.specs.declared.event.Event.TheVariants.{Take, Die, Leave}
use Rattle.ww_model.specs.Snapshot.{IsFirst}
use Rattle.ww_model.proofs.Cancels.{not_free, kept_there}
use Rattle.ww_laws.specs.Scene.{Scene, Step, performs}
use Rattle.ww_laws.specs.Sleepers.{IsEndlessRun, IsDue}
use Rattle.ww_laws.specs.Premises.{WaitersGoOn}
use Rattle.ww_laws.specs.GoingOn.{DueLocksAreTaken, EndsWait}
use Rattle.ww_laws.proofs.Steps.{handed_next, free_next}
use Rattle.ww_laws.proofs.Endless.{unless}
use Rattle.ww_laws.proofs.Runs.{IsCalled, Stays, Ended, Sleeps, ended_from, orderly_at, lawful_at, made_next, may_be, comes_in, goes_out, along}

module _ (scene : ℕ → Scene) (step : ℕ → Step) (run : IsEndlessRun scene step) (go : WaitersGoOn scene step) where
  pub due_called : (i s n : ℕ) → IsDue (scene i).core s n → IsCalled (scene i) s
  due_called i s n due = (orderly_at scene step run i).due s n due

  -- ---- a lock that was handed over

  handed_on : (e : Entry) (n i j : ℕ) → i ≤ j → Stays scene step e n i j → (scene i).core.owner n ≡ Handed e.seat →
      (scene j).core.owner n ≡ Handed e.seat
  handed_on e n i j later stays own = along scene step run (λ w. w.core.owner n ≡ Handed e.seat) i j later own
      (λ k from below before. handed_next (scene k) (step k) e.seat n (run.may k) before (stays.on k from below))

  -- the waiter that is inside the guard, with the lock handed to it, can't leave it so
  handed_inside : (e : Entry) (n i : ℕ) → Has ((scene i).core.queue n) e → (scene i).core.owner n ≡ Handed e.seat →
      (scene i).core.guard n ≡ suc e.seat → Ended scene step e n i
  handed_inside e n i h own inside = ⊎_elim (λ ended. ended)
      (λ z. let j = z.at in let other = z.may.possible.base.contended z.may.waits in
      absurd (not_free ((scene j).core.owner n) e.seat other (inr (handed_on e n i j z.later z.stays own))))
      (goes_out scene step run go e n i h inside)

  pub handed_ends : (e : Entry) (n i : ℕ) → Has ((scene i).core.queue n) e → (scene i).core.owner n ≡ Handed e.seat →
      Ended scene step e n i
  handed_ends e n i h own = ⊎_elim (λ ended. ended)
      (λ come. let j = come.at in let later = come.later in ended_from scene step e n i j later come.stays
      (handed_inside e n j (come.stays.here j later (omega arith))
      (handed_on e n i j later come.stays own) come.inside))
      (comes_in scene step run go e n i h (due_called i e.seat n (inl own)))

  -- ---- a free lock

  -- somebody takes lock n inside its guard, at some time from i on
  pub record IsTaken (n i : ℕ) : Type 0 where
    pub at : ℕ
    pub later : i ≤ at
    pub seat : ℕ
    pub takes : step at ≡ performs (Take seat n)

  taken_from : (n i j : ℕ) → i ≤ j → IsTaken n j → IsTaken n i
  taken_from n i j later t = let more = t.later in
      record { at = t.at; later = omega arith; seat = t.seat; takes = t.takes }

  free_at : (e : Entry) (n i j : ℕ) → i ≤ j → Stays scene step e n i j → (scene i).core.owner n ≡ Nobody →
      IsTaken n i ⊎ ((scene j).core.owner n ≡ Nobody)
  free_at e n i j later stays free = ⊎_elim
      (λ f. inl (record { at = f.at; later = f.from; seat = f.holds.0; takes = f.holds.1 })) inr
      (unless (λ k. (u : ℕ) × (step k ≡ performs (Take u n))) (λ k. (scene k).core.owner n ≡ Nobody) i j later free
      (λ k from below still. ⊎_elim inl
      (λ on. inr (made_next scene step run (λ w. w.core.owner n ≡ Nobody) k on))
      (free_next (scene k) (step k) n e (run.may k) still (stays.here k from (omega arith)))))

  -- a wait that ends while the lock is there for the waiter, or is free, ends since the waiter takes it
  takes_it : (e : Entry) (n i : ℕ) → ((scene i).core.owner n ≡ Nobody) ⊎ ((scene i).core.owner n ≡ Handed e.seat) →
      EndsWait e.seat n (step i) → step i ≡ performs (Take e.seat n)
  takes_it e n i there ends = let c = (scene i).core in let l = lawful_at scene step run i in ⊎_elim (λ take. take)
      (⊎_elim
      (λ dies. let can = may_be scene step run i (performs (Die e.seat n)) dies in
      absurd (not_free (c.owner n) e.seat can.possible.base.other there))
      (λ leaves. let can = may_be scene step run i (performs (Leave e.seat n)) leaves in
      absurd (not_free (c.owner n) e.seat (kept_there c l.base e.seat n can.possible.base) there)))
      ends

  free_ends : (e : Entry) (n i : ℕ) → (scene i).core.owner n ≡ Nobody → Ended scene step e n i → IsTaken n i
  free_ends e n i free end = ⊎_elim (λ t. t)
      (λ still. record { at = end.at; later = end.later; seat = e.seat; takes = takes_it e n end.at (inl still) end.ends })
      (free_at e n i end.at end.later end.stays free)

  free_inside : (e : Entry) (n i : ℕ) → Has ((scene i).core.queue n) e → (scene i).core.owner n ≡ Nobody →
      (scene i).core.guard n ≡ suc e.seat → IsTaken n i
  free_inside e n i h free inside = ⊎_elim (free_ends e n i free)
      (λ z. let j = z.at in ⊎_elim (λ t. t)
      (λ still. let other = z.may.possible.base.contended z.may.waits in
      absurd (not_free ((scene j).core.owner n) e.seat other (inl still)))
      (free_at e n i j z.later z.stays free))
      (goes_out scene step run go e n i h inside)

  pub free_taken : (e : Entry) (n i : ℕ) → Has ((scene i).core.queue n) e → IsFirst ((scene i).core.queue n) e.seat →
      (scene i).core.owner n ≡ Nobody → IsTaken n i
  free_taken e n i h first free = ⊎_elim (free_ends e n i free)
      (λ come. let j = come.at in let later = come.later in ⊎_elim (λ t. t)
      (λ still. taken_from n i j later (free_inside e n j (come.stays.here j later (omega arith)) still come.inside))
      (free_at e n i j later come.stays free))
      (comes_in scene step run go e n i h (due_called i e.seat n (inr (free, first))))

  -- a waiter that is inside the guard of a free lock can't leave it so
  pub held_free : (e : Entry) (n i : ℕ) → (scene i).core.owner n ≡ Nobody → Sleeps scene step e n i → ⊥
  held_free e n i own z = let j = z.at in let other = z.may.possible.base.contended z.may.waits in
      not_free ((scene j).core.owner n) e.seat other
      (inl (along scene step run (λ w. w.core.owner n ≡ Nobody) i j z.later own
      (λ k from below before. ⊎_elim
      (λ t. let can = may_be scene step run k (performs (Take t.0 n)) t.1 in let g = can.possible.base.inside.guard in
      let mine = z.inside k from (omega arith) in let same : t.0 ≡ e.seat = omega arith in
      absurd (z.stays.on k from below (inl (t.1 ∙ ap (λ u. performs (Take u n)) same)))) (λ still. still)
      (free_next (scene k) (step k) n e (run.may k) before (z.stays.here k from (omega arith))))))

  -- a seat to which a lock was handed takes it
  pub handed_takes : (e : Entry) (n i : ℕ) → Has ((scene i).core.queue n) e → (scene i).core.owner n ≡ Handed e.seat →
      (end : Ended scene step e n i) × (step end.at ≡ performs (Take e.seat n))
  handed_takes e n i h own = let end = handed_ends e n i h own in
      (end, takes_it e n end.at (inr (handed_on e n i end.at end.later end.stays own)) end.ends)

pub due_locks_are_taken : DueLocksAreTaken
due_locks_are_taken scene step run go i s n = let l = lawful_at scene step run i in record {
  taken = ⊎_elim
      (λ own. let h = (l.base.owners.at n).handed_stands s own in
      let t = handed_takes scene step run go h.0 n i h.1 (own ∙ ap Handed (sym h.2)) in
      (t.0.at, t.0.later, (h.0.seat, t.1)))
      (λ free. let f = free.1 in let there = subst (λ q. Has q f.0) (sym f.2) (inl refl) in
      let t = free_taken scene step run go f.0 n i there (f.0, f.1, f.2, refl) free.0 in
      (t.at, t.later, (t.seat, t.takes)));
  handed = λ own. let h = (l.base.owners.at n).handed_stands s own in
      let t = handed_takes scene step run go h.0 n i h.1 (own ∙ ap Handed (sym h.2)) in
      (t.0.at, t.0.later, t.1 ∙ ap (λ u. performs (Take u n)) h.2);
}

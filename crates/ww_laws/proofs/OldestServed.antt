-- In Wound-Wait the oldest context of those that don't rest gets each lock that it waits for, once it has one.
use Rattle.std.proofs.Common.{◌≡◌, ◌≢◌, inl, inr, ⊎_elim, ℕ, ◌<◌, ◌≤◌, true, refl, sym, ap, ◌∙◌, subst, arith}
use Rattle.std.proofs.lemmas.Bool.{cases_Bool, cases_lt}
use mathlib.Core.Logic.{dite}
use native.Mathlib.Decide.{ℕ_discrete}
use Rattle.ww_queue.specs.declared.kind.Kind.TheVariants.{WoundWait}
use Rattle.ww_queue.specs.declared.entry.Entry.{Entry}
use Rattle.ww_queue.specs.Queue.{Has, Stands}
use Rattle.ww_model.specs.declared.state.Holder.TheVariants.{Taken}
use Rattle.ww_model.specs.declared.event.Event.TheVariants.{Take, Die, Leave}
use Rattle.ww_model.specs.State.{dies}
use Rattle.ww_model.proofs.Options.{some_of}
use Rattle.ww_model.proofs.Dues.{dies_why}
use Rattle.ww_laws.specs.Scene.{Scene, Step, performs}
use Rattle.ww_laws.specs.Sleepers.{IsEndlessRun}
use Rattle.ww_laws.specs.Premises.{WaitersGoOn, HoldersRelease, WaitsForEver, IsOldestActive, FirstsAsk}
use Rattle.ww_laws.specs.GoingOn.{OldestIsServed}
use Rattle.ww_laws.proofs.Runs.{Stays, Ended, stays_less, ended_from, until_at, lawful_at, kind_at, may_be, along}
use Rattle.ww_laws.proofs.Links.{Link, link_breaks}
use Rattle.ww_laws.proofs.Rests.{unsigned_next, rests_on, rests_stands_not, is_up}
use Rattle.ww_laws.proofs.Served.{same_context, never_ends, wait_ends}

-- ---- along a run

module _ (scene : ℕ → Scene) (step : ℕ → Step) (run : IsEndlessRun scene step) where
  -- it is so as long as its context goes on
  pub oldest_then : (s i j : ℕ) → i ≤ j → IsOldestActive scene step s i →
      (scene j).core.stamp s ≡ (scene i).core.stamp s → IsOldestActive scene step s j
  oldest_then s i j later old mine = let some = old.context in
      let bound = (lawful_at scene step run i).base.stamps.below s in record {
        context = omega arith;
        older = λ t there less.
            let same = same_context scene step run i j t ((scene i).core.stamp s) later (omega arith) there
            (omega arith) in
            rests_on scene step t i j later same (old.older t (omega arith) (omega arith));
      }

module _ (scene : ℕ → Scene) (step : ℕ → Step) (run : IsEndlessRun scene step) (go : WaitersGoOn scene step)
    (e : Entry) (n : ℕ) where
  -- who waits stays so
  pub oldest_on : (k j : ℕ) → k ≤ j → Stays scene step e n k j → IsOldestActive scene step e.seat k →
      IsOldestActive scene step e.seat j
  oldest_on k j later stays old = let stamp = λ (x : ℕ) (from : k ≤ x) (to : x ≤ j).
      ((lawful_at scene step run x).base.queues.at n).stamps e (stays.here x from to) in
      oldest_then scene step run e.seat k j later old
      (sym (stamp j later (omega arith)) ∙ stamp k (omega arith) later)

  -- an owner that waited for ever would be wounded, and wait no more
  no_wait : (k t : ℕ) → (scene k).core.kind ≡ WoundWait → Has ((scene k).core.queue n) e → e.holds ≡ true →
      IsOldestActive scene step e.seat k → (scene k).core.owner n ≡ Taken t → WaitsForEver scene step t k →
      Ended scene step e n k
  no_wait k t kind here holds old own ever = let m = ever.0 in let always = ever.1 in let c = (scene k).core in let l =
      (lawful_at scene step run k).base in
      let h = always k (omega arith) in
      let f = h.0 in let its = (l.queues.at m).stamps f h.1 in let mine = (l.queues.at n).stamps e here in
      let owns : c.owner n ≡ Taken f.seat = own ∙ ap Taken (sym h.2) in
      let some : 0 < c.stamp f.seat = dite (ℕ_discrete (c.stamp f.seat) 0)
      (λ z. absurd (l.solos.none_queued m n f h.1 z owns)) (λ z. omega arith) in
      let context = old.context in
      let least : c.stamp e.seat ≤ c.stamp f.seat = ⊎_elim
      (λ less. absurd (rests_stands_not scene step k f.seat m (old.older f.seat some less) (f, h.1, refl)))
      (λ most. omega arith) (cases_lt (c.stamp f.seat) (c.stamp e.seat)) in
      let isnt : e.seat ≢ f.seat = (λ is. (l.owners.at n).taken_stands_not f.seat owns e here is) in
      let apart : c.stamp e.seat ≢ c.stamp f.seat = (λ is. isnt (l.stamps.differ e.seat f.seat context is)) in
      let link : Link c = record {
        waiter = e;
        lock = n;
        stands = here;
        holds = holds;
        context = omega arith;
        owner = f;
        place = m;
        waits = h.1;
        owns = owns;
        wounds = λ _. omega arith;
        dies = λ dying. let z = kind in absurd (cc);
      } in ⊎_elim (λ out. out)
      (λ end. absurd (never_ends scene step run f m k
      (λ x from. subst (Stands ((scene x).core.queue m)) (sym h.2) (always x from)) end))
      (link_breaks scene step run go k link)

  oldest_wait_ends : HoldersRelease scene step → FirstsAsk scene step → (k : ℕ) → (scene k).core.kind ≡ WoundWait →
      Has ((scene k).core.queue n) e → e.holds ≡ true → IsOldestActive scene step e.seat k →
      Ended scene step e n k
  oldest_wait_ends release asks k kind here holds old = let l = (lawful_at scene step run k).base in
      let same = (l.queues.at n).stamps e here in let some = old.context in ⊎_elim (λ end. end)
      (λ locked. let j = locked.at in let later = locked.later in ⊎_elim (λ end. end)
      (λ stays. ended_from scene step e n k j later stays (no_wait j locked.owner
      (kind_at scene step run k j later ∙ kind) (stays.here j later (omega arith)) holds
      (oldest_on k j later stays old) (locked.owns j (omega arith)) locked.ever))
      (until_at scene step e n k j later run here))
      (wait_ends scene step run go release asks e n k (record {
        here = here;
        context = omega arith;
        older = λ t there less. inr (old.older t there (omega arith));
      }))

  -- it is never signed
  unsigned_on : (k j : ℕ) → k ≤ j → Stays scene step e n k j → IsOldestActive scene step e.seat k →
      (scene k).core.sign e.seat ≡ 0 → (scene j).core.sign e.seat ≡ 0
  unsigned_on k j later stays old none = along scene step run (λ w. w.core.sign e.seat ≡ 0) k j later none
      (λ x from below. unsigned_next (scene x) (step x) e.seat (run.may x) (lawful_at scene step run x).base
      (is_up scene step e.seat x (oldest_on k x from (stays_less scene step e n k x j (omega arith) stays) old)))

pub oldest_is_served : OldestIsServed
oldest_is_served scene step run go release asks i s n kind old unsigned owns h = let e = h.0 in
    let l = (lawful_at scene step run i).base in
    let mine = subst (λ u. IsOldestActive scene step u i) (sym h.2) old in
    let holds : e.holds ≡ true = ⊎_elim (λ is. is)
    (λ isnt. absurd ((l.queues.at n).holds_not e h.1 isnt owns.0 (owns.1 ∙ ap Taken (sym h.2)))) (cases_Bool e.holds) in
    let end = oldest_wait_ends scene step run go e n release asks i kind h.1 holds mine in let j = end.at in
    let none = unsigned_on scene step run go e n i j end.later end.stays mine
    (ap (scene i).core.sign h.2 ∙ unsigned) in (
      j,
      end.later,
      ⊎_elim (λ take. inl (take ∙ ap (λ u. performs (Take u n)) h.2))
          (⊎_elim
          (λ die. let can = may_be scene step run j (performs (Die e.seat n)) die in
          let cause = some_of (dies (scene j).core e.seat n) can.possible.signs in
          let d = dies_why (scene j).core e.seat n cause.0 cause.1 in
          let signed = (d.wounded (kind_at scene step run i j end.later ∙ kind)).0 in absurd (omega arith))
          (λ leaves. inr (leaves ∙ ap (λ u. performs (Leave u n)) h.2)))
          end.ends,
    )

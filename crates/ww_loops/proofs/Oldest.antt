-- In Wound-Wait the loop of the oldest context ends: its round is over in the end, it never dies, and where it has a lock it gets each
-- one that it waits for.
use Rattle.std.proofs.Common.{◌≡◌, ◌≢◌, ◌⊎◌, ⊎_elim, inl, inr, ℕ, suc, ◌<◌, ◌≤◌, true, false, List, Some, sym, ap, ◌∙◌, subst, arith}
use Rattle.std.proofs.lemmas.Bool.{cases_Bool}
use Rattle.ww_queue.specs.declared.kind.Kind.TheVariants.{WoundWait}
use Rattle.ww_queue.specs.Queue.{Stands, StandsNot}
use Rattle.ww_model.specs.declared.event.Event.TheVariants.{Take, Die, Leave}
use Rattle.ww_model.specs.declared.state.Holder.TheVariants.{Taken}
use Rattle.ww_model.specs.State.{State, OwnsSome, OwnsNone}
use Rattle.ww_invariant.specs.declared.cells.Start.{Start}
use Rattle.ww_laws.specs.Scene.{Scene, Step, performs}
use Rattle.ww_laws.specs.Premises.{InTheEnd, WaitsForEver, IsOldestActive, HoldersRelease}
use Rattle.ww_laws.proofs.Ending.{up_then, dies_nowhere}
use Rattle.ww_laws.proofs.OldestServed.{oldest_then}
use Rattle.ww_laws.proofs.Rests.{unsigned_next}
use Rattle.ww_laws.proofs.Runs.{lawful_at, kind_at, made_next, along as along_run}
use Rattle.ww_laws.proofs.Served.{gone}
use Rattle.ww_refines.specs.Moment.{core}
use Rattle.ww_refines.specs.Endless.{step_of}
use Rattle.ww_refines.proofs.Serving.{oldest_is_served_in_runs}
use Rattle.ww_callers.specs.Stages.{Stage}
use Rattle.ww_callers.specs.Deeds.{Deed, steps}
use Rattle.ww_callers.specs.Drives.{thread_move}
use Rattle.ww_callers.proofs.Runs.{accounted_on, is_endless_by}
use Rattle.ww_loops.specs.Contexts.{as_scenes, steps_by, AllAreServed}
use Rattle.ww_loops.specs.Loops.{LoopState, outside, RoundsGoOn, LoopEnds, AreLoops, WaitsForItsFirst, OldestLoopEnds}
use Rattle.ww_loops.proofs.Ending.{to_run, oldest_there, all_scheduled, event_at}
use Rattle.ww_loops.proofs.Rounds.{run, same_between, round_over, runs_on, holders_release}

module _ {key : Start} (stage : ℕ → Stage key) (deed : ℕ → Deed) (phase : ℕ → ℕ → LoopState) (asked : ℕ → ℕ → List ℕ)
    (h : AreLoops stage deed phase asked) (served : AllAreServed stage deed)
    (goes : (d : ℕ) → d < key.seats → RoundsGoOn stage deed phase asked d) (i d : ℕ)
    (kind : (core (stage i).moment).kind ≡ WoundWait) (old : IsOldestActive (as_scenes stage) (steps_by key deed) d i)
    (unsigned : (core (stage i).moment).sign d ≡ 0) where
  abbrev st : ℕ → Step
  st = steps_by key deed

  abbrev scene : ℕ → Scene
  scene = (run stage deed phase asked h).scene

  there : (k : ℕ) → (scene k).core ≡ core (stage k).moment
  there k = ((run stage deed phase asked h).shown k).core

  oldest : IsOldestActive scene st d i
  oldest = oldest_there stage deed (accounted_on stage deed h.endless) d i old

  no_sign : (scene i).core.sign d ≡ 0
  no_sign = ap (λ (c : State). c.sign d) (there i) ∙ unsigned

  module _ (j : ℕ) (later : i ≤ j) (same : (core (stage j).moment).stamp d ≡ (core (stage i).moment).stamp d) where
    same_in : (x : ℕ) → i ≤ x → x ≤ j → (scene x).core.stamp d ≡ (scene i).core.stamp d
    same_in x from to = ap (λ (c : State). c.stamp d) (there x) ∙ same_between stage deed phase asked h i x j d from to old.context same
        ∙ sym (ap (λ (c : State). c.stamp d) (there i))

    -- it never dies, and nobody signs it
    lives : (n : ℕ) → st j ≢ performs (Die d n)
    lives n = dies_nowhere scene st (run stage deed phase asked h).run d i oldest j n later (same_in j later (omega arith)) (λ _. no_sign)

    unsigned_there : (scene j).core.sign d ≡ 0
    unsigned_there = let a = run stage deed phase asked h in
        along_run scene st a.run (λ w. w.core.sign d ≡ 0) i j later no_sign (λ x from below.
        unsigned_next (scene x) (st x) d (a.run.may x) (lawful_at scene st a.run x).base
        (up_then scene st a.run d i oldest x from (same_in x from (omega arith))))

    -- where it has a lock, and waits for another, it gets that, or is cancelled
    comes : (m : ℕ) → Stands ((core (stage j).moment).queue m) d → OwnsSome (core (stage j).moment) d →
        ((k : ℕ) → j ≤ k → Stands ((core (stage k).moment).queue m) d) →
        InTheEnd j (λ x. deed x ≡ steps d (Some (performs (Leave d m))))
    comes m waits owns ever = let a = run stage deed phase asked h in let endless = accounted_on stage deed h.endless in
        let e = oldest_is_served_in_runs key (λ k. (stage k).moment) (λ k. thread_move (deed k)) (is_endless_by stage deed endless)
        (all_scheduled stage deed endless served) a
        (to_run stage deed endless (λ w. HoldersRelease w st) (holders_release stage deed phase asked h goes)) j d m
        (sym (ap (λ (c : State). c.kind) (there j)) ∙ kind_at scene st a.run i j later ∙ ap (λ (c : State). c.kind) (there i) ∙ kind)
        (oldest_then scene st a.run d i j later oldest (same_in j later (omega arith)))
        (sym (ap (λ (c : State). c.sign d) (there j)) ∙ unsigned_there) owns waits in let x = e.0 in let after = e.1 in
        ⊎_elim
        (λ takes. let still = subst (λ (c : State). Stands (c.queue m) d) (sym (there (suc x))) (ever (suc x) (omega arith)) in
        absurd (made_next scene st a.run (λ w. StandsNot (w.core.queue m) d) x
        (gone (scene x) (st x) d m (lawful_at scene st a.run x).base (inl (ap (step_of key) takes))) still.0 still.1 still.2))
        (λ leaves. (x, after, event_at stage deed endless x (Leave d m) leaves)) e.2

    -- it has a lock or none
    waits_so : WaitsForEver (as_scenes stage) st d j →
        InTheEnd i (λ x. LoopEnds stage deed phase asked d x ⊎ (WaitsForItsFirst stage deed d x
        ⊎ ((n : ℕ) × (deed x ≡ steps d (Some (performs (Leave d n)))))))
    waits_so ever = let m = ever.0 in let here = ever.1 j (omega arith) in
        let w = subst (λ (c : State). Stands (c.queue m) d) (sym (there j)) here in
        let line = (lawful_at scene st (run stage deed phase asked h).run j).base.queues.at m in ⊎_elim
        (λ holds. let own = line.holds w.0 w.1 holds in
        let e = comes m here (own.0, sym (ap (λ (c : State). c.owner own.0) (there j)) ∙ own.1 ∙ ap Taken w.2) ever.1 in
        let after = e.1 in (e.0, omega arith, inr (inr (m, e.2))))
        (λ none. (
          j,
          later,
          inr (inl (
            (λ n own. line.holds_not w.0 w.1 none n
                (ap (λ (c : State). c.owner n) (there j) ∙ own ∙ ap Taken (sym w.2))),
            ever,
          )),
        ))
        (cases_Bool w.0.holds)

pub oldest_loop_ends : OldestLoopEnds
oldest_loop_ends key stage deed phase asked h served goes i = λ d low kind is.
    let old = is.oldest in let unsigned = is.unsigned in let runs = is.runs in let e = round_over stage deed phase asked h d low (goes d low) i runs in let j = e.0 in
    ⊎_elim (λ f. (f.at, f.from, inl f.holds))
    (λ on. ⊎_elim (λ out. absurd (on.0 out))
    (⊎_elim
    (λ dies. absurd (lives stage deed phase asked h served goes i d kind old unsigned j e.1 on.1 dies.0
    (ap (λ x. steps_by key (λ _. x) 0) dies.1)))
    (λ ever. waits_so stage deed phase asked h served goes i d kind old unsigned j e.1 on.1 ever)) e.2)
    (runs_on stage deed phase asked h d low (goes d low) i j e.1 runs)

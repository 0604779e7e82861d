-- Contexts are served in runs of threads, as the scenes that these show.
use Rattle.std.proofs.Common.{◌≡◌, ◌⊎◌, ⊎_elim, inl, inr, ℕ, ◌<◌, Option, sym, ap, ◌∙◌, subst}
use Rattle.ww_queue.specs.declared.kind.Kind.TheVariants.{WoundWait, WaitDie}
use Rattle.ww_queue.specs.Queue.{Stands}
use Rattle.ww_model.specs.declared.event.Event.TheVariants.{Take, Die, Leave}
use Rattle.ww_model.specs.State.{State, OwnsSome}
use Rattle.ww_invariant.specs.declared.cells.Start.{Start}
use Rattle.ww_laws.specs.Scene.{Step, performs}
use Rattle.ww_laws.specs.GoingOn.{EndsWait}
use Rattle.ww_laws.proofs.OldestServed.{oldest_is_served}
use Rattle.ww_laws.proofs.Ending.{oldest_never_gives_way, oldest_ends}
use Rattle.ww_laws.proofs.Deaths.{backing_off_ends}
use Rattle.ww_laws.proofs.Contexts.{contexts_are_over, contexts_are_served, oldest_wait_die_is_served}
use Rattle.ww_refines.specs.Moment.{Moment, core}
use Rattle.ww_refines.specs.Endless.{step_of, RunsAlong}
use Rattle.ww_refines.specs.Contexts.{steps_of, TakesOrLeaves, EndsWaitThere, OldestNeverGivesWayInRuns, OldestIsServedInRuns, OldestEndsInRuns, ContextsAreServedInRuns, OldestWaitDieIsServedInRuns, BackingOffEndsInRuns, ContextsAreOverInRuns}
use Rattle.ww_refines.proofs.Unlocking.{performed, firsts_ask_in_runs, waiters_go_on}

-- what is said of the locks of a moment holds in its scene
in_scene : {key : Start} (moment : ℕ → Moment key) (move : ℕ → Option Step) (a : RunsAlong moment move)
    (P : State → Type 0) (i : ℕ) → P (core (moment i)) → P (a.scene i).core
in_scene moment move a P i = subst P (sym (a.shown i).core)

-- the context of a moment is that of its scene
same_there : {key : Start} (moment : ℕ → Moment key) (move : ℕ → Option Step) (a : RunsAlong moment move) (s i k : ℕ) →
    (core (moment k)).stamp s ≡ (core (moment i)).stamp s → (a.scene k).core.stamp s ≡ (a.scene i).core.stamp s
same_there moment move a s i k same =
    ap (λ (c : State). c.stamp s) (a.shown k).core ∙ same ∙ sym (ap (λ (c : State). c.stamp s) (a.shown i).core)

takes_or_leaves : (key : Start) (x : Option Step) (s n : ℕ) →
    (step_of key x ≡ performs (Take s n)) ⊎ (step_of key x ≡ performs (Leave s n)) → TakesOrLeaves s n x
takes_or_leaves key x s n = ⊎_elim (λ is. inl (performed key x (Take s n) is))
    (λ is. inr (performed key x (Leave s n) is))

ends_wait : (key : Start) (x : Option Step) (s n : ℕ) → EndsWait s n (step_of key x) → EndsWaitThere s n x
ends_wait key x s n = ⊎_elim (λ is. inl (inl (performed key x (Take s n) is)))
    (⊎_elim (λ is. inr (performed key x (Die s n) is)) (λ is. inl (inr (performed key x (Leave s n) is))))

pub oldest_never_gives_way_in_runs : OldestNeverGivesWayInRuns
oldest_never_gives_way_in_runs key moment move endless a i j s later old none same =
    let way = oldest_never_gives_way a.scene (steps_of key move) a.run i j s later old
    (in_scene moment move a (λ c. c.kind ≡ WoundWait → c.sign s ≡ 0) i none)
    (same_there moment move a s i j same) in
    (λ t is. way.0 t (ap (step_of key) is), λ n is. way.1 n (ap (step_of key) is))

pub oldest_is_served_in_runs : OldestIsServedInRuns
oldest_is_served_in_runs key moment move endless scheduled a release i s n kind old unsigned owns waits =
    let end = oldest_is_served a.scene (steps_of key move) a.run (waiters_go_on moment move endless a scheduled) release
    (firsts_ask_in_runs key moment move endless a) i s n (in_scene moment move a (λ c. c.kind ≡ WoundWait) i kind) old
    (in_scene moment move a (λ c. c.sign s ≡ 0) i unsigned) (in_scene moment move a (λ c. OwnsSome c s) i owns)
    (in_scene moment move a (λ c. Stands (c.queue n) s) i waits) in
    (end.0, end.1, takes_or_leaves key (move end.0) s n end.2)

pub oldest_ends_in_runs : OldestEndsInRuns
oldest_ends_in_runs key moment move endless scheduled a release i s kind old unsigned ends owning =
    let end = oldest_ends a.scene (steps_of key move) a.run (waiters_go_on moment move endless a scheduled) release
    (firsts_ask_in_runs key moment move endless a) i s (in_scene moment move a (λ c. c.kind ≡ WoundWait) i kind) old
    (in_scene moment move a (λ c. c.sign s ≡ 0) i unsigned) ends owning in (
      end.0,
      end.1,
      ⊎_elim inl (λ leave. inr (leave.0, performed key (move end.0) (Leave s leave.0) leave.1)) end.2,
    )

pub contexts_are_served_in_runs : ContextsAreServedInRuns
contexts_are_served_in_runs key moment move endless scheduled a release ends backs tries i s n kind some waits =
    let end = contexts_are_served a.scene (steps_of key move) a.run (waiters_go_on moment move endless a scheduled)
    release ends (firsts_ask_in_runs key moment move endless a) backs tries i s n
    (in_scene moment move a (λ c. c.kind ≡ WaitDie) i kind) (in_scene moment move a (λ c. 0 < c.stamp s) i some)
    (in_scene moment move a (λ c. Stands (c.queue n) s) i waits) in
    (end.0, end.1, ends_wait key (move end.0) s n end.2)

pub oldest_wait_die_is_served_in_runs : OldestWaitDieIsServedInRuns
oldest_wait_die_is_served_in_runs key moment move endless scheduled a release ends backs tries i s n kind old waits =
    let end = oldest_wait_die_is_served a.scene (steps_of key move) a.run
    (waiters_go_on moment move endless a scheduled) release ends (firsts_ask_in_runs key moment move endless a) backs
    tries i s n (in_scene moment move a (λ c. c.kind ≡ WaitDie) i kind) old
    (in_scene moment move a (λ c. Stands (c.queue n) s) i waits) in
    (end.0, end.1, takes_or_leaves key (move end.0) s n end.2)

-- ---- backing off ends

pub backing_off_ends_in_runs : BackingOffEndsInRuns
backing_off_ends_in_runs key moment move endless a backs i s some = λ older.
    let end = backing_off_ends a.scene (steps_of key move) a.run backs i s (in_scene moment move a (λ c. 0 < c.stamp s) i some) older in
    let h = end.2 in (
      end.0,
      end.1,
      record {
        once = λ k l m n low less died again same. h.once k l m n low less (ap (step_of key) died) (ap (step_of key) again)
            (same_there moment move a s i l same);
        never = λ kind k n low died same. h.never (in_scene moment move a (λ c. c.kind ≡ WaitDie) i kind) k n low
            (ap (step_of key) died) (same_there moment move a s i k same);
      },
    )

pub contexts_are_over_in_runs : ContextsAreOverInRuns
contexts_are_over_in_runs key moment move endless scheduled a release ends backs = λ tries i s kind some.
    contexts_are_over a.scene (steps_of key move) a.run (waiters_go_on moment move endless a scheduled) release ends
    (firsts_ask_in_runs key moment move endless a) backs tries i s (in_scene moment move a (λ c. c.kind ≡ WaitDie) i kind)
    (in_scene moment move a (λ c. 0 < c.stamp s) i some)

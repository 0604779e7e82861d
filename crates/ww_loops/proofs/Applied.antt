-- What theorems come to: each lemma takes theorems, and gives a sentence of specs/Uses by them.
use Rattle.std.proofs.Common.{◌≡◌, ◌≢◌, ◌⊎◌, ⊎_elim, inl, inr, ℕ, suc, ◌<◌, ◌==◌, ◌||◌, Bool, true, false, true≢false, List, sym, ap, ◌∙◌, subst, arith, if◌then◌else◌}
use Rattle.ww_plain.specs.Numbers.{is_among}
use Rattle.ww_plain.proofs.Members.{or_cases, same_from_eqb}
use Rattle.ww_queue.specs.declared.entry.Entry.{Entry}
use Rattle.ww_queue.specs.declared.kind.Kind.{Kind}
use Rattle.ww_queue.specs.declared.kind.Kind.TheVariants.{WoundWait, WaitDie}
use Rattle.ww_queue.specs.Queue.{StandsNot}
use Rattle.ww_model.specs.declared.event.Event.TheVariants.{Take, End}
use Rattle.ww_model.specs.declared.state.Holder.{Holder}
use Rattle.ww_model.specs.declared.state.Holder.TheVariants.{Nobody, Taken, Handed}
use Rattle.ww_model.specs.Event.{after}
use Rattle.ww_model.specs.Met.{MeetsNow, HasMet}
use Rattle.ww_model.specs.Run.{Reached, at_start, further}
use Rattle.ww_model.specs.State.{State, word_from}
use Rattle.ww_model.specs.Theorem.{DeadlkWasMet}
use Rattle.ww_model.proofs.Puts.{put_here}
use Rattle.ww_laws.specs.Scene.{performs}
use Rattle.ww_laws.specs.Premises.{InTheEnd}
use Rattle.ww_laws.specs.GoingOn.{NoDeadlockLasts, EndsWait}
use Rattle.ww_laws.proofs.Runs.{lawful_at, made_next, known_next, kind_at}
use Rattle.ww_laws.proofs.Served.{gone}
use Rattle.ww_refines.specs.Moment.{core}
use Rattle.ww_refines.specs.Endless.{step_of}
use Rattle.ww_refines.proofs.Unlocking.{performed}
use Rattle.ww_steps.specs.declared.outlook.Age.{Age}
use Rattle.ww_steps.specs.declared.outlook.Outlook.TheVariants.{Free, Due, Owned}
use Rattle.ww_steps.specs.Outlooks.{shown_by}
use Rattle.ww_callers.specs.Drives.{thread_move, NoWakeIsLostInDrives, NoDeadlockLastsInDrives, LooksAreTrue}
use Rattle.ww_callers.proofs.Runs.{driven, accounted_on}
use Rattle.ww_loops.specs.Contexts.{steps_by, ContextsAreOverInDrives, OldestIsServedInDrives}
use Rattle.ww_loops.specs.Calls.{LockCallsTakeTheirLock}
use Rattle.ww_loops.specs.Loops.{LoopState, owes, is_owed, LoopEnds, LoopsBackOff, LoopsEnd, OldestLoopEnds}
use Rattle.ww_loops.specs.Witness.{HasLoopsDriven}
use Rattle.ww_loops.specs.Uses.{EndsWithItsLocks, EachLoopEnds, OldestLeavesItsLoop, EachContextIsOver, OldestHasItsLock, CallsGiveTheLock, DeadlocksGiveWay, DeadlockOfScenesGivesWay, SleepersWait, LooksSaw, DeadlkHadAReason}
use Rattle.ww_loops.proofs.Desks.{taken_by, owned_by}
use Rattle.ww_loops.proofs.Ending.{along, event_at}
use Rattle.ww_loops.proofs.Rounds.{run}

-- ---- loops

owed_is : (ph : LoopState) (n : ℕ) → is_owed ph n ≡ true → ph ≡ owes n
owed_is (owes m) n is = ap owes (same_from_eqb m n is)
owed_is _ n is = absurd (true≢false (sym is))

module _ (kind : Kind) (w : HasLoopsDriven kind) where
  kind_there : (i : ℕ) → (core (w.stage i).moment).kind ≡ kind
  kind_there i = let a = run w.stage w.deed w.phase w.asked w.are in
      ap (λ (c : State). c.kind) (sym (a.shown i).core) ∙ kind_at a.scene (steps_by w.key w.deed) a.run 0 i (omega arith)
      ∙ ap (λ (c : State). c.kind) (a.shown 0).core ∙ w.core_kind

  ends_with : (d i : ℕ) → d < w.key.seats → InTheEnd i (LoopEnds w.stage w.deed w.phase w.asked d) →
      EndsWithItsLocks w.stage w.phase w.asked d i
  ends_with d i low e = let j = e.0 in let from = driven w.stage w.deed w.are.endless j in record {
    at = j;
    later = e.1;
    runs = e.2.runs;
    ends = e.2.ends;
    has = λ n is. taken_by (w.stage j) from d low n (e.2.exact n ∙ ap (λ b. b || is_owed (w.phase j d) n) is);
    only = λ n has. ⊎_elim inl (λ owed. inr (owed_is (w.phase j d) n owed))
        (or_cases (is_among n (w.asked j d)) (is_owed (w.phase j d) n) (sym (e.2.exact n) ∙ owned_by (w.stage j) from d low n has));
  }

pub each_loop_ends : LoopsEnd → EachLoopEnds
each_loop_ends law w i d low runs = ends_with WaitDie w d i low
    (law w.key w.stage w.deed w.phase w.asked w.are w.served w.goes_on i d low (kind_there WaitDie w i) runs)

pub oldest_leaves_its_loop : OldestLoopEnds → OldestLeavesItsLoop
oldest_leaves_its_loop law w i d low oldest = λ stays owns.
    let e = law w.key w.stage w.deed w.phase w.asked w.are w.served (λ s few. (w.goes_on s few).rounds) i d low (kind_there WoundWait w i)
    oldest in ⊎_elim (λ ends. ends_with WoundWait w d i low (e.0, e.1, ends))
    (λ other. absurd (⊎_elim (λ first. owns e.0 first.1.0 e.1 first.0 first.1.1) (λ leaves. stays e.0 leaves.0 e.1 leaves.1) other)) e.2

pub each_context_is_over : LoopsBackOff → ContextsAreOverInDrives → EachContextIsOver
each_context_is_over backing law w i d some = let endless = accounted_on w.stage w.deed w.are.endless in
    let back = backing w.key w.stage w.deed w.phase w.asked w.are in
    let e = law w.key w.stage w.deed endless w.served w.release w.end_or_die back.backs_off back.takes_first i d (kind_there WaitDie w i) some in
    record {
      at = e.0;
      later = e.1;
      over = ⊎_elim (λ ends. inl (event_at w.stage w.deed endless e.0 (End d) (performed w.key (thread_move (w.deed e.0)) (End d) ends)))
          (λ rests. inr (λ k n late same. let r = rests k late same in (r.0 n, r.1 n))) e.2;
    }

pub oldest_has_its_lock : OldestIsServedInDrives → OldestHasItsLock
oldest_has_its_lock law key stage deed endless served release i d = λ n kind old unsigned owns waits stays.
    let e = law key stage deed endless served release i d n kind old unsigned owns waits in
    let st = steps_by key deed in let a = along stage deed endless in let from = e.1 in
    ⊎_elim (λ takes. (
      suc e.0,
      omega arith,
      ap (λ (c : State). c.owner n) (sym (a.shown (suc e.0)).core)
          ∙ known_next a.scene st a.run (λ v. v.core.owner n ≡ Taken d) e.0 (performs (Take d n)) (ap (λ x. step_of key (thread_move x)) takes)
          (put_here (a.scene e.0).core.owner n (Taken d)),
    )) (λ leaves. absurd (stays e.0 from leaves)) e.2

pub calls_give_the_lock : LockCallsTakeTheirLock → CallsGiveTheLock
calls_give_the_lock law kind w d n i = λ j low call.
    let t = law w.key w.stage w.deed w.are.endless w.are.know d n i j low call in (t.at, t.after, t.before, t.takes, t.since)

-- ---- deadlocks and sleepers

pub deadlocks_give_way : NoDeadlockLastsInDrives → DeadlocksGiveWay
deadlocks_give_way law key stage deed endless i seats = λ served dead. let e = law key stage deed endless i seats served dead in
    let j = e.0 in let s = e.2.0 in let n = e.2.2.0 in let st = steps_by key deed in let a = along stage deed endless in
    let ends : EndsWait s n (st j) = inr (⊎_elim (λ dies. inl (ap (λ x. step_of key (thread_move x)) dies))
    (λ leaves. inr (ap (λ x. step_of key (thread_move x)) leaves)) e.2.2.1) in record {
      at = j;
      later = e.1;
      seat = s;
      lock = n;
      one = e.2.1;
      by = e.2.2.1;
      waits_no_more = subst (λ (c : State). StandsNot (c.queue n) s) (a.shown (suc j)).core
          (made_next a.scene st a.run (λ v. StandsNot (v.core.queue n) s) j
          (gone (a.scene j) (st j) s n (lawful_at a.scene st a.run j).base ends));
    }

pub deadlock_of_scenes_gives_way : NoDeadlockLasts → DeadlockOfScenesGivesWay
deadlock_of_scenes_gives_way law kind w = let e = law w.scene w.step w.run 0 w.seats (λ s _. w.waiters s) w.deadlocked in
    (e.0, e.2.0, e.2.2.0, e.2.1, e.2.2.1)

pub sleepers_wait : NoWakeIsLostInDrives → SleepersWait
sleepers_wait law key g driven s low = λ sleeps token unowed. ⊎_elim
    (λ alerted. absurd (⊎_elim (λ has. true≢false (sym has ∙ token)) (λ owed. unowed owed.0 owed.1 owed.2 owed.3) alerted))
    (λ h. record {
      lock = h.lock;
      stands = h.stands;
      outside = h.outside;
      not_handed = λ n is. h.not_due n (inl is);
      not_first = λ n free first. h.not_due n (inr (free, first));
      unsigned = h.unsigned;
      not_condemned = h.not_condemned;
      needs_not_die = h.needs_not_die;
      uncancelled = h.uncancelled;
    }) (law key g driven s low sleeps)

-- ---- answers

unowned : (b : Bool) (t : ℕ) (age : Age) → Owned t age ≢ (if b then Free else Due)
unowned true t age is = cc
unowned false t age is = cc

module _ (c : State) (asked : Bool) (q : List Entry) (own t : ℕ) (age : Age) where
  owner_seen : (o : Holder) → Owned t age ≡ shown_by own (word_from c o asked q) → (o ≡ Taken t) ⊎ (o ≡ Handed t)
  owner_seen Nobody is = absurd (unowned ((word_from c Nobody asked q).flags == 0) t age is)
  owner_seen (Taken u) is = let same : t ≡ u = cc in inl (ap Taken (sym same))
  owner_seen (Handed u) is = let same : t ≡ u = cc in inr (ap Handed (sym same))

pub looks_saw : LooksAreTrue → LooksSaw
looks_saw law = record {
  free = λ key stage deed endless d n i j says. let k = law.free key stage deed endless d n i j says in (k.0, k.1, k.2, k.3.0, k.3.1);
  busy = λ key stage deed endless d n i j says rests. let k = law.busy key stage deed endless d n i j says rests in
      (k.0, k.1, k.2, λ owner queue. k.3 (owner, queue));
  whose = λ key stage deed endless d n i j t a age says answers.
      let k = law.whose key stage deed endless d n i j a (Owned t age) says answers in let c = core (stage k.0).moment in
      (k.0, k.1, k.2, owner_seen c (c.asked n) (c.queue n) ((stage j).desk d).stamp t age (c.owner n) k.3);
}

met_there : (c : State) (at : Reached c) (s k : ℕ) → HasMet c at s k → (d : State) × Reached d × MeetsNow d s k
met_there _ (at_start kind locks seats) s k h = absurd h
met_there _ (further c e at can) s k h = ⊎_elim (λ now. (after c e, further c e at can, now)) (λ before. met_there c at s k before) h.1

pub deadlk_had_a_reason : DeadlkWasMet → DeadlkHadAReason
deadlk_had_a_reason law c at e k can is = let h = law c at e k can is in record {
  seat = h.seat;
  lock = h.lock;
  event = h.event;
  owns = h.met.owns;
  met = h.met.met;
  wounded = λ kind. met_there c at h.seat k (h.met.wounded kind);
}

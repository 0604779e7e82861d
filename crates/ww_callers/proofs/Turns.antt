-- Turns of desks, each as what it makes of a drive: a call, its step at the table, and its answer.
use Rattle.std.proofs.Common.{◌≡◌, ℕ, ◌+◌, ◌-◌, Bool, true, false, [], ◌∷◌, ◌++◌, Option, Some, None, refl, sym, ap, ◌∙◌, subst, arith}
use Rattle.std.specs.Prelude.{slice_index}
use Rattle.ww_word.specs.declared.owner.Owner.{Owner}
use Rattle.ww_model.specs.declared.event.Event.TheVariants.{Begin, Fast}
use Rattle.ww_model.specs.State.{put}
use Rattle.ww_model.proofs.Puts.{put_here}
use Rattle.ww_view.specs.declared.view.View.{View}
use Rattle.ww_view.specs.Made.{begun, fast_taken, fast_missed}
use Rattle.ww_invariant.specs.declared.cells.Sight.{Sight}
use Rattle.ww_invariant.specs.declared.cells.Start.{Start}
use Rattle.ww_invariant.specs.Layout.{stamp_at}
use Rattle.ww_invariant.specs.Steps.{drawing, knowing}
use Rattle.ww_laws.specs.Scene.{Step, performs}
use Rattle.ww_refines.proofs.Pictures.{Picture, At, Next, IsSeated, begins_as, locks_as, misses_as, missed, ComesToWait}
use Rattle.ww_seat.specs.Calls.{HasStayedOut}
use Rattle.ww_seat.specs.declared.look.Arrival.TheVariants.{Came}
use Rattle.ww_seat.specs.declared.waits.Waits.{Waits}
use Rattle.ww_seat.specs.declared.waits.Waits.TheVariants.{ToTheEnd}
use Rattle.ww_steps.specs.declared.turn.Turn.TheVariants.{Wants}
use Rattle.ww_steps.specs.declared.turn.Answer.{Answer}
use Rattle.ww_steps.specs.declared.turn.Answer.TheVariants.{Done, Again}
use Rattle.ww_steps.specs.Situations.{Situation, IsReady}
use Rattle.ww_steps.specs.Answers.{IsTryable}
use Rattle.ww_callers.specs.Deeds.{Call, begin, lock}
use Rattle.ww_callers.proofs.Shown.{Desks, Shown, called, answered, IsAnswer, calls_then, steps_then, answers_then}

-- ---- what a call makes of a desk, which knows this then

abbrev once_begun : Situation → View → Situation
once_begun s v = record s {
  left = s.left - 1;
  draws = s.draws + 1;
  stamp = v.stamp;
  is_done = false;
  told = None;
  view = v;
}

abbrev pub once_locked : Situation → ℕ → View → Situation
once_locked s n v = record s {
  held = s.held ++ n ∷ [];
  told = None;
  tries = s.tries + 1;
  takes = s.takes + 1;
  view = v;
}

abbrev once_missed : Situation → ℕ → Waits → View → Situation
once_missed s n waits v = record s { turn = Wants n Came waits; tries = s.tries + 1; view = v }

-- ---- a call, its first step, and its answer

-- Seat d knows this, and its desk, which knows the same, may be called.
pub record MayTurn (q : Desks) (d : ℕ) (v : Sight) : Type 0 where
  pub idle : q.calling d ≡ false
  pub rose : q.to_sleep d ≡ false
  pub knows : (q.desk d).view ≡ v.part.core
  pub rested : v.part.core.naps ≡ 0
  pub cancelled : (q.desk d).cancelled ≡ v.part.counts.cancelled
  pub out : v.part.core.inside ≡ 0

pub may_turn : {q : Desks} {d : ℕ} {v : Sight} → q.calling d ≡ false → q.to_sleep d ≡ false → (q.desk d).view ≡ v.part.core →
    v.part.core.naps ≡ 0 → (q.desk d).cancelled ≡ v.part.counts.cancelled → v.part.core.inside ≡ 0 → MayTurn q d v
may_turn idle rose knows rested cancelled out =
    record { idle = idle; rose = rose; knows = knows; rested = rested; cancelled = cancelled; out = out }

-- the desks once a call of one step has answered this
abbrev pub turned : Desks → ℕ → Answer → Situation → Desks
turned q d ans s = answered (called q d) d ans s

-- ... where the seat knows this after its step
abbrev pub begins_by : Desks → (d : ℕ) → Sight → Desks
begins_by q d w = turned q d Done (once_begun (q.desk d) w.part.core)

abbrev pub locks_by : Desks → (d n : ℕ) → Sight → Desks
locks_by q d n w = turned q d Done (once_locked (q.desk d) n w.part.core)

abbrev pub misses_by : Desks → (d n : ℕ) → Waits → Sight → Desks
misses_by q d n waits w = turned q d Again (once_missed (q.desk d) n waits w.part.core)

-- a desk with this view before has stayed out, by what its seat's view was and is
stays_out : (s : Situation) (v v' : View) → s.view ≡ v → v'.attempts ≡ v.attempts → v'.debts ≡ v.debts → v'.naps ≡ v.naps →
    v'.deaf ≡ v.deaf → HasStayedOut s.view v'
stays_out s v v' knows attempts debts naps deaf = subst (λ (w : View). HasStayedOut w v') (sym knows)
    (record { attempts = attempts; debts = debts; naps = naps; deaf = deaf })

module _ {key : Start} {p : Picture} {a : At key p} {q : Desks} (g : Shown a q) where
  -- it is called, and makes this step
  pub enters_call : {d : ℕ} {x : Option Step} {p' : Picture} (n : Next a d x p') → q.calling d ≡ false → q.to_sleep d ≡ false →
      (q.desk d).view.naps ≡ 0 → Shown n.at (called q d)
  enters_call {d = d} n idle rose fresh = let acts = n.there.acts in steps_then
      (calls_then g d acts.seat idle (sym (ap (λ (f : ℕ → Bool). f d) a.asleep) ∙ acts.awake) rose) n
      (put_here q.calling d true) fresh

  pub turns : {x : Option Step} {p' : Picture} (id d : ℕ) (v w : Sight) → MayTurn q d v → (n : Next a d x p') →
      IsSeated key p'.table id d w → (call : Call) (ans : Answer) (s : Situation) → IsAnswer (q.desk d) w call ans s →
      Shown n.at (turned q d ans s)
  turns id d v w may n i call ans s h = answers_then
      (enters_call n may.idle may.rose (ap (λ (u : View). u.naps) may.knows ∙ may.rested)) id d w i (put_here q.calling d true)
      call ans s h

  module _ (id d : ℕ) (v : Sight) (may : MayTurn q d v) where
    pub begins_now : (n : Next a d (Some (performs (Begin v.part.core.who))) (begins_as p id v)) →
        let w = drawing v (slice_index p.table.words stamp_at + 1) in
        IsSeated key (begins_as p id v).table id d w → IsReady (q.desk d) → Shown n.at (begins_by q d w)
    begins_now n i ready = let s = q.desk d in let k = slice_index p.table.words stamp_at + 1 in
        turns id d v (drawing v k) may n i begin Done (once_begun s (begun v.part.core k)) (record {
          done = (
            ready.rests,
            ready.no_context,
            ready.bare,
            (let some = ready.left in omega arith),
            omega arith,
            stays_out s v.part.core (begun v.part.core k) may.knows refl refl refl refl,
            refl,
          );
          outside = λ _. may.out;
          sees = refl;
          cancelled = may.cancelled;
        })

    pub locks_now : (n : ℕ) (t : Next a d (Some (performs (Fast v.part.core.who n))) (locks_as key p id n v)) →
        let w = knowing v (fast_taken v.part.core n) in
        IsSeated key (locks_as key p id n v).table id d w → IsTryable (q.desk d) n → Shown t.at (locks_by q d n w)
    locks_now n t i tryable = let s = q.desk d in let after = fast_taken v.part.core n in
        turns id d v (knowing v after) may t i (lock n ToTheEnd) Done (once_locked s n after) (record {
          done = (tryable, (stays_out s v.part.core after may.knows refl refl refl refl, refl));
          outside = λ _. may.out;
          sees = refl;
          cancelled = may.cancelled;
        })

    pub misses_now : (n : ℕ) (waits : Waits) (t : Next a d None (misses_as key p id n v)) →
        let w = knowing v (fast_missed v.part.core) in
        IsSeated key (misses_as key p id n v).table id d w → IsTryable (q.desk d) n → Shown t.at (misses_by q d n waits w)
    misses_now n waits t i tryable = let s = q.desk d in let after = fast_missed v.part.core in
        turns id d v (knowing v after) may t i (lock n waits) Again (once_missed s n waits after) (record {
          done = (tryable, stays_out s v.part.core after may.knows refl refl refl refl, refl);
          outside = λ _. may.out;
          sees = refl;
          cancelled = may.cancelled;
        })

-- ---- a desk comes to wait

-- it has missed the lock, and is amid the call that goes on
abbrev pub waits_by : Desks → (d n : ℕ) → Waits → Sight → Desks
waits_by q d n waits v = called (misses_by q d n waits (missed v)) d

module _ {key : Start} {p : Picture} {a : At key p} {q : Desks} (g : Shown a q) {id d n : ℕ} {o : Owner} {v : Sight}
    (may : MayTurn q d v) where
  pub waits_now : (waits : Waits) (t : ComesToWait a id d n o v) → IsTryable (q.desk d) n → Shown t.joins.at (waits_by q d n waits v)
  waits_now waits t tryable = let q_1 = misses_by q d n waits (missed v) in
      let once = put_here q.desk d (once_missed (q.desk d) n waits (missed v).part.core) in
      let fresh : (q_1.desk d).view.naps ≡ 0 = ap (λ (s : Situation). s.view.naps) once ∙ may.rested in
      let g_1 : Shown t.misses.at q_1 = misses_now g id d v may n waits t.misses t.missing tryable in
      steps_then (enters_call g_1 t.enters (put_here (put q.calling d true) d false) (put_here q.to_sleep d false) fresh)
      t.joins (put_here q_1.calling d true) fresh

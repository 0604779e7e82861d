-- A lock call from its begin to its end.
use Rattle.std.proofs.Common.{◌≡◌, ◌≢◌, ◌⊎◌, ⊎_elim, inl, inr, ℕ, suc, ◌<◌, ◌≤◌, Bool, true, false, true≢false, refl, sym, ap, ◌∙◌, subst, arith}
use Rattle.ww_plain.specs.Numbers.{is_among}
use Rattle.ww_model.specs.declared.state.Holder.TheVariants.{Taken}
use Rattle.ww_view.specs.declared.view.View.{View}
use Rattle.ww_view.specs.View.{owns}
use Rattle.ww_laws.proofs.Endless.{holds_at}
use Rattle.ww_laws.proofs.Steps.{taken_or_not}
use Rattle.ww_refines.specs.Moment.{core, view}
use Rattle.ww_invariant.specs.declared.cells.Start.{Start}
use Rattle.ww_seat.proofs.Among.{last_among}
use Rattle.ww_seat.specs.declared.waits.Waits.{Waits}
use Rattle.ww_steps.specs.declared.turn.Turn.{Turn}
use Rattle.ww_steps.specs.declared.turn.Turn.TheVariants.{Wants, Looks}
use Rattle.ww_steps.specs.declared.turn.Answer.{Answer}
use Rattle.ww_steps.specs.declared.turn.Answer.TheVariants.{Done, Again}
use Rattle.ww_steps.specs.Situations.{Situation}
use Rattle.ww_steps.specs.Answers.{IsLockAnswer, IsNextAnswer}
use Rattle.ww_callers.specs.Stages.{Stage}
use Rattle.ww_callers.specs.Deeds.{Call, Deed, calls, answers, lock, go_on, HasDone, Does}
use Rattle.ww_callers.specs.Drives.{IsEndlessDrive}
use Rattle.ww_callers.specs.Handing.{DeskAcquires}
use Rattle.ww_callers.proofs.Runs.{driven}
use Rattle.ww_loops.specs.Calls.{DesksKnowTheirSeats, AllKnowTheirSeats, IsAtLock, LockCall, TookTheLock, LockCallsTakeTheirLock}
use Rattle.ww_loops.proofs.Desks.{desk_stays, idle_then, is_current, taken_by, owned_by, lt_unless, arrives, takes_by}

-- ---- what the answers say of what the desk holds

-- by its first answer the desk lacked the lock before
lacked : (s s' : Situation) (n : ℕ) (waits : Waits) (a : Answer) → (a ≡ Done) ⊎ (a ≡ Again) → IsLockAnswer s n waits a s' →
    is_among n s.held ≡ false
lacked s s' n waits a (inl is) h = (subst (λ (b : Answer). IsLockAnswer s n waits b s') is h).0.lacks
lacked s s' n waits a (inr is) h = (subst (λ (b : Answer). IsLockAnswer s n waits b s') is h).0.lacks

-- if the answer is that it has the lock, it holds it then
held_at_once : (s s' : Situation) (n : ℕ) (waits : Waits) → IsLockAnswer s n waits Done s' → is_among n s'.held ≡ true
held_at_once s s' n waits h = ap (λ (x : Situation). is_among n x.held) h.1.1 ∙ last_among s.held n

held_in_the_end : (s s' : Situation) (n : ℕ) (turn : Turn) → IsAtLock n turn → IsNextAnswer turn s Done s' → is_among n s'.held ≡ true
held_in_the_end s s' n turn (arrival, waits, inl is) h = let w = subst (λ (t : Turn). IsNextAnswer t s Done s') is h in
    ap (λ (x : Situation). is_among n x.held) w.1 ∙ last_among s.held n
held_in_the_end s s' n turn (arrival, waits, inr is) h = let w = subst (λ (t : Turn). IsNextAnswer t s Done s') is h in
    ap (λ (x : Situation). is_among n x.held) w.1 ∙ last_among s.held n

-- a step that takes a lock is neither the begin of a call nor an answer
no_call : (d e n : ℕ) (x : Deed) → DeskAcquires d n x → x ≢ calls e
no_call d e n x takes is = ⊎_elim (λ a. cc) (λ a. cc) takes

no_answer : (d e n : ℕ) (call : Call) (a : Answer) (x : Deed) → DeskAcquires d n x → x ≢ answers e call a
no_answer d e n call a x takes is = ⊎_elim (λ b. cc) (λ b. cc) takes

-- ---- along the drive

module _ {key : Start} (stage : ℕ → Stage key) (deed : ℕ → Deed) (endless : IsEndlessDrive stage deed)
    (know : AllKnowTheirSeats stage) (d n : ℕ) (low : d < key.seats) where
  abbrev Has : ℕ → Type 0
  Has k = (core (stage k).moment).owner n ≡ Taken d

  -- what it holds between two calls its seat has, and no more
  holds : (k : ℕ) (is : Bool) → (stage k).calling d ≡ false → is_among n ((stage k).desk d).held ≡ is →
      owns (view (stage k).moment d) n ≡ is
  holds k is idle among = ap (λ (v : View). owns v n) (sym (is_current (stage k) (driven stage deed endless k) d low idle))
      ∙ (know k d low idle).holds n ∙ among

  answers_at : (k : ℕ) (call : Call) (a : Answer) → deed k ≡ answers d call a → Does (stage k) (stage (suc k)) (answers d call a)
  answers_at k call a is = subst (λ (x : Deed). Does (stage k) (stage (suc k)) x) is (endless.goes_on k)

  module _ (i j : ℕ) (c : LockCall stage deed d n i j) where
    begins : Does (stage i) (stage (suc i)) (calls d)
    begins = subst (λ (x : Deed). Does (stage i) (stage (suc i)) x) c.begun (endless.goes_on i)

    -- until its first answer the desk is as it was
    same_desk : (stage c.first).desk d ≡ (stage i).desk d
    same_desk = let after = c.after in holds_at (λ k. (stage k).desk d ≡ (stage i).desk d) (suc i) c.first (omega arith)
        (ap (λ (g : Stage key). g.desk d) begins.now)
        (λ k from below same. desk_stays (stage k) (stage (suc k)) d (deed k) (endless.goes_on k)
        (c.amid k (omega arith) (omega arith))
        (λ call a is. true≢false (sym (c.amid (suc k) (omega arith) (omega arith))
        ∙ idle_then (stage k) (stage (suc k)) d call a (answers_at k call a is))) ∙ same)

    lacks : is_among n ((stage i).desk d).held ≡ false
    lacks = ap (λ (s : Situation). is_among n s.held) (sym same_desk)
        ∙ lacked ((stage c.first).desk d) ((stage (suc c.first)).desk d) n c.waits c.answer
        (⊎_elim (λ e. inl e.0) (λ e. inr e.0) c.ends) (answers_at c.first (lock n c.waits) c.answer c.answers_first).done

    -- its last answer
    ends_by : (call : Call) × Does (stage j) (stage (suc j)) (answers d call Done) × (is_among n ((stage (suc j)).desk d).held ≡ true)
        × (deed j ≡ answers d call Done)
    ends_by = ⊎_elim
        (λ e. let is : deed j ≡ answers d (lock n c.waits) Done = ap deed (sym e.1) ∙ c.answers_first
        ∙ ap (λ a. answers d (lock n c.waits) a) e.0 in
        let h = answers_at j (lock n c.waits) Done is in
        (lock n c.waits, h, held_at_once ((stage j).desk d) ((stage (suc j)).desk d) n c.waits h.done, is))
        (λ e. let h = answers_at j go_on Done e.3 in
        (go_on, h, held_in_the_end ((stage j).desk d) ((stage (suc j)).desk d) n ((stage j).desk d).turn e.2 h.done.0, e.3))
        c.ends

    order : i < j
    order = let after = c.after in ⊎_elim (λ e. let is = e.1 in omega arith) (λ e. let less = e.1 in omega arith) c.ends

    took : TookTheLock stage deed d n i j
    took = let from = driven stage deed endless in let less = order in let e = ends_by in
        let not_yet : Has i → ⊥ = λ has. true≢false (sym (owned_by (stage i) (from i) d low n has)
        ∙ holds i false begins.at_hand.idle lacks) in
        let then : Has (suc j) = taken_by (stage (suc j)) (from (suc j)) d low n
        (holds (suc j) true (idle_then (stage j) (stage (suc j)) d e.0 Done e.1) e.2) in
        let a = arrives Has (λ k. taken_or_not ((core (stage k).moment).owner n) d) i (suc j) (omega arith) not_yet then in
        let low = a.from in let high = a.before in
        let takes = takes_by stage deed endless a.at d n a.not_yet (a.since (suc a.at) (omega arith) (omega arith)) in
        let after : i ≢ a.at = λ is. no_call d d n (deed a.at) takes (ap deed (sym is) ∙ c.begun) in
        let before : a.at ≢ j = λ is. no_answer d d n e.0 Done (deed a.at) takes (ap deed is ∙ e.3) in
        record {
          at = a.at;
          after = lt_unless i a.at low after;
          before = lt_unless a.at j (omega arith) before;
          takes = takes;
          since = a.since;
        }

pub desks_know_their_seats : DesksKnowTheirSeats
desks_know_their_seats s d = record {
  holds = λ n. let same = d.keeps.owns.same n in let is = d.seen in cc;
  stamp = let is = d.seen in cc;
}

pub lock_calls_take_their_lock : LockCallsTakeTheirLock
lock_calls_take_their_lock key stage deed endless know d n i j = λ low call. took stage deed endless know d n low i j call

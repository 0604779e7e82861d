-- Two drives in which a desk looks at a lock: one in which it is free, and one in which the other desk has it.
use Rattle.std.proofs.Common.{◌≡◌, ◌≢◌, inr, ℕ, zero, suc, ◌<◌, Bool, true, false, None, refl, sym, ap, ◌∙◌, arith}
use native.Mathlib.Decide.{ℕ_discrete}
use Rattle.ww_word.specs.AnySeats.{packed}
use Rattle.ww_queue.specs.declared.kind.Kind.{Kind}
use Rattle.ww_model.specs.State.{put}
use Rattle.ww_model.proofs.Puts.{put_here}
use Rattle.ww_view.specs.Made.{has_seen_word}
use Rattle.ww_invariant.specs.declared.cells.Sight.{Sight}
use Rattle.ww_invariant.specs.declared.cells.Start.{Start}
use Rattle.ww_invariant.specs.Layout.{lock_at}
use Rattle.ww_invariant.specs.Steps.{seeing}
use Rattle.ww_refines.proofs.Pictures.{Picture, At, Next, IsSeated, seated, acting, sees_as, sees_then}
use Rattle.ww_refines.proofs.Small.{small, owner, waiter_1, p_3, p_4, second_begins, first_locks}
use Rattle.ww_steps.specs.declared.turn.Answer.{Answer}
use Rattle.ww_steps.specs.declared.turn.Answer.TheVariants.{Done, Busy}
use Rattle.ww_steps.specs.Situations.{Situation}
use Rattle.ww_callers.specs.Stages.{Stage}
use Rattle.ww_callers.specs.Deeds.{Call, is_free, Deed, calls, steps, answers, halts, Does}
use Rattle.ww_callers.specs.Drives.{IsEndlessDrive}
use Rattle.ww_callers.specs.Witness.{LooksAreInDrives}
use Rattle.ww_callers.proofs.Shown.{Desks, Shown, staged, called, answered, IsAnswer, calls_does, steps_does, answers_does}
use Rattle.ww_callers.proofs.Starting.{is_of_world, q_2, g_2, q_3, g_3}

-- ---- the second desk is called, makes one step that is no event, and answers; then nothing happens

abbrev deed : Call → Answer → ℕ → Deed
deed call ans zero = calls 1
deed call ans (suc zero) = steps 1 None
deed call ans (suc (suc zero)) = answers 1 call ans
deed call ans (suc (suc (suc i))) = halts

module _ {key : Start} {p p' : Picture} {a : At key p} {q : Desks} (g : Shown a q) (n : Next a 1 None p') (call : Call) (ans : Answer)
    (s : Situation) where
  abbrev stage : ℕ → Stage key
  stage zero = staged a.moment q
  stage (suc zero) = staged a.moment (called q 1)
  stage (suc (suc zero)) = staged n.at.moment (called q 1)
  stage (suc (suc (suc i))) = staged n.at.moment (answered (called q 1) 1 ans s)

  module _ (id : ℕ) (w : Sight) (idle : q.calling 1 ≡ false) (rose : q.to_sleep 1 ≡ false) (fresh : (q.desk 1).view.naps ≡ 0)
      (sits : IsSeated key p'.table id 1 w) (h : IsAnswer (q.desk 1) w call ans s) where
    goes_on : (i : ℕ) → Does (stage i) (stage (suc i)) (deed call ans i)
    goes_on zero = let acts = n.there.acts in
        calls_does a q 1 acts.seat idle (sym (ap (λ (f : ℕ → Bool). f 1) a.asleep) ∙ acts.awake) rose
    goes_on (suc zero) = steps_does a (called q 1) n (put_here q.calling 1 true) fresh
    goes_on (suc (suc zero)) = answers_does n.at (called q 1) id 1 w sits (put_here q.calling 1 true) call ans s h
    goes_on (suc (suc (suc i))) = refl

    endless : IsEndlessDrive stage (deed call ans)
    endless = record { begins = g.driven; goes_on = goes_on }

-- ---- nobody has the lock

abbrev p_free : Kind → Picture
p_free kind = sees_as (small kind) (p_3 kind) 0 0 (waiter_1 kind)

sees_free : (kind : Kind) → Next (second_begins kind).at 1 None (p_free kind)
unfolding put ℕ_discrete lock_at
sees_free kind = sees_then (second_begins kind).at 0 1 (waiter_1 kind) (acting refl refl refl (omega arith) refl refl) 0 (omega arith)

abbrev once_free : Kind → Situation
once_free kind = let s = (q_2 kind).desk 1 in record s { view = has_seen_word s.view 0 0 }

is_free_then : (kind : Kind) → IsAnswer ((q_2 kind).desk 1) (seeing (waiter_1 kind) 0 0) (is_free 0) Done (once_free kind)
unfolding put ℕ_discrete lock_at
is_free_then kind = record { done = (refl, omega arith, refl, refl); outside = λ _. refl; sees = refl; cancelled = refl }

free_on : (kind : Kind) → IsEndlessDrive (stage (g_2 kind) (sees_free kind) (is_free 0) Done (once_free kind)) (deed (is_free 0) Done)
unfolding put ℕ_discrete lock_at
free_on kind = endless (g_2 kind) (sees_free kind) (is_free 0) Done (once_free kind) 0 (seeing (waiter_1 kind) 0 0) refl refl refl
    (seated refl refl refl (omega arith)) (is_free_then kind)

-- ---- the first desk has it

abbrev p_busy : Kind → Picture
p_busy kind = sees_as (small kind) (p_4 kind) 0 0 (waiter_1 kind)

sees_busy : (kind : Kind) → Next (first_locks kind).at 1 None (p_busy kind)
unfolding put ℕ_discrete lock_at
sees_busy kind = sees_then (first_locks kind).at 0 1 (waiter_1 kind) (acting refl refl refl (omega arith) refl refl) 0 (omega arith)

abbrev once_busy : Kind → Situation
once_busy kind = let s = (q_3 kind).desk 1 in record s { view = has_seen_word s.view 0 (packed owner) }

is_busy_then : (kind : Kind) → IsAnswer ((q_3 kind).desk 1) (seeing (waiter_1 kind) 0 (packed owner)) (is_free 0) Busy (once_busy kind)
unfolding put ℕ_discrete lock_at
is_busy_then kind = record {
  done = inr (refl, omega arith, (packed owner, (λ is. omega arith), refl));
  outside = λ _. refl;
  sees = refl;
  cancelled = refl;
}

busy_on : (kind : Kind) → IsEndlessDrive (stage (g_3 kind) (sees_busy kind) (is_free 0) Busy (once_busy kind)) (deed (is_free 0) Busy)
unfolding put ℕ_discrete lock_at
busy_on kind = endless (g_3 kind) (sees_busy kind) (is_free 0) Busy (once_busy kind) 0 (seeing (waiter_1 kind) 0 (packed owner)) refl
    refl refl (seated refl refl refl (omega arith)) (is_busy_then kind)

pub looks_are_in_drives : LooksAreInDrives
unfolding put ℕ_discrete lock_at
looks_are_in_drives kind = (
  record {
    key = small kind;
    stage = stage (g_2 kind) (sees_free kind) (is_free 0) Done (once_free kind);
    deed = deed (is_free 0) Done;
    of_kind = refl;
    world = is_of_world kind;
    endless = free_on kind;
    look = (1, 0, 0, 2, record { called = refl; later = omega arith; answered = refl }, refl);
  },
  record {
    key = small kind;
    stage = stage (g_3 kind) (sees_busy kind) (is_free 0) Busy (once_busy kind);
    deed = deed (is_free 0) Busy;
    of_kind = refl;
    world = is_of_world kind;
    endless = busy_on kind;
    look = (1, 0, 0, 2, record { called = refl; later = omega arith; answered = refl }, refl);
  },
)

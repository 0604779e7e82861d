-- Two desks at a table of the smallest world, deed by deed, until each has begun a context, and the first has a lock.
use Rattle.std.proofs.Common.{◌≡◌, ℕ, zero, suc, ◌<◌, false, refl, sym, arith}
use native.Mathlib.Decide.{ℕ_discrete}
use Rattle.ww_queue.specs.declared.kind.Kind.{Kind}
use Rattle.ww_model.specs.State.{put}
use Rattle.ww_invariant.specs.Layout.{lock_at}
use Rattle.ww_invariant.specs.Rule.{first_part}
use Rattle.ww_refines.proofs.Pictures.{seated, part_is}
use Rattle.ww_refines.proofs.Small.{least, small, holder_0, holder_1, holder_2, waiter_0, waiter_1, table_1, cuts_off, first_begins, second_begins, first_locks}
use Rattle.ww_seat.specs.Marks.{is_marked}
use Rattle.ww_callers.specs.Witness.{IsOfWorld}
use Rattle.ww_callers.proofs.Shown.{Desks, first_desks, first_shown, Shown, OwesNobody}
use Rattle.ww_callers.proofs.Turns.{begins_by, begins_now, locks_by, locks_now, may_turn}

pub is_of_world : (kind : Kind) → IsOfWorld (small kind)
is_of_world kind = record {
  bare = refl;
  packed = omega arith;
  few_locks = omega arith;
  places = refl;
  few_seats = omega arith;
}

abbrev q_0 : Kind → Desks
q_0 kind = first_desks (small kind)

g_0 : (kind : Kind) → Shown (cuts_off kind).at (q_0 kind)
g_0 kind = first_shown (small kind) (table_1 kind) (cuts_off kind).at refl parts
  where
    parts : (t : ℕ) → t < 2 → (cuts_off kind).at.moment.part t ≡ first_part kind least 16 t
    parts zero low = sym (part_is (cuts_off kind).at 1 0 (holder_0 kind) (seated refl refl refl (omega arith)))
    parts (suc zero) low = sym (part_is (cuts_off kind).at 0 1 (waiter_0 kind) (seated refl refl refl (omega arith)))
    parts (suc (suc t)) low = absurd (omega arith)

abbrev q_1 : Kind → Desks
q_1 kind = begins_by (q_0 kind) 0 (holder_1 kind)

g_1 : (kind : Kind) → Shown (first_begins kind).at (q_1 kind)
unfolding put ℕ_discrete lock_at
g_1 kind = begins_now (g_0 kind) 1 0 (holder_0 kind) (may_turn refl refl refl refl refl refl) (first_begins kind)
    (seated refl refl refl (omega arith))
    (record { left = λ is. omega arith; rests = refl; no_context = refl; bare = refl; goes_on = refl; untold = refl })

abbrev pub q_2 : Kind → Desks
q_2 kind = begins_by (q_1 kind) 1 (waiter_1 kind)

pub g_2 : (kind : Kind) → Shown (second_begins kind).at (q_2 kind)
unfolding put ℕ_discrete lock_at
g_2 kind = begins_now (g_1 kind) 0 1 (waiter_0 kind) (may_turn refl refl refl refl refl refl) (second_begins kind)
    (seated refl refl refl (omega arith))
    (record { left = λ is. omega arith; rests = refl; no_context = refl; bare = refl; goes_on = refl; untold = refl })

abbrev pub q_3 : Kind → Desks
q_3 kind = locks_by (q_2 kind) 0 0 (holder_2 kind)

pub g_3 : (kind : Kind) → Shown (first_locks kind).at (q_3 kind)
unfolding put ℕ_discrete lock_at
g_3 kind = locks_now (g_2 kind) 1 0 (holder_1 kind) (may_turn refl refl refl refl refl refl) 0 (first_locks kind)
    (seated refl refl refl (omega arith)) (record { rests = refl; lacks = refl; there = omega arith; wants = refl })

-- ---- whose waking has yet to be seen to

-- what the two owe is told by their marks, and by whom they have named
pub owe_nobody : {kind : Kind} (q : Desks) → ((s : ℕ) → is_marked (q.desk 0).wakes s ≡ false) →
    ((s : ℕ) → is_marked (q.desk 1).wakes s ≡ false) → ((s : ℕ) → q.named 0 s ≡ false) → ((s : ℕ) → q.named 1 s ≡ false) →
    OwesNobody (small kind) q
owe_nobody q first second named_0 named_1 = record { unmarked = none; unnamed = nobody }
  where
    none : (t s : ℕ) → t < 2 → is_marked (q.desk t).wakes s ≡ false
    none zero s low = first s
    none (suc zero) s low = second s
    none (suc (suc t)) s low = absurd (omega arith)

    nobody : (t s : ℕ) → t < 2 → q.named t s ≡ false
    nobody zero s low = named_0 s
    nobody (suc zero) s low = named_1 s
    nobody (suc (suc t)) s low = absurd (omega arith)

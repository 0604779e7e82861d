-- Two desks at a table with two locks, deed by deed, until each has a lock, and stands in the list of the other's.
use Rattle.std.proofs.Common.{refl, arith}
use native.Mathlib.Decide.{ℕ_discrete}
use Rattle.ww_queue.specs.declared.kind.Kind.{Kind}
use Rattle.ww_model.specs.State.{put}
use Rattle.ww_invariant.specs.Layout.{lock_at}
use Rattle.ww_refines.proofs.Pictures.{seated}
use Rattle.ww_refines.proofs.Small.{holder_2, waiter_1}
use Rattle.ww_refines.proofs.Deadlocked.{b_2, younger_locks, older_waits, younger_waits}
use Rattle.ww_seat.specs.declared.waits.Waits.TheVariants.{ToTheEnd}
use Rattle.ww_callers.proofs.Shown.{Desks, Shown}
use Rattle.ww_callers.proofs.Starting.{q_3, g_3}
use Rattle.ww_callers.proofs.Turns.{locks_by, locks_now, may_turn, waits_by, waits_now}

-- ---- the younger takes a lock too

abbrev q_4 : Kind → Desks
q_4 kind = locks_by (q_3 kind) 1 1 (b_2 kind)

g_4 : (kind : Kind) → Shown (younger_locks kind).at (q_4 kind)
unfolding put ℕ_discrete lock_at
g_4 kind = locks_now (g_3 kind) 0 1 (waiter_1 kind) (may_turn refl refl refl refl refl refl) 1 (younger_locks kind)
    (seated refl refl refl (omega arith)) (record { rests = refl; lacks = refl; there = omega arith; wants = refl })

-- ---- each comes to wait for the other's

abbrev q_5 : Kind → Desks
q_5 kind = waits_by (q_4 kind) 0 1 ToTheEnd (holder_2 kind)

g_5 : (kind : Kind) → Shown (older_waits kind).joins.at (q_5 kind)
unfolding put ℕ_discrete
g_5 kind = waits_now (g_4 kind) (may_turn refl refl refl refl refl refl) ToTheEnd (older_waits kind)
    (record { rests = refl; lacks = refl; there = omega arith; wants = refl })

abbrev pub q_6 : Kind → Desks
q_6 kind = waits_by (q_5 kind) 1 0 ToTheEnd (b_2 kind)

pub g_6 : (kind : Kind) → Shown (younger_waits kind).joins.at (q_6 kind)
unfolding put ℕ_discrete
g_6 kind = waits_now (g_5 kind) (may_turn refl refl refl refl refl refl) ToTheEnd (younger_waits kind)
    (record { rests = refl; lacks = refl; there = omega arith; wants = refl })

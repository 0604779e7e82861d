-- A drive with data: the first has the lock and writes, and releases the lock; the second takes it, and reads what was written.
use Rattle.std.proofs.Common.{◌≡◌, ◌≢◌, ⊎_elim, inl, inr, ℕ, zero, suc, Some, refl, sym, ap, ◌∙◌, subst, arith}
use native.Mathlib.Decide.{ℕ_discrete}
use Rattle.ww_queue.specs.declared.kind.Kind.{Kind}
use Rattle.ww_model.specs.declared.event.Event.TheVariants.{Fast, FastGive}
use Rattle.ww_model.specs.State.{put}
use Rattle.ww_view.specs.Made.{without, fast_taken}
use Rattle.ww_invariant.specs.declared.cells.Sight.{Sight}
use Rattle.ww_invariant.specs.Layout.{lock_at}
use Rattle.ww_invariant.specs.Steps.{knowing}
use Rattle.ww_laws.specs.Scene.{performs}
use Rattle.ww_refines.proofs.Pictures.{Picture, Next, seated, acting, gives_as, gives_then, locks_as, locks_then}
use Rattle.ww_refines.proofs.Small.{small, holder_2, waiter_1, p_4, first_locks, second_not_first}
use Rattle.ww_refines.proofs.CalledOff.{free}
use Rattle.ww_seat.specs.declared.waits.Waits.TheVariants.{ToTheEnd}
use Rattle.ww_steps.specs.declared.turn.Answer.TheVariants.{Done}
use Rattle.ww_steps.specs.Situations.{Situation}
use Rattle.ww_callers.specs.Stages.{Stage}
use Rattle.ww_callers.specs.Deeds.{steps, calls, answers, halts, lock, unlock, Does}
use Rattle.ww_callers.specs.Drives.{IsEndlessDrive}
use Rattle.ww_callers.specs.Handing.{HasInHand}
use Rattle.ww_protocols.specs.Memory.{writes, reads, WritesAt, AccessesAt, IsVisible, wrote}
use Rattle.ww_protocols.specs.Data.{releases as lets_go, HappensBefore, in_order, handed, through}
use Rattle.ww_protocols.proofs.Data.{comes_first}
use Rattle.ww_callers.specs.Data.{DataAct, does, accesses, as_deed, seen, access_at, ReadsOfADrive, DataIsHandedOver, DataIsStaleWithoutItsLock}
use Rattle.ww_callers.proofs.Runs.{accounted_on}
use Rattle.ww_callers.proofs.Shown.{Desks, staged, called, answered, IsAnswer, calls_does, steps_does, answers_does}
use Rattle.ww_callers.proofs.Turns.{once_locked}
use Rattle.ww_callers.proofs.Starting.{is_of_world, q_3, g_3}

-- ---- the steps at the table

abbrev p_5 : Kind → Picture
p_5 kind = gives_as (small kind) (p_4 kind) 1 0 (holder_2 kind)

releases : (kind : Kind) → Next (first_locks kind).at 0 (Some (performs (FastGive 0 0))) (p_5 kind)
unfolding put ℕ_discrete lock_at
releases kind = gives_then (first_locks kind).at 1 0 (holder_2 kind) (acting refl refl refl (omega arith) refl refl) 0 (omega arith)
    (omega arith) (refl, refl) refl refl

abbrev p_6 : Kind → Picture
p_6 kind = locks_as (small kind) (p_5 kind) 0 0 (waiter_1 kind)

second_locks : (kind : Kind) → Next (releases kind).at 1 (Some (performs (Fast 1 0))) (p_6 kind)
unfolding put ℕ_discrete lock_at
second_locks kind = locks_then (releases kind).at 0 1 (waiter_1 kind) (acting refl refl refl (omega arith) refl refl) 0 (omega arith)
    (omega arith) (record { away = (refl, refl); base = inl (omega arith); signs = inr (inl refl) }) refl

-- ---- the desks

-- the second has the lock
abbrev owner_1 : Kind → Sight
owner_1 kind = knowing (waiter_1 kind) (fast_taken (waiter_1 kind).part.core 0)

abbrev freed : Kind → Situation
freed kind = let s = (q_3 kind).desk 0 in record s { held = without 0 s.held; view = (free kind).part.core }

abbrev q_4 : Kind → Desks
q_4 kind = called (q_3 kind) 0

abbrev q_5 : Kind → Desks
q_5 kind = answered (q_4 kind) 0 Done (freed kind)

abbrev q_6 : Kind → Desks
q_6 kind = called (q_5 kind) 1

abbrev locked : Kind → Situation
locked kind = once_locked ((q_6 kind).desk 1) 0 (owner_1 kind).part.core

abbrev q_7 : Kind → Desks
q_7 kind = answered (q_6 kind) 1 Done (locked kind)

is_freed : (kind : Kind) → IsAnswer ((q_4 kind).desk 0) (free kind) (unlock 0) Done (freed kind)
unfolding put ℕ_discrete
is_freed kind = record {
  done = (
    record { rests = refl; holds = refl },
    (record { attempts = refl; debts = refl; naps = refl; deaf = refl }, refl),
  );
  outside = λ _. refl;
  sees = refl;
  cancelled = refl;
}

is_locked : (kind : Kind) → IsAnswer ((q_6 kind).desk 1) (owner_1 kind) (lock 0 ToTheEnd) Done (locked kind)
unfolding put ℕ_discrete lock_at
is_locked kind = record {
  done = (
    record { rests = refl; lacks = refl; there = omega arith; wants = refl },
    (record { attempts = refl; debts = refl; naps = refl; deaf = refl }, refl),
  );
  outside = λ _. refl;
  sees = refl;
  cancelled = refl;
}

-- ---- the drive

abbrev act : ℕ → DataAct
act zero = accesses (writes 0 0 7)
act (suc zero) = does (calls 0)
act (suc (suc zero)) = does (steps 0 (Some (performs (FastGive 0 0))))
act (suc (suc (suc zero))) = does (answers 0 (unlock 0) Done)
act (suc (suc (suc (suc zero)))) = does (calls 1)
act (suc (suc (suc (suc (suc zero))))) = does (steps 1 (Some (performs (Fast 1 0))))
act (suc (suc (suc (suc (suc (suc zero)))))) = does (answers 1 (lock 0 ToTheEnd) Done)
act (suc (suc (suc (suc (suc (suc (suc zero))))))) = accesses (reads 1 0 7)
act (suc (suc (suc (suc (suc (suc (suc (suc i)))))))) = does halts

module _ (kind : Kind) where
  abbrev stage : ℕ → Stage (small kind)
  stage zero = staged (first_locks kind).at.moment (q_3 kind)
  stage (suc zero) = staged (first_locks kind).at.moment (q_3 kind)
  stage (suc (suc zero)) = staged (first_locks kind).at.moment (q_4 kind)
  stage (suc (suc (suc zero))) = staged (releases kind).at.moment (q_4 kind)
  stage (suc (suc (suc (suc zero)))) = staged (releases kind).at.moment (q_5 kind)
  stage (suc (suc (suc (suc (suc zero))))) = staged (releases kind).at.moment (q_6 kind)
  stage (suc (suc (suc (suc (suc (suc zero)))))) = staged (second_locks kind).at.moment (q_6 kind)
  stage (suc (suc (suc (suc (suc (suc (suc i))))))) = staged (second_locks kind).at.moment (q_7 kind)

  goes_on : (i : ℕ) → Does (stage i) (stage (suc i)) (as_deed (act i))
  unfolding put ℕ_discrete lock_at
  goes_on zero = refl
  goes_on (suc zero) = calls_does (first_locks kind).at (q_3 kind) 0 (omega arith) refl refl refl
  goes_on (suc (suc zero)) = steps_does (first_locks kind).at (q_4 kind) (releases kind) refl refl
  goes_on (suc (suc (suc zero))) = answers_does (releases kind).at (q_4 kind) 1 0 (free kind) (seated refl refl refl (omega arith)) refl
      (unlock 0) Done (freed kind) (is_freed kind)
  goes_on (suc (suc (suc (suc zero)))) = calls_does (releases kind).at (q_5 kind) 1 (omega arith) refl refl refl
  goes_on (suc (suc (suc (suc (suc zero))))) = steps_does (releases kind).at (q_6 kind) (second_locks kind) refl refl
  goes_on (suc (suc (suc (suc (suc (suc zero)))))) = answers_does (second_locks kind).at (q_6 kind) 0 1 (owner_1 kind)
      (seated refl refl refl (omega arith)) refl (lock 0 ToTheEnd) Done (locked kind) (is_locked kind)
  goes_on (suc (suc (suc (suc (suc (suc (suc zero))))))) = refl
  goes_on (suc (suc (suc (suc (suc (suc (suc (suc i)))))))) = refl

  first_has : HasInHand (stage 0) 0 0
  unfolding put ℕ_discrete lock_at
  first_has = record { seat = omega arith; idle = refl; owns = refl }

  second_has : HasInHand (stage 7) 1 0
  unfolding put ℕ_discrete lock_at
  second_has = record { seat = omega arith; idle = refl; owns = refl }

  in_hand : (i d x : ℕ) → AccessesAt d x (access_at act i) → HasInHand (stage i) d 0
  in_hand zero d x (value, inl is) = let own : 0 ≡ d = cc in subst (λ t. HasInHand (stage 0) t 0) own first_has
  in_hand (suc (suc (suc (suc (suc (suc (suc zero))))))) d x (value, inr is) = let own : 1 ≡ d = cc in
      subst (λ t. HasInHand (stage 7) t 0) own second_has
  in_hand zero d x (value, inr is) = absurd (cc)
  in_hand (suc (suc (suc (suc (suc (suc (suc zero))))))) d x (value, inl is) = absurd (cc)
  in_hand (suc zero) d x (value, is) = absurd (⊎_elim (λ w. cc) (λ r. cc) is)
  in_hand (suc (suc zero)) d x (value, is) = absurd (⊎_elim (λ w. cc) (λ r. cc) is)
  in_hand (suc (suc (suc zero))) d x (value, is) = absurd (⊎_elim (λ w. cc) (λ r. cc) is)
  in_hand (suc (suc (suc (suc zero)))) d x (value, is) = absurd (⊎_elim (λ w. cc) (λ r. cc) is)
  in_hand (suc (suc (suc (suc (suc zero))))) d x (value, is) = absurd (⊎_elim (λ w. cc) (λ r. cc) is)
  in_hand (suc (suc (suc (suc (suc (suc zero)))))) d x (value, is) = absurd (⊎_elim (λ w. cc) (λ r. cc) is)
  in_hand (suc (suc (suc (suc (suc (suc (suc (suc i)))))))) d x (value, is) = absurd (⊎_elim (λ w. cc) (λ r. cc) is)

-- ---- its memory

-- only the first deed writes, and only the eighth reads
writes_first : (x k : ℕ) → WritesAt x (access_at act k) → k ≡ 0
writes_first x zero w = refl
writes_first x (suc zero) w = let is = w.2 in absurd (cc)
writes_first x (suc (suc zero)) w = let is = w.2 in absurd (cc)
writes_first x (suc (suc (suc zero))) w = let is = w.2 in absurd (cc)
writes_first x (suc (suc (suc (suc zero)))) w = let is = w.2 in absurd (cc)
writes_first x (suc (suc (suc (suc (suc zero))))) w = let is = w.2 in absurd (cc)
writes_first x (suc (suc (suc (suc (suc (suc zero)))))) w = let is = w.2 in absurd (cc)
writes_first x (suc (suc (suc (suc (suc (suc (suc zero))))))) w = let is = w.2 in absurd (cc)
writes_first x (suc (suc (suc (suc (suc (suc (suc (suc i)))))))) w = let is = w.2 in absurd (cc)

reads_eighth : (j e x value : ℕ) → access_at act j ≡ reads e x value → j ≡ 7
reads_eighth zero e x value is = absurd (cc)
reads_eighth (suc zero) e x value is = absurd (cc)
reads_eighth (suc (suc zero)) e x value is = absurd (cc)
reads_eighth (suc (suc (suc zero))) e x value is = absurd (cc)
reads_eighth (suc (suc (suc (suc zero)))) e x value is = absurd (cc)
reads_eighth (suc (suc (suc (suc (suc zero))))) e x value is = absurd (cc)
reads_eighth (suc (suc (suc (suc (suc (suc zero)))))) e x value is = absurd (cc)
reads_eighth (suc (suc (suc (suc (suc (suc (suc zero))))))) e x value is = refl
reads_eighth (suc (suc (suc (suc (suc (suc (suc (suc i)))))))) e x value is = absurd (cc)

is_visible : (x j : ℕ) → IsVisible (HappensBefore (λ i. seen (act i))) (access_at act) x 0 j
is_visible x j = record {
  no_later = λ b. let less = comes_first (λ i. seen (act i)) j 0 b in omega arith;
  unhidden = λ k w b c. let is = writes_first x k w in let less = comes_first (λ i. seen (act i)) 0 k b in omega arith;
}

memory : ReadsOfADrive act (λ _. 0)
memory j e x value is = let there : reads 1 0 7 ≡ reads e x value = ap (access_at act) (sym (reads_eighth j e x value is)) ∙ is in
    let place : 0 ≡ x = cc in let same : 7 ≡ value = cc in
    inl (0, 0, ap (λ y. writes 0 y 7) place ∙ ap (writes 0 x) same, is_visible x j)

on : (kind : Kind) → IsEndlessDrive (stage kind) (λ i. as_deed (act i))
on kind = record { begins = (g_3 kind).driven; goes_on = goes_on kind }

pub data_is_handed_over : DataIsHandedOver
data_is_handed_over kind = record {
  key = small kind;
  lock_of = λ _. 0;
  stage = stage kind;
  act = act;
  first = λ _. 0;
  of_kind = refl;
  world = is_of_world kind;
  endless = on kind;
  keeps = record { endless = accounted_on (stage kind) (λ i. as_deed (act i)) (on kind); locked = in_hand kind };
  memory = memory;
  read = (7, 0, 1, 0, 7, refl, refl, (λ is. omega arith), λ is. omega arith);
}

-- ---- a read without the lock

abbrev hasty : ℕ → DataAct
hasty zero = accesses (writes 0 0 7)
hasty (suc zero) = accesses (reads 1 0 0)
hasty (suc (suc i)) = does halts

hasty_on : (i : ℕ) → as_deed (hasty i) ≡ halts
hasty_on zero = refl
hasty_on (suc zero) = refl
hasty_on (suc (suc i)) = refl

hasty_releases : (i t n : ℕ) → seen (hasty i) ≢ lets_go t n
hasty_releases zero t n is = cc
hasty_releases (suc zero) t n is = cc
hasty_releases (suc (suc i)) t n is = cc

apart : (i j : ℕ) → HappensBefore (λ k. seen (hasty k)) i j → i ≡ 0 → j ≡ 1 → ⊥
apart _ _ (in_order zero (suc zero) d less a b) low high = second_not_first (b ∙ sym a)
apart _ _ (in_order zero zero d less a b) low high = absurd (omega arith)
apart _ _ (in_order zero (suc (suc j)) d less a b) low high = absurd (omega arith)
apart _ _ (in_order (suc i) j d less a b) low high = absurd (omega arith)
apart _ _ (handed i j d e n less a b) low high = hasty_releases i d n a
apart _ _ (through i k j a b) low high = let x = comes_first (λ n. seen (hasty n)) i k a in let y = comes_first (λ n. seen (hasty n)) k j b in omega arith

hasty_writes : (x k : ℕ) → WritesAt x (access_at hasty k) → k ≡ 0
hasty_writes x zero w = refl
hasty_writes x (suc zero) w = let is = w.2 in absurd (cc)
hasty_writes x (suc (suc i)) w = let is = w.2 in absurd (cc)

hasty_memory : ReadsOfADrive hasty (λ _. 0)
hasty_memory zero e x value is = absurd (cc)
hasty_memory (suc zero) e x value is = inr ((let old : value ≡ 0 = cc in old), λ k w b. apart k 1 b (hasty_writes x k w) refl)
hasty_memory (suc (suc i)) e x value is = absurd (cc)

is_stale : ◌≢◌ {A = ℕ} 0 (wrote (λ _. 0) (access_at hasty) 1 0)
is_stale is = omega arith

pub data_is_stale_without_its_lock : DataIsStaleWithoutItsLock
data_is_stale_without_its_lock kind = record {
  key = small kind;
  stage = λ _. staged (first_locks kind).at.moment (q_3 kind);
  act = hasty;
  first = λ _. 0;
  of_kind = refl;
  world = is_of_world kind;
  endless = record {
    begins = (g_3 kind).driven;
    goes_on = λ i. let g = staged (first_locks kind).at.moment (q_3 kind) in subst (Does g g) (sym (hasty_on i)) refl;
  };
  memory = hasty_memory;
  read = (1, 1, 0, 0, refl, is_stale);
}

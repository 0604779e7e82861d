-- Memory promises no more than is told: what one wrote another may not see yet, unless it was handed over.
use Rattle.std.specs.Prelude.{ℕ, zero, suc, ◌≢◌}
use Rattle.ww_protocols.specs.Hall.{Layout, Move, sits, stands_up, visits, quits, locks, unlocks, finds_free, finds_free_again, clears_mark, finds_no_mark}
use Rattle.ww_protocols.specs.Memory.{writes, reads, none, ReadsWhatIsVisible}
use Rattle.ww_protocols.specs.Data.{LockAct, takes, releases, accesses, access_of, HappensBefore}
use Rattle.ww_protocols.specs.SharedData.{HallAct, moves, accesses as access_made, ReadsOfARun}

-- ---- by exclusive locks

-- One thread writes and then does this; then another does that, and reads.
abbrev pub one_then_another : LockAct → LockAct → ℕ → LockAct
one_then_another this that zero = accesses (writes 0 0 7)
one_then_another this that (suc zero) = this
one_then_another this that (suc (suc zero)) = that
one_then_another this that (suc (suc (suc zero))) = accesses (reads 1 0 0)
one_then_another this that (suc (suc (suc (suc i)))) = accesses none

-- memory may let it read what was there before the write
abbrev pub MayReadTheOld : LockAct → LockAct → Type 0
MayReadTheOld this that = let act = one_then_another this that in ReadsWhatIsVisible (HappensBefore act) (λ i. access_of (act i)) (λ _. 0)

-- It may, but where the one releases the very lock that the other takes.
pub record OnlyItsLockHandsOver : Type 0 where
  pub same_lock : (n : ℕ) → ¬ MayReadTheOld (releases 0 n) (takes 1 n)
  pub another_lock : (n m : ℕ) → n ≢ m → MayReadTheOld (releases 0 n) (takes 1 m)
  pub both_take : (n m : ℕ) → MayReadTheOld (takes 0 n) (takes 1 m)
  pub both_release : (n m : ℕ) → MayReadTheOld (releases 0 n) (releases 1 m)
  pub turned_round : (n m : ℕ) → MayReadTheOld (takes 0 n) (releases 1 m)

-- ---- by the moves of shared locks

-- By which move context c hands over what it wrote, and by which later one another context, e, takes that over.
pub data HandsItOver (l : Layout) (c e : ℕ) : Move → Move → Type 0 where
  by_mutex : (m : ℕ) → HandsItOver l c e (unlocks m) (locks m)
  by_look : (m : ℕ) → HandsItOver l c e (unlocks m) (finds_free m)
  by_last_look : (m : ℕ) → HandsItOver l c e (unlocks m) (finds_free_again m)
  by_own_desk : HandsItOver l c e stands_up (visits c)
  by_its_desk : HandsItOver l c e (quits e) sits
  by_desk : (d : ℕ) → HandsItOver l c e (quits d) (visits d)
  by_mark : (d m : ℕ) → HandsItOver l c e (clears_mark d (l.mark m)) (finds_no_mark m d)

-- One context writes and then makes this move; then another makes that, and reads.
abbrev pub one_then_another_in : Move → Move → ℕ → HallAct
one_then_another_in this that zero = access_made (writes 0 0 7)
one_then_another_in this that (suc zero) = moves 0 this
one_then_another_in this that (suc (suc zero)) = moves 1 that
one_then_another_in this that (suc (suc (suc zero))) = access_made (reads 1 0 0)
one_then_another_in this that (suc (suc (suc (suc i)))) = access_made none

-- memory may let it read what was there before the write
abbrev pub MayReadTheOldIn : Layout → Move → Move → Type 0
MayReadTheOldIn l this that = ReadsOfARun l (one_then_another_in this that) (λ _. 0)

-- It may just where the one move doesn't hand over to the other.
abbrev pub OnlyTheseHandOver : Type 0
OnlyTheseHandOver = (l : Layout) (this that : Move) →
    (HandsItOver l 0 1 this that → ¬ MayReadTheOldIn l this that) × ((¬ HandsItOver l 0 1 this that) → MayReadTheOldIn l this that)

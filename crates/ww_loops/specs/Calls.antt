-- A lock call from its begin to its end, however many steps it has.
use Rattle.std.specs.Prelude.{ℕ, suc, ◌≡◌, ◌<◌, ◌≤◌, ◌⊎◌, true, false}
use Rattle.ww_plain.specs.Numbers.{is_among}
use Rattle.ww_model.specs.declared.state.Holder.TheVariants.{Taken}
use Rattle.ww_view.specs.View.{owns}
use Rattle.ww_invariant.specs.declared.cells.Start.{Start}
use Rattle.ww_refines.specs.Moment.{core}
use Rattle.ww_seat.specs.declared.waits.Waits.{Waits}
use Rattle.ww_seat.specs.declared.look.Arrival.{Arrival}
use Rattle.ww_steps.specs.declared.turn.Turn.{Turn}
use Rattle.ww_steps.specs.declared.turn.Turn.TheVariants.{Wants, Looks}
use Rattle.ww_steps.specs.declared.turn.Answer.{Answer}
use Rattle.ww_steps.specs.declared.turn.Answer.TheVariants.{Done, Again}
use Rattle.ww_steps.specs.Situations.{Situation}
use Rattle.ww_callers.specs.Stages.{Stage, IsDesk}
use Rattle.ww_callers.specs.Deeds.{Deed, calls, answers, lock, go_on}
use Rattle.ww_callers.specs.Drives.{IsEndlessDrive}
use Rattle.ww_callers.specs.Handing.{DeskAcquires}

-- What a desk says of itself is what its seat knows: which locks it holds, and the stamp of its context.
pub record KnowsItsSeat (s : Situation) : Type 0 where
  pub holds : (n : ℕ) → owns s.view n ≡ is_among n s.held
  pub stamp : s.stamp ≡ s.view.stamp

-- Each desk does, whatever was called before.
abbrev pub DesksKnowTheirSeats : Type 0
DesksKnowTheirSeats = (s : Situation) → IsDesk s → KnowsItsSeat s

-- So do those of a drive, between two calls.
abbrev pub AllKnowTheirSeats : {key : Start} → (ℕ → Stage key) → Type 0
AllKnowTheirSeats {key = key} stage = (i d : ℕ) → d < key.seats → (stage i).calling d ≡ false → KnowsItsSeat ((stage i).desk d)

-- the desk's call waits for this lock, outside its guard or inside
abbrev pub IsAtLock : ℕ → Turn → Type 0
IsAtLock n turn = (arrival : Arrival) × (waits : Waits) × ((turn ≡ Wants n arrival waits) ⊎ (turn ≡ Looks n arrival waits))

module _ {key : Start} (stage : ℕ → Stage key) (deed : ℕ → Deed) (d n : ℕ) where
  -- The call of C: the desk is called at i, and its first step, which is asked for the lock, answers at `first`. If that took the
  -- lock the call is at its end then, else where a further step says that it took it.
  pub record LockCall (i j : ℕ) : Type 0 where
    pub begun : deed i ≡ calls d
    pub waits : Waits
    pub first : ℕ
    pub answer : Answer
    pub after : i < first
    pub amid : (k : ℕ) → i < k → k ≤ first → (stage k).calling d ≡ true
    pub answers_first : deed first ≡ answers d (lock n waits) answer
    pub ends : ((answer ≡ Done) × (first ≡ j))
        ⊎ ((answer ≡ Again) × (first < j) × IsAtLock n ((stage j).desk d).turn × (deed j ≡ answers d go_on Done))

  -- The lock went to the desk at this time, by one step of its own, and it has had it since.
  pub record TookTheLock (i j : ℕ) : Type 0 where
    pub at : ℕ
    pub after : i < at
    pub before : at < j
    pub takes : DeskAcquires d n (deed at)
    pub since : (k : ℕ) → at < k → k ≤ suc j → (core (stage k).moment).owner n ≡ Taken d

-- Between the begin of each lock call and the answer that it has the lock, the lock went to the desk, which has had it since.
abbrev pub LockCallsTakeTheirLock : Type 0
LockCallsTakeTheirLock = (key : Start) (stage : ℕ → Stage key) (deed : ℕ → Deed) → IsEndlessDrive stage deed →
    AllKnowTheirSeats stage → (d n i j : ℕ) → d < key.seats → LockCall stage deed d n i j → TookTheLock stage deed d n i j

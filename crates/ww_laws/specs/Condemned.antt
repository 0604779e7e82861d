-- A condemned seat gives way at its next look, for as long as the lock keeps its owner and, in Wait-Die, its waiters
-- ahead of that seat.
use Rattle.std.specs.Prelude.{ℕ, ◌≡◌, ◌≢◌, IsSome}
use Rattle.ww_queue.specs.declared.kind.Kind.TheVariants.{WaitDie}
use Rattle.ww_queue.specs.declared.entry.Entry.{Entry}
use Rattle.ww_queue.specs.Queue.{Before, Stands}
use Rattle.ww_model.specs.declared.event.Event.{Event}
use Rattle.ww_model.specs.declared.event.Event.TheVariants.{Guard, Take, Die, Unguard, Heed, Leave}
use Rattle.ww_model.specs.State.{State, HasOther, Inside, dies}
use Rattle.ww_model.specs.Event.{Possible, after, actor}
use Rattle.ww_model.specs.Waits.{IsCondemned}

-- from c to d the lock keeps its owner and, in Wait-Die, each waiter ahead of the seat stays ahead of it
pub record KeepsCause (c d : State) (a n : ℕ) : Type 0 where
  pub owner : d.owner n ≡ c.owner n
  pub ahead : c.kind ≡ WaitDie → (x e : Entry) → e.seat ≡ a → Before (c.queue n) x e → Before (d.queue n) x e

-- the seat is condemned at this lock
pub record IsCondemnedAt (c : State) (a n : ℕ) : Type 0 where
  pub condemned : IsCondemned c a
  pub lock : condemned.lock ≡ n

-- the seat looks at the lock: it is inside the guard, waits there for another, and must die
pub record LooksCondemned (c : State) (a n : ℕ) : Type 0 where
  pub inside : Inside c a n
  pub waits : Stands (c.queue n) a
  pub other : HasOther c a n
  pub dies_there : IsSome (dies c a n)

-- an event of another seat leaves it condemned, if the cause stays
abbrev pub CondemnedStays : State → Type 0
CondemnedStays c = (e : Event) (a n : ℕ) → IsCondemnedAt c a n → Possible c e → actor e ≢ a →
    KeepsCause c (after c e) a n → IsCondemnedAt (after c e) a n

-- if the guard is free, it can go inside, and looks condemned then
pub record GoesInside (c : State) (a n : ℕ) : Type 0 where
  pub can : Possible c (Guard a n)
  pub looks : LooksCondemned (after c (Guard a n)) a n

abbrev pub CondemnedLooks : State → Type 0
CondemnedLooks c = (a n : ℕ) → IsCondemnedAt c a n → c.guard n ≡ 0 → GoesInside c a n

-- while it is inside, the others leave it so, whatever they do
abbrev pub LooksOn : State → Type 0
LooksOn c = (e : Event) (a n : ℕ) → LooksCondemned c a n → Possible c e → actor e ≢ a → LooksCondemned (after c e) a n

-- Then it can't take the lock, nor, in Wait-Die, leave the guard. It can die, which is EDEADLK, or heed a cancel that
-- is set; and once it has heeded one it can leave the list, which is EINTR.
pub record GivesWay (c : State) (a n : ℕ) : Type 0 where
  pub takes_not : ¬ Possible c (Take a n)
  pub stays_not : c.kind ≡ WaitDie → ¬ Possible c (Unguard a n)
  pub dies : c.heeded a ≡ 0 → Possible c (Die a n)
  pub heeds : c.heeded a ≡ 0 → c.cancel a ≢ 0 → Possible c (Heed a n)
  pub leaves : c.heeded a ≢ 0 → Possible c (Leave a n)

abbrev pub WhoLooksGivesWay : State → Type 0
WhoLooksGivesWay c = (a n : ℕ) → LooksCondemned c a n → GivesWay c a n

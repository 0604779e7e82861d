-- A lock is released inside its guard.
use Rattle.std.specs.Prelude.{ℕ, suc, ◌≡◌, true, Some, slice_get}
use Rattle.std.specs.Option.{option_map}
use Rattle.ww_queue.specs.declared.entry.Entry.{Entry}
use Rattle.ww_queue.specs.declared.kind.Kind.TheVariants.{WaitDie}
use Rattle.ww_view.specs.View.{owns}
use Rattle.ww_view.specs.May.{MayLeave}
use Rattle.ww_view.specs.Made.{with_heir}
use Rattle.ww_invariant.specs.Rule.{Sat}
use Rattle.ww_invariant.specs.Guards.{AreSeats}
use Rattle.ww_seat.specs.Orderly.{IsOrderly}
use Rattle.ww_seat.specs.Calls.{HasGiven}
use Rattle.ww_seat.specs.Looks.{StaysAwake}

-- It released the lock, and knows who is to look now: the first waiter, if somebody waits, whom it has to wake. It may leave
-- the guard.
pub record HasLet (size n : ℕ) (m m' : Sat) : Type 0 where
  pub orderly : IsOrderly size m'
  pub may : MayLeave m'.0.part.core n
  pub inside : m'.0.part.core.inside ≡ suc n
  pub waits : m'.0.part.core.waits ≡ 0
  pub given : HasGiven m n m'
  pub heir : m'.0.part.core.heir ≡ option_map (λ (e : Entry). e.seat) (slice_get m.0.part.core.list 0)
  pub debts : m'.0.part.core.debts ≡ with_heir m'.0.part.core.heir m.0.part.core.debts
  pub attempts : m'.0.part.core.attempts ≡ m.0.part.core.attempts
  pub awake : StaysAwake m.0.part.core m'.0.part.core

-- It is inside, as the owner that releases the lock, and waits for none: its sign is then its own to tell.
pub record IsGiving (size n : ℕ) (m : Sat) : Type 0 where
  pub orderly : IsOrderly size m
  pub inside : m.0.part.core.inside ≡ suc n
  pub waits : m.0.part.core.waits ≡ 0
  pub owner : owns m.0.part.core n ≡ true
  pub seats : AreSeats m.0.part.core.seats m.0.part.core.list
  pub unsigned : m.0.part.core.kind ≡ WaitDie → m.0.part.core.sign ≡ Some 0

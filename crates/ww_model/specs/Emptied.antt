-- Where a core can be led without anything new being begun: to one in which everything is free.
use Rattle.std.specs.Prelude.{ℕ, ◌≡◌, false, List, [], ◌∷◌}
use Rattle.ww_queue.specs.Queue.{Stands}
use Rattle.ww_model.specs.declared.state.Holder.TheVariants.{Nobody}
use Rattle.ww_model.specs.declared.event.Event.{Event}
use Rattle.ww_model.specs.declared.event.Event.TheVariants.{Begin, Fast, Join, Take, Ask, Commit, Cancel, Heed}
use Rattle.ww_model.specs.State.{State}
use Rattle.ww_model.specs.Event.{after}
use Rattle.ww_model.specs.Run.{state_after, IsRun}

-- each of the events is allowed, in its turn
abbrev pub AllAllowed : (State → Event → Type 0) → State → List Event → Type 0
AllAllowed Allowed c [] = Unit {0}
AllAllowed Allowed c (e ∷ es) = Allowed c e × AllAllowed Allowed (after c e) es

-- some run of allowed events leads from the state to one like this
pub record LeadsBy (Allowed : State → Event → Type 0) (c : State) (P : State → Type 0) : Type 0 where
  pub events : List Event
  pub allowed : AllAllowed Allowed c events
  pub run : IsRun c events
  pub there : P (state_after c events)

-- every lock is free, nobody waits or is inside a guard, and no seat has a context, a sign or a cancel that it has
-- heeded; a cancel may be pending
pub record IsEmptied (c : State) : Type 0 where
  pub owner : (n : ℕ) → c.owner n ≡ Nobody
  pub queue : (n : ℕ) → c.queue n ≡ []
  pub asked : (n : ℕ) → c.asked n ≡ false
  pub guard : (n : ℕ) → c.guard n ≡ 0
  pub stamp : (s : ℕ) → c.stamp s ≡ 0
  pub sign : (s : ℕ) → c.sign s ≡ 0
  pub heeded : (s : ℕ) → c.heeded s ≡ 0

-- The event winds up: with it no context begins, nobody joins a wait list or takes a lock without having waited for it,
-- nothing is committed and nothing asked for, and no cancel is set or heeded.
abbrev pub WindsUp : State → Event → Type 0
WindsUp c (Begin s) = ⊥
WindsUp c (Fast s n) = ⊥
WindsUp c (Join s n) = ⊥
WindsUp c (Take s n) = Stands (c.queue n) s
WindsUp c (Ask s n) = ⊥
WindsUp c (Commit s) = ⊥
WindsUp c (Cancel s v) = ⊥
WindsUp c (Heed s n) = ⊥
WindsUp c _ = Unit {0}

-- That the first in a list asks for the lock, by the view of a seat at the table.
use Rattle.std.specs.Prelude.{ℕ, suc, ◌≡◌, ◌⊎◌, true}
use Rattle.ww_model.specs.declared.state.Holder.TheVariants.{Handed}
use Rattle.ww_model.specs.State.{State}
use Rattle.ww_model.specs.Snapshot.{IsFirst}
use Rattle.ww_view.specs.declared.view.View.{View}
use Rattle.ww_view.specs.View.{Knows}
use Rattle.ww_view.specs.May.{MayLeave}

-- Whatever waiter the table lets out of a guard, after a look again, has asked for the lock if it is the first, or the
-- lock is handed to somebody.
abbrev pub WhoLeavesHasAsked : Type 0
WhoLeavesHasAsked = (c : State) (v : View) (n : ℕ) → Knows c v → MayLeave v n → v.waits ≡ suc n → v.later ≡ true →
    IsFirst (c.queue n) v.who → (c.asked n ≡ true) ⊎ ((t : ℕ) × (c.owner n ≡ Handed t))

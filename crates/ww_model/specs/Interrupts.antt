-- How often one seat set the cancel of another, or of itself, and how often it interrupted it.
use Rattle.std.specs.Prelude.{ℕ, ◌+◌, ◌==◌, ◌&&◌, List, [], ◌∷◌}
use Rattle.ww_model.specs.declared.event.Event.{Event}
use Rattle.ww_model.specs.declared.event.Event.TheVariants.{Cancel, Leave}
use Rattle.ww_model.specs.declared.event.Answer.{Answer}
use Rattle.ww_model.specs.declared.event.Answer.TheVariants.{Interrupted}
use Rattle.ww_model.specs.State.{State, one_if}
use Rattle.ww_model.specs.Event.{after, answer}

module _ (from v : ℕ) where
  -- 1 where the event sets the cancel of v by this seat
  abbrev pub cancels_now : Event → ℕ
  cancels_now (Cancel s u) = one_if ((u == v) && (s == from))
  cancels_now _ = 0

  -- 1 where v is told by the event that this seat interrupted it
  abbrev pub interrupts_now : Event → Answer → ℕ
  interrupts_now (Leave s n) (Interrupted k) = one_if ((s == v) && (k == from))
  interrupts_now _ _ = 0

  -- how often the events set it, and from this state on answer it
  abbrev pub cancels_in : List Event → ℕ
  cancels_in [] = 0
  cancels_in (e ∷ es) = cancels_now e + cancels_in es

  abbrev pub interrupts_in : State → List Event → ℕ
  interrupts_in c [] = 0
  interrupts_in c (e ∷ es) = interrupts_now e (answer c e) + interrupts_in (after c e) es

  -- 1 where the cancel that is pending, or the one that was heeded, is this seat's
  abbrev pub one_of : ℕ → ℕ
  one_of mark = one_if (mark == from + 1)

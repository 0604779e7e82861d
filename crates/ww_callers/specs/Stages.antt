-- Desks at a table, and the drivers that make their calls, at one moment.
use Rattle.std.specs.Prelude.{ℕ, ◌≡◌, ◌<◌, Bool, false, []}
use Rattle.ww_view.specs.View.{first_view}
use Rattle.ww_invariant.specs.declared.cells.Start.{Start}
use Rattle.ww_invariant.specs.Rule.{places_for}
use Rattle.ww_refines.specs.Moment.{Moment, IsFirstMoment}
use Rattle.ww_steps.specs.declared.station.Station.{Station}
use Rattle.ww_steps.specs.Situations.{Situation, is_inside}
use Rattle.ww_steps.specs.Stations.{situation_of, Keeps}

-- A moment of the table, with who has a token and who sleeps. Beside it, of each desk: how its last call left it; whether a
-- call of it is on its way; whether its last call told it to sleep, and it hasn't risen since; and whom it named as to be
-- woken, and who has had no token of it since.
pub record Stage (key : Start) : Type 0 where
  pub moment : Moment key
  pub desk : ℕ → Situation
  pub calling : ℕ → Bool
  pub to_sleep : ℕ → Bool
  pub named : ℕ → ℕ → Bool

-- a desk, whatever was called before, of which contracts see this
pub record IsDesk (s : Situation) : Type 0 where
  pub station : Station
  pub keeps : Keeps station
  pub seen : s ≡ situation_of station

-- unless its call stands inside a guard, its seat is outside of all
abbrev pub StandsOutside : Situation → Type 0
StandsOutside s = is_inside s.turn ≡ false → s.view.inside ≡ 0

-- the desk has this number, cancelled nobody's wait, and knows what a seat knows that has done nothing yet
pub record IsFresh (key : Start) (d : ℕ) (s : Situation) : Type 0 where
  pub caller : s.caller ≡ d
  pub cancelled : s.cancelled ≡ []
  pub view : s.view ≡ first_view key.kind key.locks (places_for key.seats) d

-- nothing was called yet
pub record IsFirstStage {key : Start} (g : Stage key) : Type 0 where
  pub first : IsFirstMoment g.moment
  pub places : key.places ≡ places_for key.seats
  pub desks : (d : ℕ) → d < key.seats → IsFresh key d (g.desk d)
  pub calling : (d : ℕ) → g.calling d ≡ false
  pub to_sleep : (d : ℕ) → g.to_sleep d ≡ false
  pub named : (d : ℕ) → g.named d ≡ (λ _. false)

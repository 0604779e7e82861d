-- What two callers at one table hold at one moment.
use Rattle.std.specs.Prelude.{ℕ, ◌≡◌, true}
use Rattle.ww_plain.specs.Numbers.{is_among}
use Rattle.ww_invariant.specs.declared.cells.Start.{Start}
use Rattle.ww_invariant.specs.Rule.{St}
use Rattle.ww_table_laws.specs.Laws.{StepsAt, RuledOwners}
use Rattle.ww_lock.specs.declared.hand.Hand.TheInside.{Inside}
use Rattle.ww_lock.specs.Holding.{Holding}
use Rattle.ww_lock.specs.Carried.{holding_of}
use Rattle.ww_lock.specs.Hands.{carried_of, Carries}
use Rattle.ww_steps.specs.declared.station.Station.{Station}
use Rattle.ww_steps.specs.Situations.{Situation}
use Rattle.ww_steps.specs.Stations.{situation_of, Keeps}

-- A pass, in whatever state it is, of which contracts see this; and the view of its seat stands at this place of the table. A
-- seat's place is its own, as long as the table is there.
pub record IsPassAt (s : St) (id : ℕ) (h : Holding) : Type 0 where
  pub hand : Inside
  pub carries : Carries hand
  pub seen : h ≡ holding_of (carried_of hand)
  pub steps : StepsAt s id hand.seat.me

-- two passes that hold one node are one
abbrev pub PassesExclude : Type 0
PassesExclude = (key : Start) (s : St) → RuledOwners key s → (id other : ℕ) (h k : Holding) (n : ℕ) →
    IsPassAt s id h → IsPassAt s other k → is_among n h.held ≡ true → is_among n k.held ≡ true →
    (id ≡ other) × (h.caller ≡ k.caller)

-- A desk, of which contracts see this, C's handles among them; and the view of its seat stands at this place of the table.
pub record IsDeskAt (s : St) (id : ℕ) (d : Situation) : Type 0 where
  pub station : Station
  pub keeps : Keeps station
  pub seen : d ≡ situation_of station
  pub steps : StepsAt s id station.seat.me

-- two desks that hold one lock are one
abbrev pub DesksExclude : Type 0
DesksExclude = (key : Start) (s : St) → RuledOwners key s → (id other : ℕ) (d e : Situation) (n : ℕ) →
    IsDeskAt s id d → IsDeskAt s other e → is_among n d.held ≡ true → is_among n e.held ≡ true →
    (id ≡ other) × (d.caller ≡ e.caller)

-- What theorems come to, of two callers at one table. A theorem that said less wouldn't give it.
use Rattle.std.specs.Prelude.{ℕ, ◌≡◌, ◌≢◌, true, false}
use Rattle.ww_plain.specs.Numbers.{is_among}
use Rattle.ww_view.specs.View.{owns}
use Rattle.ww_invariant.specs.declared.cells.Start.{Start}
use Rattle.ww_invariant.specs.Rule.{St, Sat}
use Rattle.ww_table_laws.specs.Laws.{core_of, StepsAt, RuledOwners}
use Rattle.ww_lock.specs.Holding.{Holding}
use Rattle.ww_steps.specs.Situations.{Situation}
use Rattle.ww_callers.specs.Exclusion.{IsPassAt, IsDeskAt}

-- Of two seats at other places of a table one at most owns a lock, of two passes one at most holds a node, and of two desks one at most
-- holds a lock.
abbrev pub SeatsShareNone : Type 0
SeatsShareNone = (key : Start) (s : St) → RuledOwners key s → (id other n : ℕ) (me it : Sat) → other ≢ id → StepsAt s id me →
    StepsAt s other it → owns (core_of me) n ≡ true → owns (core_of it) n ≡ false

abbrev pub PassesShareNone : Type 0
PassesShareNone = (key : Start) (s : St) → RuledOwners key s → (id other n : ℕ) (h k : Holding) → other ≢ id → IsPassAt s id h →
    IsPassAt s other k → is_among n h.held ≡ true → is_among n k.held ≡ false

abbrev pub DesksShareNone : Type 0
DesksShareNone = (key : Start) (s : St) → RuledOwners key s → (id other n : ℕ) (d e : Situation) → other ≢ id → IsDeskAt s id d →
    IsDeskAt s other e → is_among n d.held ≡ true → is_among n e.held ≡ false

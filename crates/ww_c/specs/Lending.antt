-- What becomes of a slot whose desk is lent.
use Rattle.std.specs.Prelude.{Some}
use Rattle.std.specs.Borrow.{Lends, MutBor, Fml}
use Rattle.ww_steps.specs.contracts.desk.Desk.{the_row as desk_row}
use Rattle.ww_c.specs.declared.slot.Slot.{Slot}
use Rattle.ww_c.specs.contracts.slot.Slot.{the_row}

-- the slot with this desk behind its address
abbrev pub with_desk : Slot → desk_row.Denot → Slot
with_desk s x = record { at = s.at; alloc = s.alloc; desk = Some x }

-- s ends with the last desk behind r
abbrev pub LendsDesk : MutBor Slot → MutBor desk_row.Denot → Fml
LendsDesk s r = Lends the_row desk_row s r (with_desk s.now)

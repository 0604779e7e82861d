-- What C's handle of a desk owns: a box of it, or nothing.
use Rattle.std.specs.Prelude.{Option, Some, None, Bool, true, false}
use Rattle.std.specs.Coded.{coded_option}
use base.Fml.{Fml, ftrue}
use base.Stored.{Coded}
use denote.RawPtr.{Ptr}
use Rattle.std.specs.Box.Ownership.{box_owns}
use Rattle.std.specs.Global.{Global}
use Rattle.std_heap.specs.contracts.GlobalAllocator.TheImpl.{ghosts}
use Rattle.ww_steps.specs.contracts.desk.Desk.{the_row}

abbrev pub slot_owns : Global → Ptr → Option the_row.Denot → Fml
slot_owns alloc p None = ftrue
slot_owns alloc p (Some x) = box_owns (ghosts.dealloc_token alloc) the_row p x

abbrev pub slot_coded : Coded (Option the_row.Denot)
slot_coded = coded_option the_row.coded

abbrev pub is_full : Option the_row.Denot → Bool
is_full None = false
is_full (Some x) = true

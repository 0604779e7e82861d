-- What C's handle of an office owns: a box of it, or nothing.
use Rattle.std.specs.Prelude.{Option, Some, None, Bool, true, false}
use Rattle.std.specs.Coded.{coded_option}
use base.Fml.{Fml, ftrue}
use base.Stored.{Coded}
use denote.RawPtr.{Ptr}
use Rattle.std.specs.Box.Ownership.{box_owns}
use Rattle.std.specs.Global.{Global}
use Rattle.std_heap.specs.contracts.GlobalAllocator.TheImpl.{ghosts}
use Rattle.ww_steps.specs.contracts.opening.Office.{the_row}

abbrev pub office_owns : Global → Ptr → Option the_row.Denot → Fml
office_owns alloc p None = ftrue
office_owns alloc p (Some x) = box_owns (ghosts.dealloc_token alloc) the_row p x

abbrev pub office_coded : Coded (Option the_row.Denot)
office_coded = coded_option the_row.coded

abbrev pub has_office : Option the_row.Denot → Bool
has_office None = false
has_office (Some x) = true

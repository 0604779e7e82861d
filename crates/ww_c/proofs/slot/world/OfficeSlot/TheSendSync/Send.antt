-- The slot of an office may go to another thread, as what it holds may.
use Rattle.std.proofs.Common.{Option, Some, None}
use base.Shift.{Keyless}
use mir.Raw.{raw}
use denote.Memory.{lone}
use denote.RawPtr.{Ptr}
use denote.Struct.Struct.{exits_of}
use denote.Struct.Owning.{shape, fields, to}
use denote.Param.Send.{IsSend, AllSend, owning_send, struct_send, sendable}
use Rattle.std.specs.Global.{Global}
use Rattle.std.proofs.Crossing as heap
use Rattle.std_alloc.proofs.SendSync.{quiet, lies}
use Rattle.std_heap.proofs.Global.TheSendSync as handle
use Rattle.ww_c.specs.Offices.{office_owns}
use Rattle.ww_steps.specs.contracts.opening.Office as Office
use Rattle.ww_steps.proofs.opening.Office.TheSendSync.{the_send as office}
use Rattle.ww_c.specs.contracts.slot.world.OfficeSlot.{the_row, the_type}

keyless : (a : Global) (p : Ptr) (o : Option Office.the_row.Denot) → Keyless (office_owns a p o)
keyless a p None = tt
keyless a p (Some x) = (lies Office.the_row office p x, heap.frees.frees a (raw (lone Office.the_row.mir)) p)

pub send : IsSend the_row
send =
    let all : AllSend (fields the_type) = (search sendable, (handle.the_field_send, tt)) in
    owning_send the_type all (λ d. keyless d.alloc d.at d.office)
    (λ k. quiet (to the_type) (exits_of k (fields the_type)) ((struct_send (shape the_type) all).leaving k))

-- The box at the pointer may go to another thread if its value may, and any thread may free it.
use mir.Raw.{raw}
use denote.Memory.{lone}
use denote.Struct.Struct.{exits_of}
use denote.Struct.Owning.{shape, fields, to}
use denote.Param.Send.{IsSend, AllSend, owning_send, struct_send, sendable}
use base.Shift.{Keyless}
use denote.RawPtr.{Ptr}
use Rattle.std.proofs.Crossing as heap
use Rattle.std_alloc.proofs.SendSync.{quiet, lies}
use Rattle.std.specs.declared.option.Option.{Option}
use Rattle.std.specs.declared.option.Option.TheVariants.{None, Some}
use Rattle.bindings.specs.Hiding.{hides, the_heap}
use Rattle.bindings.specs.contracts.payload.Payload as held
use Rattle.bindings.proofs.payload.Payload.TheSendSync.{the_send as sends}
use Rattle.bindings.specs.contracts.hidden.Hidden.{the_row, the_type}

keyless : (p : Ptr) (m : Option held.the_row.Denot) → Keyless (hides held.the_row p m)
keyless p None = tt
keyless p (Some x) = (lies held.the_row sends p x, heap.frees.frees the_heap (raw (lone held.the_row.mir)) p)

pub send : IsSend the_row
send =
    let all : AllSend (fields the_type) = (search sendable, tt) in
    owning_send the_type all (λ d. keyless d.at d.value)
    (λ k. quiet (to the_type) (exits_of k (fields the_type)) ((struct_send (shape the_type) all).leaving k))

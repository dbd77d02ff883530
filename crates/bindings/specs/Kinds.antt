-- The kinds of ends that a handle can hold.
use Rattle.std.specs.Prelude.{Option, None, Some}
pub use Rattle.bindings.specs.declared.payload.Payload.TheVariants.{Batch, Queue, Chain, Hand, Seat, LineIn, LineOut}
pub use Rattle.bindings.specs.declared.payload.Payload.{Payload}
pub use Rattle.bindings.specs.declared.line.held.HeldIn.{HeldIn}
pub use Rattle.bindings.specs.declared.line.held.HeldOut.{HeldOut}
pub use Rattle.bindings.specs.declared.hand.held.HeldHand.{HeldHand}
pub use Rattle.bindings.specs.declared.seat.held.HeldSeat.{HeldSeat}
pub use Rattle.bindings.specs.declared.batch.held.HeldBatch.{HeldBatch}
pub use Rattle.bindings.specs.declared.queue.held.HeldQueue.{HeldQueue}
pub use Rattle.bindings.specs.declared.chain.held.HeldChain.{HeldChain}

-- the end of a batch queue, if the payload is one
abbrev pub batch_in : Payload → Option HeldBatch
batch_in (Batch x) = Some x
batch_in _ = None

-- the end of a queue, if the payload is one
abbrev pub queue_in : Payload → Option HeldQueue
queue_in (Queue x) = Some x
queue_in _ = None

-- the end of a chain, if the payload is one
abbrev pub chain_in : Payload → Option HeldChain
chain_in (Chain x) = Some x
chain_in _ = None

-- the hand of a table of thread elements, if the payload is one
abbrev pub hand_in : Payload → Option HeldHand
hand_in (Hand x) = Some x
hand_in _ = None

-- the end of meters, if the payload is one
abbrev pub seat_in : Payload → Option HeldSeat
seat_in (Seat x) = Some x
seat_in _ = None

-- the end of a line that pushes, if the payload is one
abbrev pub line_in_in : Payload → Option HeldIn
line_in_in (LineIn x) = Some x
line_in_in _ = None

-- the end of a line that pops, if the payload is one
abbrev pub line_out_in : Payload → Option HeldOut
line_out_in (LineOut x) = Some x
line_out_in _ = None

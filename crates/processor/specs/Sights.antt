-- The pairs that a gate is shown: a hand and other ends, as they were at one moment. And the ends beside which the gate
-- is called.
use Rattle.std.specs.Global.{Vec}
use Rattle.meters.specs.declared.ends.MeterSeat.{MeterSeat}
use Rattle.proc_chain.specs.declared.ends.ChainEnd.{ChainEnd}
use Rattle.quajects.specs.contracts.any.AnyQuajectQuaject.TheImpl.{ghosts}
use Rattle.quajects.specs.declared.any.AnyQuaject.{AnyQuaject}
use Rattle.quajects.specs.declared.world.Queues.{Queues}
use Rattle.thread_table.specs.declared.hand.Hand.{Hand}
use Rattle.claim_queue.specs.declared.ends.QueueEnd.{QueueEnd}
use Rattle.turn_io.specs.declared.queue_ends.QueueEnds.{QueueEnds}
use Rattle.turn_io.specs.Points.{AtEnd, Beside, beside}

-- for the ends of all queues, the ends of all chains and the seat of the meters: the gate, a hand and they were in these
-- states at one moment
pub record Sights (G : Type 0) : Type 1 where
  pub queues : G → Hand → QueueEnds → Type 0
  pub chains : G → Hand → Vec (ChainEnd AnyQuaject Queues ghosts) → Type 0
  pub seat : G → Hand → MeterSeat → Type 0

-- all that a gate is shown: pairs of a hand and other ends, and the end beside which it is called
pub record Views (G : Type 0) : Type 1 where
  pub sights : Sights G
  pub beside : Beside G

abbrev pub views : {G : Type 0} → Sights G → AtEnd (QueueEnd 64) G → AtEnd (QueueEnd 256) G
    → AtEnd (ChainEnd AnyQuaject Queues ghosts) G → Views G
views sights small large chain = record { sights = sights; beside = beside small large chain }

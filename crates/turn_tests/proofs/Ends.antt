-- Ends of queues that stay the same ends.
use Rattle.std.proofs.Common.{◌∙◌}
use Rattle.quajects.specs.declared.world.Queues.{Queues}
use Rattle.turn_io.specs.declared.queue_ends.QueueEnds.{QueueEnds}
use Rattle.turn_io.specs.QueueEnds.{AreQueueEndsOf, AreSameQueueEnds}

pub still_ends : (queues : Queues) (old new : QueueEnds) → AreQueueEndsOf queues old → AreSameQueueEnds old new → AreQueueEndsOf queues new
still_ends queues old new its same = record { small = same.small.tables ∙ its.small; large = same.large.tables ∙ its.large }

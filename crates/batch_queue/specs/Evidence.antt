-- The steps of each call, as evidence: the words that it loaded and changed, and the numbers found there. They are no
-- part of the stable interface: a client reads Client, and the other clauses of a call.
pub use Rattle.batch_queue.specs.Closings.{ShutNow}
pub use Rattle.batch_queue.specs.Endings.{SplitBy, SplitShare, JoinedBy}
pub use Rattle.batch_queue.specs.Hints.{Looked, LookedAround}
pub use Rattle.batch_queue.specs.Parts.{RefusedTakeSome, TookSome}
pub use Rattle.batch_queue.specs.Puts.{IsPut, IsPutSome, PutAnswer, RefusedPut, RefusedSome}
pub use Rattle.batch_queue.specs.Takings.{RefusedTake, TakeAnswer, TookBatches}

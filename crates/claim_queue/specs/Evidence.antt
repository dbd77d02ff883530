-- The steps of each call, as evidence: the words that it loaded and changed, and the numbers found there. They are no
-- part of the stable interface: a client reads Client, and the other clauses of a call.
pub use Rattle.claim_queue.specs.Answers.{ClaimedItems, Refused, PausedClaim}
pub use Rattle.claim_queue.specs.Closings.{ShutNow}
pub use Rattle.claim_queue.specs.Endings.{SplitBy, SplitShare, JoinedBy}
pub use Rattle.claim_queue.specs.Puts.{Raised, IsPut, PutAnswer}
pub use Rattle.claim_queue.specs.Takings.{TookItems, RefusedTake, PausedTake}
pub use Rattle.claim_queue.specs.Walks.{HasLooked}

-- The steps of each call, as evidence for what the module Client says of the call. They may change with the code, and
-- are no part of the stable interface.
pub use Rattle.thread_table.specs.Answers.{TakeAnswer, MoveAnswer, WaitAnswer, IsTicket, StoppedNow, StartAnswer}
pub use Rattle.thread_table.specs.Answers.{ParkAnswer, SignalAnswer, IsPending, DeliverAnswer, ReadPc, DoneAnswer}
pub use Rattle.thread_table.specs.Answers.{PutsOn, TakesOff}
pub use Rattle.thread_table.specs.Wakes.{WokeAll, NotifiedNow, BeforeAnswer}
pub use Rattle.thread_table.specs.Endings.{SplitBy, SplitShare, JoinedBy}
pub use Rattle.thread_table.specs.Closings.{WereOpen}

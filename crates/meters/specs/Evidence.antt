-- The steps of a call, as evidence: each load and each exchange, with the number that it found. They are no part of the
-- stable interface: `Client` has what a call promises its client.
pub use Rattle.meters.specs.Answers.{Ticked, Loaded, AdvancedNow, NotAdvanced, SetNow, NotSet, CancelledNow, FiredNow}
pub use Rattle.meters.specs.Closings.{WereOpen}
pub use Rattle.meters.specs.Endings.{SplitBy, SplitShare, JoinedBy}

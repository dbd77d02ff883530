-- The steps of a call, as evidence: its loads and exchanges with the numbers that they found. They are no part of the
-- stable interface: the clauses for clients are in `Client`. Declares nothing.
pub use Rattle.proc_chain.specs.Answers.{ChainedNow, NotChained}
pub use Rattle.proc_chain.specs.Endings.{SplitBy, SplitShare, Joined}
pub use Rattle.proc_chain.specs.Servings.{ServedNow, KeptNow, AllServed}
pub use Rattle.proc_chain.specs.Closings.{WereOpen}

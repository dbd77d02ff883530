-- An end's own part of its view: its runs, its takings, and how often it shut the queue.
use Rattle.std.specs.Prelude.{◌+◌, Bool, if◌then◌else◌, [], ◌∷◌, ◌++◌, slice_set}
use Rattle.table_theory.specs.declared.queues.Batch.{Batch}
use Rattle.table_theory.specs.declared.queues.Positions.{Positions}
use Rattle.table_theory.specs.declared.queues.QueueView.{QueueView}
use Rattle.table_theory.specs.declared.views.EndState.{EndState}
pub use Rattle.table_theory.specs.Batches.{run, taking}
use Rattle.table_theory.specs.Ledgers.{ObjectModel}
pub use Rattle.table_theory.specs.Ledgers.{OnlyLoads}
use Rattle.table_theory.specs.Listing.{number_of}
use Rattle.table_theory.specs.Positioned.{Lawful}
use Rattle.claim_queue.specs.declared.rule.QueueOps.{QueueOps}
use Rattle.claim_queue.specs.Changes.{Becomes}
use Rattle.claim_queue.specs.Layout.{ends_word}
use Rattle.claim_queue.specs.Shown.{WordsShow}

-- the view of an end of a queue: all that the end knows
abbrev pub View : Type 0
View = EndState QueueOps Positions

-- the record of an end that did nothing yet
abbrev pub nothing_did : QueueOps
nothing_did = record { runs = []; takes = []; shuts = 0 }

-- the records of two ends together
abbrev pub did_both : QueueOps → QueueOps → QueueOps
did_both d e = record { runs = d.runs ++ e.runs; takes = d.takes ++ e.takes; shuts = d.shuts + e.shuts }

-- queues as a subject of the theory of tables: the ends word, and what the words show, what is lawful, what can happen
abbrev pub of_queues : ObjectModel Positions
of_queues = record { ends_word = ends_word; Shows = WordsShow; IsLawful = Lawful; Happens = Becomes }

-- the end as the theory of queues has it: its runs and takings, and the queue that it has seen
abbrev pub part_of : View → QueueView
part_of v = record { queue = v.seen.object; runs = v.own.runs; takes = v.own.takes }

-- the record with one more run
abbrev pub with_run : QueueOps → Batch → QueueOps
with_run d e = record d { runs = d.runs ++ e ∷ [] }

-- the record with the run that has this start replaced by e
abbrev pub with_changed : QueueOps → Batch → QueueOps
with_changed d e = record d { runs = slice_set d.runs (number_of e.start d.runs) e }

-- the record with one more taking
abbrev pub with_taking : QueueOps → Batch → QueueOps
with_taking d e = record d { takes = d.takes ++ e ∷ [] }

-- the record with one more shut, if the queue was open
abbrev pub with_shutting : QueueOps → Bool → QueueOps
with_shutting d was_open = record d { shuts = d.shuts + (if was_open then 1 else 0) }

-- An end's own part of its view: its runs, its takings, how often it shut the queue and parted a batch, and the slots
-- that it holds.
use Rattle.std.specs.Prelude.{◌≡◌, ℕ, ◌+◌, ◌<◌, ◌≤◌, List, [], ◌∷◌, ◌++◌, length, slice_set}
use Rattle.std.specs.Prelude.{slice_index_or, Bool, if◌then◌else◌, map}
use mathlib.Core.Option.{some}
use lib.ListN.{get_elem?}
use Rattle.table_theory.specs.declared.queues.Batch.{Batch}
use Rattle.table_theory.specs.declared.queues.Cell.{Cell}
use Rattle.table_theory.specs.declared.queues.QueueView.{QueueView}
use Rattle.table_theory.specs.declared.views.EndState.{EndState}
pub use Rattle.table_theory.specs.Batches.{run, taking}
use Rattle.table_theory.specs.Ledgers.{ObjectModel}
pub use Rattle.table_theory.specs.Ledgers.{OnlyLoads}
use Rattle.table_theory.specs.Positioned.{blank}
use Rattle.batch_queue.specs.declared.rule.BatchState.{BatchState}
use Rattle.batch_queue.specs.declared.rule.EndRecord.{EndRecord}
use Rattle.batch_queue.specs.declared.rule.HeldSlots.{HeldSlots}
use Rattle.batch_queue.specs.Layout.{ends_word}
use Rattle.batch_queue.specs.Object.{Lawful, Becomes}
use Rattle.batch_queue.specs.Placed.{positions_of, raised_run}
use Rattle.batch_queue.specs.Shown.{WordsShow}

-- the view of an end of a queue: all that the end knows
abbrev pub View : Type 0
View = EndState EndRecord BatchState

-- the slots of `count` positions from `start` on, in this phase
abbrev pub holding : ℕ → ℕ → ℕ → HeldSlots
holding phase start count = record { phase = phase; start = start; count = count }

abbrev pub no_slots : HeldSlots
no_slots = record { phase = 0; start = 0; count = 0 }

-- the slot of this position is held
abbrev pub Holds : HeldSlots → ℕ → Type 0
Holds h i = (h.start ≤ i) × (i < h.start + h.count)

-- the record of an end that did nothing yet
abbrev pub nothing_did : EndRecord
nothing_did = record { runs = []; takes = []; shuts = 0; parts = 0; held = no_slots }

-- the records of two ends together, which hold no slots
abbrev pub did_both : EndRecord → EndRecord → EndRecord
did_both d e = record {
  runs = d.runs ++ e.runs;
  takes = d.takes ++ e.takes;
  shuts = d.shuts + e.shuts;
  parts = d.parts + e.parts;
  held = no_slots;
}

-- queues as a subject of the theory of tables: the ends word, and what the words show, what is lawful, what can happen
abbrev pub of_batches : ObjectModel BatchState
of_batches = record { ends_word = ends_word; Shows = WordsShow; IsLawful = Lawful; Happens = Becomes }

-- the end as the theory of queues has it: its runs and takings, and the queue that it has seen
abbrev pub part_of : View → QueueView
part_of v = record { queue = positions_of v.seen.object; runs = v.own.runs; takes = v.own.takes }

-- the record with one more run, whose slots are held
abbrev pub with_run : EndRecord → ℕ → List ℕ → EndRecord
with_run d head items = record d {
  runs = d.runs ++ run head items ∷ [];
  held = holding 0 head (length items);
}

-- the record with one more taking, whose slots are held
abbrev pub with_taking : EndRecord → BatchState → ℕ → EndRecord
with_taking d o n = record d {
  takes = d.takes ++ taking (positions_of o) n ∷ [];
  held = holding 2 o.taken n;
}

-- the place of an item that is published
abbrev pub published : ℕ → Cell
published item = record { item = item; stage = 2 }

-- the record with one more run, all of it published
abbrev pub with_put : EndRecord → ℕ → List ℕ → EndRecord
with_put d start items = record d { runs = d.runs ++ record { start = start; places = map published items } ∷ [] }

-- the record with one more taking, of n items from the tail on
abbrev pub with_line : EndRecord → BatchState → ℕ → EndRecord
with_line d o n = record d { takes = d.takes ++ taking (positions_of o) n ∷ [] }

-- the run whose slots an end holds, of which nothing is published
pub record HasRun (d : EndRecord) : Type 0 where
  pub number : ℕ
  pub run : Batch
  pub here : get_elem? d.runs number ≡ some run
  pub start : run.start ≡ d.held.start
  pub long : length run.places ≡ d.held.count
  pub low : (i : ℕ) → i < length run.places → (slice_index_or run.places i blank).stage < 2

-- the record after that run was published: no slots are held
abbrev pub with_published : (d : EndRecord) → HasRun d → EndRecord
with_published d h = record d {
  runs = slice_set d.runs h.number (raised_run h.run 0 (length h.run.places));
  held = no_slots;
}

-- the record with no slots held
abbrev pub with_no_slots : EndRecord → EndRecord
with_no_slots d = record d { held = no_slots }

-- the record with one more parting of a batch
abbrev pub with_parting : EndRecord → EndRecord
with_parting d = record d { parts = d.parts + 1 }

-- the record with one more shut, if the queue was open
abbrev pub with_shutting : EndRecord → Bool → EndRecord
with_shutting d was_open = record d { shuts = d.shuts + (if was_open then 1 else 0) }

-- The view of an end of a chain, and the end's own part of it.
use Rattle.std.specs.Prelude.{false, ◌||◌, ◌&&◌, [], ◌++◌}
use Rattle.table_theory.specs.declared.queues.Positions.{Positions}
use Rattle.table_theory.specs.declared.queues.QueueView.{QueueView}
use Rattle.table_theory.specs.declared.views.EndState.{EndState}
use Rattle.proc_chain.specs.declared.rule.ChainOps.{ChainOps}
use Rattle.proc_chain.specs.declared.rule.GatedQueue.{GatedQueue}

-- the view of an end of a chain: all that the end knows
abbrev pub View : Type 0
View = EndState ChainOps GatedQueue

-- the record of an end that did nothing yet
abbrev pub nothing_did : ChainOps
nothing_did = record { runs = []; takes = []; runner = false; taken = 0; owes = false; saw = false; doubled = false }

-- the records of two ends together: the runs and takings of both, `doubled` if either was or both had the turn, and the
-- rest of the first end
abbrev pub did_both : ChainOps → ChainOps → ChainOps
did_both d e = record {
  runs = d.runs ++ e.runs;
  takes = d.takes ++ e.takes;
  runner = d.runner;
  taken = d.taken;
  owes = d.owes;
  saw = d.saw;
  doubled = d.doubled || e.doubled || (d.runner && e.runner);
}

-- the queue of notes as the end has seen it
abbrev pub queue_of : View → Positions
queue_of v = v.seen.object.queue

-- the end as the theory of queues has it: its runs and takings, and the queue of notes that it has seen
abbrev pub part_of : View → QueueView
part_of v = record {
  queue = v.seen.object.queue;
  runs = v.own.runs;
  takes = v.own.takes;
}

use Rattle.trace_events.proofs.Common.{◌≡◌, ◌+◌, ℕ, List, Option, length, Prints, slice_start, runs_of, runs_events}
use Rattle.trace_events.proofs.turns.print_turns.Given as goal

-- Whoever prints the events of the turns that are left has printed those of all turns. The number is that of the next.
abbrev pub invariant-loop-left : goal.invariant-loop-left
invariant-loop-left g l = record {
  counted : l.number + length l.left ≡ length l.entries;
  printed : (later : Option (List ℕ)) → Prints (g.W.Write.contents l.out) later (runs_events l.plan l.log.bytes (slice_start l.turns) l.processor l.number l.start (runs_of l.left))
      → Prints (g.W.Write.contents l.fn.out) later (runs_events l.plan l.log.bytes (slice_start l.turns) l.processor 0 l.from (runs_of l.entries));
}

abbrev pub decreases-loop-left : goal.decreases-loop-left
decreases-loop-left g l = length l.left

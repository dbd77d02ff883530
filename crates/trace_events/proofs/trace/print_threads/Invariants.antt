use Rattle.trace_events.proofs.Common.{ℕ, List, Option, drop, Prints, numbered_events, thread_events}
use Rattle.trace_events.proofs.trace.print_threads.Given as goal

-- Whoever prints the events of those that are left has printed the events of all.
abbrev pub invariant-loop-number : goal.invariant-loop-number
invariant-loop-number g l = (later : Option (List ℕ)) → Prints (g.W.Write.contents l.out) later (numbered_events thread_events l.number (drop l.number l.threads)) → Prints (g.W.Write.contents l.fn.out) later (numbered_events thread_events 0 l.threads)

use Rattle.trace_events.proofs.Common.{ℕ, List, Option, drop, kept_in, Prints, numbered_events, log_events, slice_start}
use Rattle.trace_events.proofs.trace.print_logs.Given as goal

-- Whoever prints the events of those that are left has printed the events of all.
abbrev pub invariant-loop-processor : goal.invariant-loop-processor
invariant-loop-processor g l = (later : Option (List ℕ)) → Prints (g.W.Write.contents l.out) later (numbered_events (log_events l.plan l.from (slice_start l.turns)) l.processor (kept_in (drop l.processor l.logs))) → Prints (g.W.Write.contents l.fn.out) later (numbered_events (log_events l.plan l.from (slice_start l.turns)) 0 (kept_in l.logs))

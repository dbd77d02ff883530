use Rattle.trace_events.proofs.Common.{ℕ, List, Option, drop, Prints, numbered_events, passing_events, slice_start}
use Rattle.trace_events.proofs.flows.print_passings.Given as goal

-- Whoever prints the events of those that are left has printed the events of all.
abbrev pub invariant-loop-number : goal.invariant-loop-number
invariant-loop-number g l = (later : Option (List ℕ)) → Prints (g.W.Write.contents l.out) later (numbered_events (passing_events (slice_start l.turns)) l.number (drop l.number l.all)) → Prints (g.W.Write.contents l.fn.out) later (numbered_events (passing_events (slice_start l.turns)) 0 l.all)

use Rattle.trace_events.proofs.Common.{◌≡◌, ◌+◌, drop, prefix_len, is_idle}
use Rattle.trace_events.proofs.turns.idle_front.Given as goal

-- The turns so far are all idle.
abbrev pub invariant-loop-count : goal.invariant-loop-count
invariant-loop-count l = prefix_len is_idle l.entries ≡ l.count + prefix_len is_idle (drop l.count l.entries)

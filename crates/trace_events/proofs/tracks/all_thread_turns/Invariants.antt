use Rattle.trace_events.proofs.Common.{◌≡◌, ◌++◌, drop, kept_in, all_thread_turns}
use Rattle.trace_events.proofs.tracks.all_thread_turns.Given as goal

-- with those of the processors that are left, the turns of all threads are in the list
abbrev pub invariant-loop-processor : goal.invariant-loop-processor
invariant-loop-processor l =
    l.all.items ++ all_thread_turns l.from l.processor (kept_in (drop l.processor l.logs)) ≡ all_thread_turns l.from 0 (kept_in l.logs)

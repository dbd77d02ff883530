use Rattle.trace_events.proofs.Common.{◌≡◌, ◌++◌, drop, thread_turns}
use Rattle.trace_events.proofs.tracks.add_thread_turns.Given as goal

-- with those of the turns that are left, all turns of threads are appended
abbrev pub invariant-loop-number : goal.invariant-loop-number
invariant-loop-number l =
    l.all.items ++ thread_turns l.processor l.number l.began (drop l.number l.entries) ≡ l.fn.all.items ++ thread_turns l.processor 0 l.from l.entries

use Rattle.trace_events.proofs.Common.{◌≡◌, ◌-◌, ◌++◌, string_bytes, thread_names, threads_text}
use Rattle.trace_events.proofs.Masks.{spaced}
use Rattle.trace_events.proofs.threads.text_of_threads.Given as goal

-- With the names of the threads that are left, the names of all threads are written.
abbrev pub invariant-loop-number : goal.invariant-loop-number
invariant-loop-number l =
    string_bytes l.text ++ spaced l.is_first (thread_names l.plan l.mask l.number (64 - l.number)) ≡ threads_text l.plan l.mask

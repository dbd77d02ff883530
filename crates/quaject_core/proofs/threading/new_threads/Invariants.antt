use Rattle.quaject_core.proofs.Common.{◌≡◌, [], ◌∷◌, map, repeat, new_thread, thread}
use Rattle.quaject_core.proofs.threading.new_threads.Given as goal

-- So many elements.
abbrev pub invariant-loop : goal.invariant-loop
invariant-loop l = map thread l.threads.items ≡ repeat l.counter (new_thread ∷ [])

use Rattle.quaject_core.proofs.Common.{◌≡◌, ◌++◌, ℕ, List, drop, map, element_statuses, thread}
use Rattle.quaject_core.proofs.Stored.Numbers.{parts}
use Rattle.quaject_core.proofs.placing.statuses.Given as goal

-- The numbers so far, and those of the elements that are left, are all.
abbrev pub invariant-loop-element : goal.invariant-loop-element
invariant-loop-element l = (notified : List ℕ) →
    element_statuses (parts l.threads notified l.rings l.processors l.held) 0 (map thread l.threads)
    ≡ l.statuses.items ++ element_statuses (parts l.threads notified l.rings l.processors l.held) l.element (map thread (drop l.element l.threads))

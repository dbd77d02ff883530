use Rattle.quaject_core.proofs.Common.{◌≡◌, renamed_span}
use Rattle.quaject_core.proofs.Stored.Joins.{changed_up_to}
use Rattle.quaject_core.proofs.queueing.rename.Given as goal

-- The runs so far are renamed.
abbrev pub invariant-loop-run : goal.invariant-loop-run
invariant-loop-run l = l.run-items ≡ changed_up_to (renamed_span l.call l.other) l.run-index l.fn.runs.items

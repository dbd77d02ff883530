use Rattle.boot_view.proofs.Common.{◌≡◌, take, kept_in, logs_in}
use Rattle.boot_view.proofs.viewing.logs_of.Given as goal

abbrev pub invariant-loop-gate : goal.invariant-loop-gate
invariant-loop-gate g l = kept_in l.logs.items ≡ logs_in (take l.gate-index l.gates)

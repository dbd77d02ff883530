use Rattle.boot_script.proofs.Common.{◌≡◌, drop, find}
use Rattle.boot_script.proofs.declared_names.Names.find.Given as goal

-- The name is still to be found among the names that are left.
abbrev pub invariant-loop-named : goal.invariant-loop-named
invariant-loop-named l = find l.kind (drop l.named-index l.named-items) l.name ≡ find l.kind l.self l.name

use Rattle.boot_script.proofs.Common.{◌≡◌, drop, is_declared}
use Rattle.boot_script.proofs.declared_names.Names.has.Given as goal

-- The name is still to be found among the names that are left.
abbrev pub invariant-loop-named : goal.invariant-loop-named
invariant-loop-named l = is_declared (drop l.named-index l.named-items) l.name ≡ is_declared l.self l.name

use Rattle.boot_script.proofs.Common.{◌≡◌, take, count_of}
use Rattle.boot_script.proofs.declared_names.Names.count.Given as goal

-- The names so far are counted.
abbrev pub invariant-loop-named : goal.invariant-loop-named
invariant-loop-named l = l.count ≡ count_of l.kind (take l.named-index l.named-items)

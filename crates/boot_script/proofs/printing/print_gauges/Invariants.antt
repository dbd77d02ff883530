use Rattle.boot_script.proofs.Common.{ℕ, List, Option, drop, Appends, numbered_lines, gauge_line}
use Rattle.boot_script.proofs.printing.print_gauges.Given as goal

-- Whoever appends the lines that are left has appended all lines.
abbrev pub invariant-loop-number : goal.invariant-loop-number
invariant-loop-number g l = (later : Option (List ℕ)) → Appends (g.W.Write.contents l.out) later (numbered_lines gauge_line l.number (drop l.number l.gauges)) → Appends (g.W.Write.contents l.fn.out) later (numbered_lines gauge_line 0 l.gauges)

use Rattle.boot_script.proofs.Common.{ℕ, List, Option, drop, Appends, append_known, flat_map, heard_line}
use Rattle.boot_script.proofs.report_printing.put_heard.Given as goal

-- Whoever appends the lines that are left has appended all lines.
abbrev pub invariant-loop-number : goal.invariant-loop-number
invariant-loop-number g l = (later : Option (List ℕ)) → Appends (append_known (g.W.Write.contents l.out) l.buffer.items) later (flat_map heard_line (drop l.number l.heard)) → Appends (append_known (g.W.Write.contents l.fn.out) l.fn.buffer.items) later (flat_map heard_line l.heard)

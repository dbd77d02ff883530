use Rattle.boot_script.proofs.Common.{ℕ, List, Option, drop, Appends, append_known, flat_map}
use Rattle.boot_script.proofs.report_printing.put_all.Given as goal

-- Whoever appends the lines that are left has appended all lines.
abbrev pub invariant-loop-lines : goal.invariant-loop-lines
invariant-loop-lines g l = (later : Option (List ℕ)) → Appends (append_known (g.W.Write.contents l.out) l.buffer.items) later (flat_map g.L.Lines.text (drop l.lines-index l.all)) → Appends (append_known (g.W.Write.contents l.fn.out) l.fn.buffer.items) later (flat_map g.L.Lines.text l.all)

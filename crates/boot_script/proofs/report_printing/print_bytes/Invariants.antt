use Rattle.boot_script.proofs.Common.{ℕ, List, Option, drop, Appends, heard_text}
use Rattle.boot_script.proofs.report_printing.print_bytes.Given as goal

-- Whoever appends the bytes that are left has appended all bytes.
abbrev pub invariant-loop-byte : goal.invariant-loop-byte
invariant-loop-byte g l = (later : Option (List ℕ)) → Appends (g.W.Write.contents l.out) later (heard_text (drop l.byte-index l.bytes)) → Appends (g.W.Write.contents l.fn.out) later (heard_text l.bytes)

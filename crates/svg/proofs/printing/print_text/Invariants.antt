use Rattle.std.proofs.Common.{ℕ, List, Option, drop}
use Rattle.std.specs.Io.KnownBytes.{Appends}
use Rattle.svg.specs.Forests.{escaped}
use Rattle.svg.proofs.printing.print_text.Given as goal

-- Whoever appends the bytes that are left has appended all bytes.
abbrev pub invariant-loop-byte : goal.invariant-loop-byte
invariant-loop-byte g l = (later : Option (List ℕ)) → Appends (g.W.Write.contents l.out) later (escaped (drop l.byte-index l.text)) → Appends (g.W.Write.contents l.fn.out) later (escaped l.text)

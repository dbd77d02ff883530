use Rattle.processor.proofs.Common.{◌≡◌, take}
use Rattle.processor.proofs.lines.write_line.Given as goal

abbrev pub invariant-loop-byte : goal.invariant-loop-byte
invariant-loop-byte l = l.line.items ≡ take l.byte-index l.byte-items

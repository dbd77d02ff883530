use Rattle.std.proofs.Common.{◌≡◌, take}
use Rattle.spooler.proofs.line.Line.of.Given as goal

abbrev pub invariant-loop-byte : goal.invariant-loop-byte
invariant-loop-byte l = l.items.items ≡ take l.byte-index l.text

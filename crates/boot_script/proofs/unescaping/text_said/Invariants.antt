use Rattle.boot_script.proofs.Common.{length, bytes_of, join_with_byte}
use Rattle.boot_script.proofs.Escaping.Unescaped.{IsReadSoFar}
use Rattle.boot_script.proofs.unescaping.text_said.Given as goal

-- The bytes so far, and those of the text that is left, are those of the text.
abbrev pub invariant-loop-rest : goal.invariant-loop-rest
invariant-loop-rest g l = IsReadSoFar g.row.N l.fits l.text (bytes_of l.rest) (bytes_of (join_with_byte 32 l.fn.words))

abbrev pub decreases-loop-rest : goal.decreases-loop-rest
decreases-loop-rest g l = length l.rest

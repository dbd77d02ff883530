use Rattle.spsc_line.specs.Lines.{IsLine}
use Rattle.spsc_line.proofs.tests.places_come_back.Given as goal

abbrev pub invariant-loop-byte : goal.invariant-loop-byte
invariant-loop-byte g l = IsLine l.input l.output

use Rattle.spsc_line.specs.Lines.{IsLine}
use Rattle.spsc_line.proofs.tests.the_longest_line.Given as goal

abbrev pub invariant-loop : goal.invariant-loop
invariant-loop g l = IsLine l.input l.output

use Rattle.spsc_line.specs.Lines.{SameOut}
use Rattle.spsc_line.proofs.tests.pop_all.Given as goal

abbrev pub invariant-loop : goal.invariant-loop
invariant-loop g l = SameOut l.initial.output l.output

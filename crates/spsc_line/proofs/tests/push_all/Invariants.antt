use Rattle.spsc_line.specs.Lines.{SameIn}
use Rattle.spsc_line.proofs.tests.push_all.Given as goal

abbrev pub invariant-loop : goal.invariant-loop
invariant-loop g l = SameIn l.initial.input l.input

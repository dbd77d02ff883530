use Rattle.turn_io.specs.EndLists.{AreChainEndsOf}
use Rattle.turn_tests.proofs.at_ends.tests.left_to_another.Given as goal

abbrev pub invariant-loop : goal.invariant-loop
invariant-loop g l = AreChainEndsOf l.chains l.ends.items

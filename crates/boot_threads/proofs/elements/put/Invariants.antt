use Rattle.boot_threads.proofs.Common.{[], HoldsSame, IsHandOf, IsSameHand, Moved, view_of}
use Rattle.boot_threads.proofs.elements.put.Given as goal

abbrev pub invariant-loop : goal.invariant-loop
invariant-loop g l = record {
  steps : (goal.iterator-loop g).can_next l.iterator' × (goal.iterator-loop g).is_finite l.iterator';
  its : IsHandOf l.threads l.hand;
  same : IsSameHand l.initial.hand l.hand;
  moved : Moved [] (view_of l.initial.hand) (view_of l.hand);
  holds : HoldsSame (view_of l.initial.hand) (view_of l.hand);
}

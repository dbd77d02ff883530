use Rattle.boot_threads.proofs.Common.{IsHandOf, IsSameHand, TookFree, view_of}
use Rattle.boot_threads.proofs.elements.take_free.Given as goal

abbrev pub invariant-loop : goal.invariant-loop
invariant-loop g l = record {
  steps : (goal.iterator-loop g).can_next l.iterator' × (goal.iterator-loop g).is_finite l.iterator';
  its : IsHandOf l.threads l.hand;
  same : IsSameHand l.initial.hand l.hand;
  took : TookFree (view_of l.initial.hand) (view_of l.hand);
}

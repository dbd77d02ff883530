use Rattle.boot_threads.proofs.Common.{IsHandOf, IsSameHand, TookFree, view_of}
use Rattle.boot_threads.proofs.Handling.{HoldsBelow}
use Rattle.boot_threads.proofs.elements.take_all.Given as goal

abbrev pub invariant-loop-number : goal.invariant-loop-number
invariant-loop-number g l = record {
  its : IsHandOf l.threads l.hand;
  same : IsSameHand l.initial.hand l.hand;
  took : TookFree (view_of l.initial.hand) (view_of l.hand);
  below : HoldsBelow l.number (view_of l.hand);
}

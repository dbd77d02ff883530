use Rattle.boot_threads.proofs.Common.{◌≤◌, ◌-◌, range_with_len, call_of, IsHandOf, IsSameHand, ring_of, claims, Moved, HoldsFrom, view_of}
use Rattle.boot_threads.proofs.elements.put_all.Given as goal

abbrev pub invariant-loop-number : goal.invariant-loop-number
invariant-loop-number g l = record {
  its : IsHandOf l.threads l.hand;
  same : IsSameHand l.initial.hand l.hand;
  past : l.from ≤ l.number;
  moved : Moved (claims (call_of l.initial.hand) (ring_of l.ring) (range_with_len l.from (l.number - l.from))) (view_of l.initial.hand) (view_of l.hand);
  holds : HoldsFrom l.number (view_of l.hand);
}

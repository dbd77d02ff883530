use Rattle.std.proofs.Common.{◌≤◌, ◌+◌, ◌*◌, All}
use Rattle.thread_table.specs.Handles.{view_of, IsHandOf, IsSameHand}
use Rattle.bench.proofs.ring.parts.Given as goal

abbrev pub invariant-loop-number : goal.invariant-loop-number
invariant-loop-number l = record {
  same : IsSameHand l.initial.hand l.hand;
  share : 8 * 2097152 + 2 ≤ (view_of l.hand).member.share + l.number * 2097152;
  passers : All (λ passer. IsHandOf l.table passer.hand) l.passers.items;
}

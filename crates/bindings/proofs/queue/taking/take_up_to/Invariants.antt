use Rattle.bindings.proofs.Calls.{take, TookEach, IsKeptFrom}
use Rattle.bindings.specs.QueueParts.{IsSameEnd, view_of}
use Rattle.bindings.proofs.queue.taking.take_up_to.Given as goal

abbrev pub invariant-loop-i : goal.invariant-loop-i
invariant-loop-i g l = record {
  same : IsSameEnd l.initial.end l.end;
  kept : IsKeptFrom l.i l.initial.out l.out;
  took : TookEach g.row.N (view_of l.initial.end) (take l.i l.out) (view_of l.end);
}

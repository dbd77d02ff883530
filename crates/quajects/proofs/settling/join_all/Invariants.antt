use Rattle.quajects.proofs.Common.{view_of, IsSameEnd, views_of, HasAll}
use Rattle.quajects.proofs.settling.join_all.Given as goal

abbrev pub invariant-loop-other : goal.invariant-loop-other
invariant-loop-other g l = record {
  same : IsSameEnd l.initial.end l.end;
  joined : HasAll (views_of l.initial.end l.yielded) (view_of l.end);
}

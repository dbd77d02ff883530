use Rattle.spooler.proofs.Common.{[], view_of, IsEndOf, HasPut}
use Rattle.spooler.proofs.spool.put_line.Given as goal

abbrev pub invariant-loop : goal.invariant-loop
invariant-loop g l = record {
  steps : (goal.iterator-loop g).can_next l.iterator' × (goal.iterator-loop g).is_finite l.iterator';
  mine : IsEndOf l.queue l.end;
  none : HasPut [] (view_of l.initial.end) (view_of l.end);
}

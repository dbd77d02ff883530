use Rattle.spooler.proofs.Common.{◌≡◌, ◌++◌, map, array_into_iter_items, view_of, IsEndOf, AreEndsOf, Gathered}
use Rattle.spooler.proofs.spool.fn.run_spool.putting.Given as goal

abbrev pub invariant-loop-end : goal.invariant-loop-end
invariant-loop-end g l = record {
  mine : IsEndOf l.shared l.last;
  theirs : AreEndsOf l.shared (array_into_iter_items l.end-iterator);
  all : l.yielded ++ array_into_iter_items l.end-iterator ≡ array_into_iter_items l.initial.end-iterator;
  gathered : Gathered (view_of l.initial.last) (map view_of l.yielded) (view_of l.last);
}

use Rattle.spooler.proofs.Common.{◌≡◌, true, ◌++◌, view_of, IsEndOf, lines_taken, TakesInOrder, KeepsPuts, lines_of}
use Rattle.spooler.proofs.spool.take_lines.Given as goal

abbrev pub invariant-loop : goal.invariant-loop
invariant-loop g l = record {
  steps : (goal.iterator-loop g).can_next l.iterator' × (goal.iterator-loop g).is_finite l.iterator';
  mine : IsEndOf l.queue l.end;
  puts : KeepsPuts (view_of l.fn.end) (view_of l.end);
  order : TakesInOrder (view_of l.fn.end) → TakesInOrder (view_of l.end);
  taken : l.kept ≡ true → lines_taken (view_of l.end) ≡ lines_taken (view_of l.fn.end) ++ lines_of l.lines.items;
}

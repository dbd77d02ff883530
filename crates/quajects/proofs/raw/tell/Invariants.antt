use Rattle.quajects.proofs.Common.{◌≡◌, List, false, LostTry}
use Rattle.table_theory.specs.Seating.{IsSame}
use Rattle.proc_chain.specs.Handles.{turn_of, me_of, IsEndOf}
use Rattle.quajects.proofs.Noting.{WereLost}
use Rattle.quajects.proofs.raw.tell.Given as goal

abbrev pub invariant-loop : goal.invariant-loop
invariant-loop g l = record {
  steps : (goal.iterator-loop g).can_next l.iterator' × (goal.iterator-loop g).is_finite l.iterator';
  mine : IsEndOf l.chain l.end;
  idle : turn_of l.end ≡ false;
  same : IsSame l.initial.end.seat l.end.seat;
  held : (me_of l.end).1 ≡ (me_of l.initial.end).1;
  tried : (lost : List LostTry) × WereLost (me_of l.initial.end).0 lost (me_of l.end).0;
}

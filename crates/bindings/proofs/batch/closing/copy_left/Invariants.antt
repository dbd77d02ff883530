use Rattle.bindings.proofs.Calls.{◌≤◌, take, IsKeptFrom}
use Rattle.bindings.specs.BatchHeld.{PublishedOf}
use Rattle.bindings.proofs.Publishing.{HaveReach}
use Rattle.bindings.proofs.batch.closing.copy_left.Given as goal

abbrev pub invariant-loop-i : goal.invariant-loop-i
invariant-loop-i l = record {
  copied : PublishedOf l.left l.i (take l.copied l.out);
  kept : IsKeptFrom l.copied l.initial.out l.out;
  few : l.copied ≤ l.i;
  reach : HaveReach l.left l.i l.past;
}

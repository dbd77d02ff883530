use Rattle.bindings.proofs.Calls.{◌≡◌, take, map, IsKeptFrom, or_zero}
use Rattle.bindings.proofs.queue.taking.copy_left.Given as goal

abbrev pub invariant-loop-i : goal.invariant-loop-i
invariant-loop-i g l = record {
  copied : take l.i l.out ≡ map or_zero (take l.i l.left-2.items);
  kept : IsKeptFrom l.i l.initial.out l.out;
}

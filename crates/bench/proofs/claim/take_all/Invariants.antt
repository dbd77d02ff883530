use Rattle.std.specs.Prelude.{◌≡◌, []}
use Rattle.claim_queue.specs.Handles.{IsEndOf}
use Rattle.bench.proofs.claim.take_all.Given as goal

abbrev pub invariant-loop : goal.invariant-loop
invariant-loop g l = record {
  mine : IsEndOf l.queue l.end;
  empty : l.line.items ≡ [];
}

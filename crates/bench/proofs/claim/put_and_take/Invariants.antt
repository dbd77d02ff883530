use Rattle.std.specs.Prelude.{◌≡◌, []}
use Rattle.claim_queue.specs.Handles.{IsEndOf}
use Rattle.bench.proofs.claim.put_and_take.Given as goal

abbrev pub invariant-loop : goal.invariant-loop
invariant-loop l = record {
  mine : IsEndOf l.queue l.end;
  empty : l.taken.items ≡ [];
}

use Rattle.bindings.proofs.Calls.{∥∥₁_elim}
use Rattle.bindings.proofs.BatchEnds.{no_power}
use Rattle.bindings.proofs.batch.held.HeldBatch.is_capacity.Goals as goal

pub returns-then-next_power_of_two-places : goal.returns-then-next_power_of_two-places
returns-then-next_power_of_two-places c = let p = c.next_power_of_two in λ is. ∥∥₁_elim is.2 (λ x y. absurd x)
    (no_power c.args.places p.result p.ensures.power p.ensures.lower_bound p.ensures.upper_bound c.if-next_power_of_two-places.true)

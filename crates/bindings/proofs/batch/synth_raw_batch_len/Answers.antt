use Rattle.bindings.proofs.Calls.{◌≡◌, refl, ap, pos, Some, HoldsSome, of_kind, batch_in, at_value}
use Rattle.bindings.specs.BatchHeld.{Counted}
use Rattle.bindings.proofs.batch.synth_raw_batch_len.Goals as goal

pub returns-clause-counted : goal.returns-clause-counted
returns-clause-counted c = at_value (λ x. HoldsSome (Some c.len.new.self) (λ y. Counted c.len.result x y × (pos 0 ≡ pos 0))) (ap (of_kind batch_in) c.in-Some.ensures.value)
    (c.len.new.self, refl, (c.len.ensures, refl))

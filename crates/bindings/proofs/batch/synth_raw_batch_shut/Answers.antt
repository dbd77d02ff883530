use Rattle.bindings.proofs.Calls.{◌≡◌, refl, ap, pos, Some, HoldsSome, of_kind, batch_in, at_value}
use Rattle.bindings.specs.BatchHeld.{WasShut}
use Rattle.bindings.proofs.batch.synth_raw_batch_shut.Goals as goal

pub returns-clause-shut : goal.returns-clause-shut
returns-clause-shut c = at_value (λ x. HoldsSome (Some c.shut.new.self) (λ y. WasShut c.shut.result x y × (pos 0 ≡ pos 0))) (ap (of_kind batch_in) c.in-Some.ensures.value)
    (c.shut.new.self, refl, (c.shut.ensures, refl))

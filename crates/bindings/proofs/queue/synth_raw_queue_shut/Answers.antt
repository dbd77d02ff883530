use Rattle.bindings.proofs.Calls.{◌≡◌, refl, pos, ap, Some, HoldsSome, of_kind, queue_in, at_value}
use Rattle.bindings.specs.QueueParts.{ShutPart}
use Rattle.bindings.specs.QueueHeld.{AtSize}
use Rattle.bindings.proofs.queue.synth_raw_queue_shut.Goals as goal

pub returns-clause-shut : goal.returns-clause-shut
returns-clause-shut c = let s = c.shut in
    at_value (λ x. HoldsSome (Some s.new.self) (λ y. AtSize (ShutPart s.result) x y × (pos 0 ≡ pos 0))) (ap (of_kind queue_in) c.in-Some.ensures.value)
    (s.new.self, refl, (s.ensures, refl))

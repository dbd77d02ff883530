use Rattle.bindings.proofs.Calls.{◌≡◌, refl, ap, pos, Some, HoldsSome, of_kind, seat_in, at_value}
use Rattle.bindings.specs.SeatHeld.{WasClock}
use Rattle.bindings.proofs.seat.synth_raw_seat_clock.Goals as goal

pub returns-clause-loaded : goal.returns-clause-loaded
returns-clause-loaded c = at_value (λ x. HoldsSome (Some c.clock.new.self)
    (λ y. WasClock c.clock.result x y × (pos 0 ≡ pos 0))) (ap (of_kind seat_in) c.in-Some.ensures.value)
    (c.clock.new.self, refl, (c.clock.ensures, refl))

use Rattle.bindings.proofs.Calls.{rules, inr, refl, pos, ap, Some, of_kind, seat_in, at_value}
use Rattle.bindings.specs.SeatCalls.{IsTickCall}
use Rattle.bindings.proofs.seat.synth_raw_seat_tick.Goals as goal

pub returns-clause-ticked : goal.returns-clause-ticked
returns-clause-ticked c = let y = c.tick.new.self in
    at_value (λ x. IsTickCall c.args.gauge c.args.amount c.args.before.now c.tick.result (pos 0) x (Some y)) (ap (of_kind seat_in) c.in-Some.ensures.value)
    (inr (refl, search rules, y, refl, c.tick.ensures))

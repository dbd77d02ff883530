use Rattle.bindings.proofs.Calls.{rules, inr, refl, pos, ap, Some, of_kind, seat_in, at_value}
use Rattle.bindings.specs.SeatCalls.{ReadGauge}
use Rattle.bindings.proofs.seat.synth_raw_seat_gauge.Goals as goal

pub returns-clause-loaded : goal.returns-clause-loaded
returns-clause-loaded c = let y = c.gauge.new.self in
    at_value (λ x. ReadGauge c.args.gauge c.args.value.now c.gauge.result (pos 0) x (Some y))
    (ap (of_kind seat_in) c.in-Some.ensures.value) (inr (refl, search rules, y, refl, c.gauge.ensures))

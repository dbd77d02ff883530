use Rattle.bindings.proofs.Calls.{rules, inr, refl, pos, ap, Some, of_kind, seat_in, at_value}
use Rattle.bindings.specs.SeatCalls.{IsCancelCall}
use Rattle.bindings.proofs.seat.synth_raw_seat_cancel.Goals as goal

pub returns-clause-cancelled : goal.returns-clause-cancelled
returns-clause-cancelled c = let m = c.in-Some-alarm_of in let y = c.cancel.new.self in
    at_value (λ x. IsCancelCall c.args.slot c.args.alarm.now c.args.cancelled.now c.cancel.result (pos 0) x (Some y)) (ap (of_kind seat_in) c.in-Some.ensures.value)
    (inr (refl, search rules, m.ensures.0, m.alarm, m.ensures.1, y, refl, c.cancel.ensures))

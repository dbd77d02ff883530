use Rattle.bindings.proofs.Calls.{refl, ap, Ok, Err, Some, of_kind, seat_in, answered, at_value}
use Rattle.bindings.specs.SeatCalls.{IsAdvanceCall}
use Rattle.bindings.proofs.seat.synth_raw_seat_advance.Goals as goal

pub returns-in-Ok-clause-advanced : goal.returns-in-Ok-clause-advanced
returns-in-Ok-clause-advanced c = let a = c.advance-answer in let t = c.answer_of-in-Ok.ensures in
    at_value (λ x. IsAdvanceCall x c.args.clock.now c.in-Ok.now (Some a.new.self) c.answer_of-in-Ok.result) (ap (of_kind seat_in) c.in-Some.ensures.value)
    (answered a.new.self (Ok c.in-Ok.now) c.in-Ok.ensures (refl, t))

pub returns-in-Err-clause-advanced : goal.returns-in-Err-clause-advanced
returns-in-Err-clause-advanced c = let a = c.advance-answer in let t = c.answer_of_advance.ensures in let r = c.in-Err.refusal in
    at_value (λ x. IsAdvanceCall x c.args.clock.now c.args.clock.now (Some a.new.self) c.answer_of_advance.result) (ap (of_kind seat_in) c.in-Some.ensures.value)
    (answered a.new.self (Err r) c.in-Err.ensures (refl, t))

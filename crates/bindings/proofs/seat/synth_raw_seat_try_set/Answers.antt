use Rattle.bindings.proofs.Calls.{◌<◌, arith, inr, refl, ap, Ok, Err, Some, of_kind, seat_in, answered, at_value}
use Rattle.meters.proofs.Common.{SeatView, NotSet}
use Rattle.meters.specs.declared.alarms.SetRefusal.TheVariants.{NoRoom, Lost}
use Rattle.bindings.specs.SeatHeld.{SetRefusal}
use Rattle.bindings.specs.SeatCalls.{IsSetCall, head_of_set}
use Rattle.bindings.proofs.seat.synth_raw_seat_try_set.Goals as goal

pub returns-in-Ok-clause-set : goal.returns-in-Ok-clause-set
returns-in-Ok-clause-set c = let a = c.try_set-answer in let t = c.answer_of-in-Ok.ensures in let m = c.in-Some-alarm_of in
    at_value (λ x. IsSetCall x c.args.alarm.now c.args.slot.now c.in-Ok.found (Some a.new.self) c.answer_of-in-Ok.result) (ap (of_kind seat_in) c.in-Some.ensures.value)
    (inr (m.ensures.0, (m.alarm, m.ensures.1, answered a.new.self (Ok c.in-Ok.found) c.in-Ok.ensures (refl, t))))

-- the slot in a refusal
set_small : (v w : SeatView) (r : SetRefusal) → NotSet v r w → head_of_set r < 16
set_small v w NoRoom h = omega arith
set_small v w (Lost slot) h = h.5

pub answer_of_set-requires : goal.answer_of_set-requires
answer_of_set-requires c = set_small _ _ c.in-Err.refusal c.in-Err.ensures.1

pub returns-in-Err-clause-set : goal.returns-in-Err-clause-set
returns-in-Err-clause-set c = let a = c.try_set-answer in let t = c.answer_of_set.ensures in let m = c.in-Some-alarm_of in let r = c.in-Err.refusal in
    at_value (λ x. IsSetCall x c.args.alarm.now c.args.slot.now c.args.slot.now (Some a.new.self) c.answer_of_set.result) (ap (of_kind seat_in) c.in-Some.ensures.value)
    (inr (m.ensures.0, (m.alarm, m.ensures.1, answered a.new.self (Err r) c.in-Err.ensures (refl, t))))

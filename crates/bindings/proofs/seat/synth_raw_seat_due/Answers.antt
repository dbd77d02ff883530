use Rattle.bindings.proofs.Calls.{rules, inr, refl, ap, ◌∙◌, pos, map, length, Some, of_kind, seat_in, at_value}
use Rattle.bindings.specs.SeatCalls.{IsDueCall}
use Rattle.bindings.specs.SeatAlarms.{c_alarm}
use Rattle.bindings.proofs.seat.synth_raw_seat_due.Goals as goal

pub returns-clause-due : goal.returns-clause-due
returns-clause-due c = let f = c.due-fired in let t = c.tell_alarms in let s = c.as_slice.ensures.value in
    let many = t.ensures.number ∙ ap length s in let these = t.ensures.effect ∙ ap (map c_alarm) s in
    at_value (λ x. IsDueCall c.args.alarms.now t.new.out c.args.count.now t.result (pos 0) x (Some f.new.self))
    (ap (of_kind seat_in) c.in-Some.ensures.value)
    (inr (refl, search rules, f.result.items, many, these, t.ensures.rest, f.new.self, refl, f.ensures))

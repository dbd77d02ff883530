use Rattle.bindings.proofs.Calls.{inl, inr, refl, ap, pos, length, Some, of_kind, line_out_in, at_value, HeldOut}
use Rattle.bindings.specs.LineCalls.{IsPopCall}
use Rattle.bindings.proofs.line.synth_raw_line_pop.Goals as goal

pub returns-in-Some-answer-clause-popped : goal.returns-in-Some-answer-clause-popped
returns-in-Some-answer-clause-popped c = let e = c.in-Some-answer.ensures in let y : HeldOut = record { line = c.pop-answer.new.self; mark = c.in-Some.held.now.mark } in let old = c.args.byte.now in let byte = c.in-Some-answer.popped in
    at_value (λ x. IsPopCall x old byte (Some y) (pos 0)) (ap (of_kind line_out_in) c.in-Some.ensures.value)
    (y, refl, (e.line, refl), inr (refl, e.some))

pub returns-in-None-clause-popped : goal.returns-in-None-clause-popped
returns-in-None-clause-popped c = let e = c.in-None.ensures in let y : HeldOut = record { line = c.pop-answer.new.self; mark = c.in-Some.held.now.mark } in let old = c.args.byte.now in
    at_value (λ x. IsPopCall x old old (Some y) (pos 7)) (ap (of_kind line_out_in) c.in-Some.ensures.value)
    (y, refl, (e.line, refl), inl (refl, e.none.0, ap length e.none.1, refl))

use Rattle.bindings.proofs.Calls.{inl, inr, refl, pos, ap, Some, of_kind, line_in_in, at_value, no_answer, HeldIn}
use Rattle.bindings.specs.LineCalls.{IsPushCall}
use Rattle.bindings.proofs.line.synth_raw_line_push.Goals as goal

pub returns-in-Ok-clause-pushed : goal.returns-in-Ok-clause-pushed
returns-in-Ok-clause-pushed c = let e = c.in-Ok.ensures in let y : HeldIn = record { line = c.push-answer.new.self; mark = c.in-Some.held.now.mark } in
    at_value (λ x. IsPushCall x c.args.byte (Some y) (pos 0)) (ap (of_kind line_in_in) c.in-Some.ensures.value)
    (y, refl, (e.line, refl), inr (refl, e.ok))

pub returns-in-Err-clause-pushed : goal.returns-in-Err-clause-pushed
returns-in-Err-clause-pushed c = let e = c.in-Err.ensures in let y : HeldIn = record { line = c.push-answer.new.self; mark = c.in-Some.held.now.mark } in
    at_value (λ x. IsPushCall x c.args.byte (Some y) (pos 5)) (ap (of_kind line_in_in) c.in-Some.ensures.value)
    (y, refl, (e.line, refl), inl (refl, e.refused.0, e.refused.1, λ l. no_answer (e.first l)))

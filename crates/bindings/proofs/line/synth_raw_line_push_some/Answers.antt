use Rattle.bindings.proofs.Calls.{◌≡◌, ◌<◌, ◌≤◌, ℕ, zero, inl, inr, refl, sym, pos, ap, arith, rules, Some, length, of_kind, line_in_in, at_value, HeldIn}
use Rattle.spsc_line.specs.Lines.{bytes_sent, capacity_in, known_room}
use Rattle.bindings.specs.LineCalls.{IsPushSomeCall}
use Rattle.bindings.proofs.Runs.{none_passed}
use Rattle.bindings.proofs.line.synth_raw_line_push_some.Goals as goal

pub returns-then-given-eq0-clause-pushed : goal.returns-then-given-eq0-clause-pushed
returns-then-given-eq0-clause-pushed c = let y : HeldIn = c.in-Some.held.now in let n = c.args.count.now in let none : length c.args.bytes.now ≡ 0 = search rules in
    at_value (λ x. IsPushSomeCall x c.args.bytes.now n n (Some y) (pos 1)) (ap (of_kind line_in_in) c.in-Some.ensures.value)
    (y, refl, (((refl, refl, refl, refl), refl), refl), inl (refl, none, refl, refl))

pub returns-then-pushed-eq0-clause-pushed : goal.returns-then-pushed-eq0-clause-pushed
returns-then-pushed-eq0-clause-pushed c = let e = c.push_some-pushed.ensures in let y : HeldIn = record { line = c.push_some-pushed.new.self; mark = c.in-Some.held.now.mark } in
    let x : HeldIn = c.in-Some.held.now in let n = c.args.count.now in let bytes = c.args.bytes.now in let r : ℕ = c.push_some-pushed.result in
    let none : r ≡ 0 = c.if-pushed-eq0.true in let some : 0 < length bytes = search rules in let few : r < length bytes = omega arith in
    let known = e.succeeds few in let after = e.full few in let first = e.first few in let room : known_room x.line ≡ 0 = omega arith in let full : capacity_in x.line ≤ length (bytes_sent x.line) = omega arith in
    at_value (λ x. IsPushSomeCall x bytes n n (Some y) (pos 5)) (ap (of_kind line_in_in) c.in-Some.ensures.value)
    (y, refl, (e.line, refl), inr (inl (refl, some, (none_passed r (bytes_sent y.line) (bytes_sent x.line) bytes none e.sent.0, omega arith), room, full, refl)))

pub returns-clause-pushed : goal.returns-clause-pushed
returns-clause-pushed c = let e = c.push_some-pushed.ensures in let y : HeldIn = record { line = c.push_some-pushed.new.self; mark = c.in-Some.held.now.mark } in
    let n = c.args.count.now in let bytes = c.args.bytes.now in let r : ℕ = c.push_some-pushed.result in let some : 0 < r = search rules in
    at_value (λ x. IsPushSomeCall x bytes n r (Some y) (pos 0)) (ap (of_kind line_in_in) c.in-Some.ensures.value)
    (y, refl, (e.line, refl), inr (inr (refl, some, e.within, e.sent, λ few. (e.succeeds few, e.full few, e.first few))))

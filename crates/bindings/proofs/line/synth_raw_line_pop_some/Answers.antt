use Rattle.bindings.proofs.Calls.{◌≡◌, ◌∙◌, ◌<◌, ◌≤◌, ℕ, List, [], inl, inr, refl, sym, pos, ap, arith, rules, Some, length, take, of_kind, line_out_in, at_value, HeldOut}
use Rattle.spsc_line.specs.Lines.{bytes_received, known_bytes}
use Rattle.bindings.specs.Codes.{ShortBuffer}
use Rattle.bindings.specs.LineCalls.{IsPopSomeCall}
use Rattle.bindings.proofs.Runs.{none_filled, none_known, none_passed}
use Rattle.bindings.proofs.line.synth_raw_line_pop_some.Goals as goal

pub returns-then-room-eq0-clause-popped : goal.returns-then-room-eq0-clause-popped
returns-then-room-eq0-clause-popped c = let y : HeldOut = c.in-Some.held.now in let n = c.args.count.now in let bytes = c.args.bytes.now in let none : length bytes ≡ 0 = search rules in
    at_value (λ x. IsPopSomeCall x bytes bytes n n (Some y) ShortBuffer) (ap (of_kind line_out_in) c.in-Some.ensures.value)
    (y, refl, (((refl, refl, refl, refl), refl), refl), inl (refl, none, refl, refl, refl))

pub returns-then-popped-eq0-clause-popped : goal.returns-then-popped-eq0-clause-popped
returns-then-popped-eq0-clause-popped c = let e = c.pop_some-popped.ensures in let y : HeldOut = record { line = c.pop_some-popped.new.self; mark = c.in-Some.held.now.mark } in
    let x : HeldOut = c.in-Some.held.now in let n = c.args.count.now in let old = c.args.bytes.now in let new = c.pop_some-popped.new.bytes in let r : ℕ = c.pop_some-popped.result in
    let none : r ≡ 0 = c.if-popped-eq0.true in let some : 0 < length old = search rules in let few : r < length old = omega arith in
    let known = e.succeeds few in let before : known_bytes x.line ≡ [] = none_known (known_bytes x.line) (omega arith) in
    at_value (λ x. IsPopSomeCall x old new n n (Some y) (pos 7)) (ap (of_kind line_out_in) c.in-Some.ensures.value)
    (y, refl, (e.line, refl), inr (inl (refl, some, (none_passed r (bytes_received y.line) (bytes_received x.line) new none e.received.0, e.empty few ∙ sym before), before, none_filled r new old none e.rest, refl)))

pub returns-clause-popped : goal.returns-clause-popped
returns-clause-popped c = let e = c.pop_some-popped.ensures in let y : HeldOut = record { line = c.pop_some-popped.new.self; mark = c.in-Some.held.now.mark } in
    let n = c.args.count.now in let old = c.args.bytes.now in let new = c.pop_some-popped.new.bytes in let r : ℕ = c.pop_some-popped.result in let some : 0 < r = search rules in
    at_value (λ x. IsPopSomeCall x old new n r (Some y) (pos 0)) (ap (of_kind line_out_in) c.in-Some.ensures.value)
    (y, refl, (e.line, refl), inr (inr (refl, some, e.within, e.received, e.rest, e.empty)))

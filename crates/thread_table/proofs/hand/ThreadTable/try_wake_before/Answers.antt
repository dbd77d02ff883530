use Rattle.thread_table.proofs.Common.{rules, ℕ, Found, tail_word, RINGS, WAITS, arith, ◌≡◌, ◌+◌, ◌<◌, ◌≤◌, sym, ap, subst, ◌∙◌, Ok, Err, Some, None, Result, Option, NextRefusal, call_of, view_of, wait_ring, TakeAnswer, BeforeAnswer}
use Rattle.std.specs.Result.{IsErrAnd}
use Rattle.thread_table.proofs.Events.Waking.{has_reached, took_before, missed_before}
use Rattle.thread_table.proofs.ClientWakes.{before_effect, before_reached, before_found, before_refused}
use Rattle.thread_table.proofs.Hands.Unchanged.{before_keeps}
use Rattle.std.specs.Prelude.{IfOk, IfErr}
use Rattle.thread_table.specs.Client.{TookOldest, WhyNotTaken, WhyNotBefore, BeforeFound}
use Rattle.thread_table.proofs.ClientBounds.{before_bound}
use Rattle.thread_table.proofs.hand.ThreadTable.try_wake_before.Goals as goal

err_is : {A E : Type 0} (z : Result A E) (e : E) → IsErrAnd z (λ x. x ≡ e) → z ≡ Err e
err_is (Ok x) e is = absurd is
err_is (Err x) e is = ap Err is

pub returns-then-from-reached-clause-trace : goal.returns-then-from-reached-clause-trace
returns-then-from-reached-clause-trace c = let h = c.args.hand.now in let u = c.load_tail-reached.new.seat.me.0 in let ring : c.wait_ring-ring.result ≡ wait_ring c.args.wait = c.wait_ring-ring.ensures.0 ∙ ap (λ (k : ℕ). k + 2) c.number.ensures.value in
    let reached : c.args.head ≤ c.load_tail-reached.result = search rules in
    subst (λ (k : ℕ). BeforeAnswer (call_of h) (view_of h) k c.args.head (Ok None) u) ring (has_reached (call_of h) c.wait_ring-ring.result c.args.head c.load_tail-reached.result (view_of h) u c.load_tail-reached.ensures.found reached)

pub returns-in_err-element-clause-trace : goal.returns-in_err-element-clause-trace
returns-in_err-element-clause-trace c = let h = c.args.hand.now in let u = c.load_tail-reached.new.seat.me.0 in let w = view_of c.take_first.new.hand in let r : NextRefusal = c.in_err-element.field-0.0 in
    let ring : c.wait_ring-ring.result ≡ wait_ring c.args.wait = c.wait_ring-ring.ensures.0 ∙ ap (λ (k : ℕ). k + 2) c.number.ensures.value in
    let below : c.load_tail-reached.result < c.args.head = search rules in
    let missed = subst (λ (k : ℕ). TakeAnswer k u c.wait_ring-ring.result (Err r) w) c.load_tail-reached.ensures.queue.0.1 c.in_err-element.ensures.trace in
    subst (λ (z : Result (Option ℕ) NextRefusal). BeforeAnswer (call_of h) (view_of h) (wait_ring c.args.wait) c.args.head z w) (sym (err_is c.from_residual.result r c.from_residual.ensures.1))
    (subst (λ (k : ℕ). BeforeAnswer (call_of h) (view_of h) k c.args.head (Err r) w) ring (missed_before (call_of h) c.wait_ring-ring.result c.args.head c.load_tail-reached.result (view_of h) u w r c.load_tail-reached.ensures.found below missed))

pub returns-clause-trace : goal.returns-clause-trace
returns-clause-trace c = let h = c.args.hand.now in let u = c.load_tail-reached.new.seat.me.0 in let w = view_of c.take_first.new.hand in let e : ℕ = c.in_ok-element.element in
    let ring : c.wait_ring-ring.result ≡ wait_ring c.args.wait = c.wait_ring-ring.ensures.0 ∙ ap (λ (k : ℕ). k + 2) c.number.ensures.value in
    let below : c.load_tail-reached.result < c.args.head = search rules in
    let took = subst (λ (k : ℕ). TakeAnswer k u c.wait_ring-ring.result (Ok e) w) c.load_tail-reached.ensures.queue.0.1 c.in_ok-element.ensures.trace in
    subst (λ (k : ℕ). BeforeAnswer (call_of h) (view_of h) k c.args.head (Ok (Some e)) w) ring (took_before (call_of h) c.wait_ring-ring.result c.args.head c.load_tail-reached.result e (view_of h) u w c.load_tail-reached.ensures.found below took)

pub returns-then-from-reached-clause-effect : goal.returns-then-from-reached-clause-effect
returns-then-from-reached-clause-effect c = before_effect (call_of c.args.hand.now) (wait_ring c.args.wait) c.args.head _ _ (Ok None) (returns-then-from-reached-clause-trace c)

pub returns-then-from-reached-clause-frame : goal.returns-then-from-reached-clause-frame
returns-then-from-reached-clause-frame c = before_keeps (call_of c.args.hand.now) (wait_ring c.args.wait) c.args.head _ _ (Ok None) (returns-then-from-reached-clause-trace c)

pub returns-in_err-element-clause-effect : goal.returns-in_err-element-clause-effect
returns-in_err-element-clause-effect c = before_effect (call_of c.args.hand.now) (wait_ring c.args.wait) c.args.head _ _ c.from_residual.result (returns-in_err-element-clause-trace c)

pub returns-in_err-element-clause-frame : goal.returns-in_err-element-clause-frame
returns-in_err-element-clause-frame c = before_keeps (call_of c.args.hand.now) (wait_ring c.args.wait) c.args.head _ _ c.from_residual.result (returns-in_err-element-clause-trace c)

pub returns-clause-effect : goal.returns-clause-effect
returns-clause-effect c = before_effect (call_of c.args.hand.now) (wait_ring c.args.wait) c.args.head _ _ (Ok (Some c.in_ok-element.element)) (returns-clause-trace c)

pub returns-clause-frame : goal.returns-clause-frame
returns-clause-frame c = before_keeps (call_of c.args.hand.now) (wait_ring c.args.wait) c.args.head _ _ (Ok (Some c.in_ok-element.element)) (returns-clause-trace c)

pub returns-then-from-reached-clause-result : goal.returns-then-from-reached-clause-result
returns-then-from-reached-clause-result c = let low : c.args.wait < WAITS = search rules in let below : wait_ring c.args.wait < RINGS = omega arith in
    before_reached (call_of c.args.hand.now) (wait_ring c.args.wait) c.args.head _ _ below c.load_tail-reached.ensures.found.valid (returns-then-from-reached-clause-trace c)

pub returns-in_err-element-clause-result : goal.returns-in_err-element-clause-result
returns-in_err-element-clause-result c = let r : NextRefusal = c.in_err-element.field-0.0 in let w = view_of c.take_first.new.hand in
    subst (λ (z : Result (Option ℕ) NextRefusal). IfOk z (λ taken. BeforeFound (call_of c.args.hand.now) (wait_ring c.args.wait) c.args.head taken (view_of c.args.hand.now) w)) (sym (err_is c.from_residual.result r c.from_residual.ensures.1)) tt

pub returns-in_err-element-clause-error : goal.returns-in_err-element-clause-error
returns-in_err-element-clause-error c = let r : NextRefusal = c.in_err-element.field-0.0 in let v = view_of c.args.hand.now in let u = c.load_tail-reached.new.seat.me.0 in let w = view_of c.take_first.new.hand in let look = c.load_tail-reached.ensures.found in
    let low : c.args.wait < WAITS = search rules in let below : wait_ring c.args.wait < RINGS = omega arith in
    let ring : c.wait_ring-ring.result ≡ wait_ring c.args.wait = c.wait_ring-ring.ensures.0 ∙ ap (λ (k : ℕ). k + 2) c.number.ensures.value in
    let found : WhyNotTaken (wait_ring c.args.wait) r u w = subst (λ (k : ℕ). WhyNotTaken k r u w) ring c.in_err-element.ensures.error in
    subst (λ (z : Result (Option ℕ) NextRefusal). IfErr z (λ refusal. WhyNotBefore (wait_ring c.args.wait) c.args.head refusal v w)) (sym (err_is c.from_residual.result r c.from_residual.ensures.1))
    (before_refused v u w (wait_ring c.args.wait) c.args.head c.load_tail-reached.result r below (subst (λ (k : ℕ). Found v (tail_word k) c.load_tail-reached.result u) ring look) (search rules) found)

pub returns-clause-result : goal.returns-clause-result
returns-clause-result c = let e : ℕ = c.in_ok-element.element in let v = view_of c.args.hand.now in let u = c.load_tail-reached.new.seat.me.0 in let w = view_of c.take_first.new.hand in let found = c.load_tail-reached.ensures.found in
    let low : c.args.wait < WAITS = search rules in let below : wait_ring c.args.wait < RINGS = omega arith in
    let ring : c.wait_ring-ring.result ≡ wait_ring c.args.wait = c.wait_ring-ring.ensures.0 ∙ ap (λ (k : ℕ). k + 2) c.number.ensures.value in
    let took : TookOldest (call_of c.args.hand.now) c.wait_ring-ring.result e u w = subst (λ (k : ℕ). TookOldest k c.wait_ring-ring.result e u w) c.load_tail-reached.ensures.queue.0.1 c.in_ok-element.ensures.result in
    before_found v u w (call_of c.args.hand.now) (wait_ring c.args.wait) c.args.head c.load_tail-reached.result e below (subst (λ (k : ℕ). Found v (tail_word k) c.load_tail-reached.result u) ring found) (search rules) (subst (λ (k : ℕ). TookOldest (call_of c.args.hand.now) k e u w) ring took)

pub returns-then-from-reached-clause-steps : goal.returns-then-from-reached-clause-steps
returns-then-from-reached-clause-steps c = before_bound c.args.hand.now.seat.id (wait_ring c.args.wait) c.args.head _ _ (Ok None) (returns-then-from-reached-clause-trace c)

pub returns-in_err-element-clause-steps : goal.returns-in_err-element-clause-steps
returns-in_err-element-clause-steps c = before_bound c.args.hand.now.seat.id (wait_ring c.args.wait) c.args.head _ _ (c.from_residual.result) (returns-in_err-element-clause-trace c)

pub returns-clause-steps : goal.returns-clause-steps
returns-clause-steps c = before_bound c.args.hand.now.seat.id (wait_ring c.args.wait) c.args.head _ _ (Ok (Some c.in_ok-element.element)) (returns-clause-trace c)

use Rattle.thread_table.proofs.Common.{Ok, Err, rules, [], ◌≡◌, ◌<◌, ◌∙◌, ℕ, set, true, subst, sym, ap, transport, View, call_of, view_of, take_event, tail_word, HandDid, merely, ELEMENTS, TakeAnswer, arith}
use Rattle.thread_table.proofs.Events.Answering.{not_raised, passed_by, taken_first}
use Rattle.thread_table.specs.declared.takings.NextRefusal.TheVariants as nexts
use Rattle.thread_table.proofs.Clients.{take_effect, take_result, take_error}
use Rattle.thread_table.proofs.Hands.Unchanged.{take_keeps, alike_by_look, alike_by_both}
use Rattle.thread_table.proofs.ClientBounds.{take_bound}
use Rattle.thread_table.proofs.hand.ThreadTable.take_first.Goals as goal
use Rattle.thread_table.proofs.hand.ThreadTable.take_first.Goals.{After-new}

pub returns-then-now-tail-clause-trace : goal.returns-then-now-tail-clause-trace
returns-then-now-tail-clause-trace c = let t = c.load_tail-tail.ensures in let p = c.load_place.ensures in let n = c.load_tail-now.ensures in let bounded : c.of-place.result.element < 256 = search rules in
    not_raised c.args.hand.now.seat.id _ _ _ _ _ _ _ c.of-place.result.element c.of-place.result.mark _ t.found p.found n.found c.of-place.ensures bounded c.if-place-tail.true c.if-now-tail.true

pub returns-then-place-tail-clause-trace : goal.returns-then-place-tail-clause-trace
returns-then-place-tail-clause-trace c = let t = c.load_tail-tail.ensures in let p = c.load_place.ensures in let n = c.load_tail-now.ensures in
    passed_by c.args.hand.now.seat.id _ _ _ _ _ _ _ _ t.found p.found n.found t.tail n.tail c.if-now-tail.false

pub returns-then-found-tail-clause-trace : goal.returns-then-found-tail-clause-trace
returns-then-found-tail-clause-trace c = let t = c.load_tail-tail.ensures in let p = c.load_place.ensures in let e = c.exchange_tail-found.ensures.miss c.if-found-tail.true in
    passed_by c.args.hand.now.seat.id _ _ _ _ _ _ _ _ t.found p.found e.0 t.tail e.1 c.if-found-tail.true

-- what the three steps of the taking say
taken : (c : After-new) → (c.of-place.result.element < ELEMENTS) × TakeAnswer (call_of c.args.hand.now) (view_of c.args.hand.now) c.args.ring (Ok c.of-place.result.element) c.exchange_tail-found.new.seat.me.0
taken c = let t = c.load_tail-tail.ensures in let p = c.load_place.ensures in let x = c.of-place.result in let h = c.args.hand.now in let w = c.exchange_tail-found.new.seat.me.0 in let id = p.queue.0.1 ∙ t.queue.0.1 in let bounded : x.element < 256 = search rules in
    let d = transport (λ i. HandDid (id i) c.load_place.new.seat.me.0 (tail_word c.args.ring) c.load_tail-tail.result (take_event (id i) c.args.ring) w) (c.exchange_tail-found.ensures.hit c.if-found-tail.false) in
    taken_first _ _ _ _ _ _ _ _ x.element x.mark c.requires.1 t.found p.found t.tail p.place c.of-place.ensures bounded c.if-place-tail.false d

pub invariant_of-hand-2 : goal.invariant_of-hand-2
invariant_of-hand-2 c = let t = c.load_tail-tail.ensures in let p = c.load_place.ensures in let h = c.args.hand.now in let e = c.exchange_tail-found.ensures in let has = (taken c.before.before.before.before).1.8.has in let is : c.number.result ≡ c.of-place.result.element = search rules in record {
  bare = e.queue.1 ∙ (p.queue.1 ∙ (t.queue.1 ∙ h.bare));
  one = ap (λ (z : View). z.member.ends) has ∙ h.one;
  none = ap (λ (z : View). z.own.claimed) has ∙ h.none;
  fresh = ap (λ (z : View). z.own.fresh) has;
  holding = c.set.ensures ∙ ((λ i. set (h.holding i) (is i) true) ∙ sym (ap (λ (z : View). z.own.held) has));
  serving = h.serving ∙ sym (ap (λ (z : View). z.own.serves) has);
  putting = h.putting ∙ sym (ap (λ (z : View). z.own.on) has);
  valid = merely (e.hit c.if-found-tail.false).step.valid;
  stands = e.stands;
}

pub unreachable-requires : goal.unreachable-requires
unreachable-requires c = let known : c.of-place.result.element < ELEMENTS = (taken c.before).0 in search rules

pub returns-clause-trace : goal.returns-clause-trace
returns-clause-trace c = let is : c.in-Some.element ≡ c.of-place.result.element = search rules in let h = c.args.hand.now in
    subst (λ (n : ℕ). TakeAnswer (call_of h) (view_of h) c.args.ring (Ok n) c.exchange_tail-found.new.seat.me.0) (sym is) (taken c.before.before.before.before.before).1

pub returns-then-now-tail-clause-effect : goal.returns-then-now-tail-clause-effect
returns-then-now-tail-clause-effect c = take_effect [] c.args.hand.now.seat.id c.args.ring _ _ (Err nexts.NoneReady) tt (returns-then-now-tail-clause-trace c)

pub returns-then-now-tail-clause-frame : goal.returns-then-now-tail-clause-frame
returns-then-now-tail-clause-frame c = take_keeps c.args.hand.now.seat.id c.args.ring _ _ (Err nexts.NoneReady) (returns-then-now-tail-clause-trace c)

pub returns-then-now-tail-clause-error : goal.returns-then-now-tail-clause-error
returns-then-now-tail-clause-error c = take_error [] c.args.hand.now.seat.id c.args.ring _ _ c.requires.1 c.load_tail-now.ensures.found.valid (Err nexts.NoneReady) (returns-then-now-tail-clause-trace c)

pub returns-then-place-tail-clause-effect : goal.returns-then-place-tail-clause-effect
returns-then-place-tail-clause-effect c = take_effect [] c.args.hand.now.seat.id c.args.ring _ _ (Err (nexts.Lost c.load_tail-now.result)) tt (returns-then-place-tail-clause-trace c)

pub returns-then-place-tail-clause-frame : goal.returns-then-place-tail-clause-frame
returns-then-place-tail-clause-frame c = take_keeps c.args.hand.now.seat.id c.args.ring _ _ (Err (nexts.Lost c.load_tail-now.result)) (returns-then-place-tail-clause-trace c)

pub returns-then-place-tail-clause-error : goal.returns-then-place-tail-clause-error
returns-then-place-tail-clause-error c = take_error [] c.args.hand.now.seat.id c.args.ring _ _ c.requires.1 c.load_tail-now.ensures.found.valid (Err (nexts.Lost c.load_tail-now.result)) (returns-then-place-tail-clause-trace c)

pub returns-then-found-tail-clause-effect : goal.returns-then-found-tail-clause-effect
returns-then-found-tail-clause-effect c = take_effect [] c.args.hand.now.seat.id c.args.ring _ _ (Err (nexts.Lost c.exchange_tail-found.result)) tt (returns-then-found-tail-clause-trace c)

pub returns-then-found-tail-clause-frame : goal.returns-then-found-tail-clause-frame
returns-then-found-tail-clause-frame c = take_keeps c.args.hand.now.seat.id c.args.ring _ _ (Err (nexts.Lost c.exchange_tail-found.result)) (returns-then-found-tail-clause-trace c)

pub returns-then-found-tail-clause-error : goal.returns-then-found-tail-clause-error
returns-then-found-tail-clause-error c = let e = c.exchange_tail-found.ensures.miss c.if-found-tail.true in take_error [] c.args.hand.now.seat.id c.args.ring _ _ c.requires.1 e.0.valid (Err (nexts.Lost c.exchange_tail-found.result)) (returns-then-found-tail-clause-trace c)

pub returns-clause-effect : goal.returns-clause-effect
returns-clause-effect c = take_effect [] c.args.hand.now.seat.id c.args.ring _ _ (Ok c.in-Some.element) tt (returns-clause-trace c)

pub returns-clause-frame : goal.returns-clause-frame
returns-clause-frame c = take_keeps c.args.hand.now.seat.id c.args.ring _ _ (Ok c.in-Some.element) (returns-clause-trace c)

pub returns-clause-result : goal.returns-clause-result
returns-clause-result c = let e = c.exchange_tail-found.ensures.hit c.if-found-tail.false in take_result [] c.args.hand.now.seat.id c.args.ring _ _ c.requires.1 e.step.valid (Ok c.in-Some.element) (returns-clause-trace c)

pub returns-then-now-tail-clause-steps : goal.returns-then-now-tail-clause-steps
returns-then-now-tail-clause-steps c = take_bound 3 [] c.args.hand.now.seat.id c.args.ring _ _ (Err nexts.NoneReady) (omega arith) (returns-then-now-tail-clause-trace c)

pub returns-then-place-tail-clause-steps : goal.returns-then-place-tail-clause-steps
returns-then-place-tail-clause-steps c = take_bound 3 [] c.args.hand.now.seat.id c.args.ring _ _ (Err (nexts.Lost c.load_tail-now.result)) (omega arith) (returns-then-place-tail-clause-trace c)

pub returns-then-found-tail-clause-steps : goal.returns-then-found-tail-clause-steps
returns-then-found-tail-clause-steps c = take_bound 3 [] c.args.hand.now.seat.id c.args.ring _ _ (Err (nexts.Lost c.exchange_tail-found.result)) (omega arith) (returns-then-found-tail-clause-trace c)

pub returns-clause-steps : goal.returns-clause-steps
returns-clause-steps c = take_bound 3 [] c.args.hand.now.seat.id c.args.ring _ _ (Ok c.in-Some.element) (omega arith) (returns-clause-trace c)

pub invariant_of-hand : goal.invariant_of-hand
invariant_of-hand c = let h = c.args.hand.now in let t = c.load_tail-tail.ensures in let p = c.load_place.ensures in let n = c.load_tail-now.ensures in let s = alike_by_both _ _ _ (alike_by_both _ _ _ (alike_by_look _ _ _ t.found.acts) (alike_by_look _ _ _ p.found.acts)) (alike_by_look _ _ _ n.found.acts) in record { bare = n.queue.1 ∙ (p.queue.1 ∙ (t.queue.1 ∙ h.bare)); one = s.ends ∙ h.one; none = s.claimed ∙ h.none; fresh = s.fresh; holding = h.holding ∙ sym s.held; serving = h.serving ∙ sym s.serves; putting = h.putting ∙ sym s.on; valid = merely n.found.valid; stands = n.stands }

pub invariant_of-hand-then-found-tail : goal.invariant_of-hand-then-found-tail
invariant_of-hand-then-found-tail c = let h = c.args.hand.now in let t = c.load_tail-tail.ensures in let p = c.load_place.ensures in let x = c.exchange_tail-found.ensures in let e = (x.miss c.if-found-tail.true).0 in let s = alike_by_both _ _ _ (alike_by_both _ _ _ (alike_by_look _ _ _ t.found.acts) (alike_by_look _ _ _ p.found.acts)) (alike_by_look _ _ _ e.acts) in record { bare = x.queue.1 ∙ (p.queue.1 ∙ (t.queue.1 ∙ h.bare)); one = s.ends ∙ h.one; none = s.claimed ∙ h.none; fresh = s.fresh; holding = h.holding ∙ sym s.held; serving = h.serving ∙ sym s.serves; putting = h.putting ∙ sym s.on; valid = merely e.valid; stands = x.stands }

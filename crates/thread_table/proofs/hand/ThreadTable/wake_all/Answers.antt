use Rattle.thread_table.proofs.Common.{rules, ℕ, WAITS, View, ◌≡◌, ◌+◌, ◌<◌, ◌≤◌, sym, ap, subst, ◌∙◌, Ok, Err, transport, call_of, view_of, head_word, tail_word, wait_ring, HandDid, Found, TakeAnswer, merely, refl}
use Rattle.event_theory.specs.declared.event.Event.TheVariants as events
use Rattle.thread_table.proofs.Events.Answering.{word_parts}
use Rattle.thread_table.proofs.Events.Waking.{Rounds, rounds_none, rounds_took, rounds_missed, woke_all}
use Rattle.thread_table.proofs.ClientWakes.{wake_effect, wake_result, wake_bound, wake_keeps}
use Rattle.thread_table.proofs.Hands.Unchanged.{alike_by_look, alike_by_event}
use Rattle.thread_table.proofs.ClientTries.{wake_tries}
use Rattle.thread_table.proofs.hand.ThreadTable.wake_all.Goals as goal

pub loop-init : goal.loop-init
loop-init g c = let h = c.args.hand.now in let n = c.number-2.ensures.value in record {
  steps = search rules;
  same = search rules;
  rounds = rounds_none _ _ _ _ _ _ (transport (λ i. HandDid (call_of h) (view_of h) (head_word (wait_ring (n i))) c.add_notify-word.result (events.NotifyWait (call_of h) (n i)) c.add_notify-word.new.seat.me.0) c.add_notify-word.ensures.effect);
}

pub returns-then-tail-head-clause-trace : goal.returns-then-tail-head-clause-trace
returns-then-tail-head-clause-trace g c = let h = c.args.hand.now in let l = c.loop.hand.seat.me.0 in let w = c.load_tail-tail.new.seat.me.0 in let head = (word_parts _ _ c.of-head.result.mark c.of-head.ensures.0 c.of-head.ensures.1).0 in
    let ring : c.wait_ring-ring.result ≡ wait_ring c.args.wait = c.wait_ring-ring.ensures.0 ∙ ap (λ (k : ℕ). k + 2) c.number.ensures.value in
    woke_all _ _ _ _ _ _ l w (transport (λ i. Rounds (call_of h) c.args.wait (ring i) c.add_notify-word.result (view_of h) c.loop.woken l) c.loop.invariant.rounds)
    (transport (λ i. Found l (tail_word (ring i)) c.load_tail-tail.result w) c.load_tail-tail.ensures.found) (subst (λ (k : ℕ). k ≤ c.load_tail-tail.result) (sym head) c.if-tail-head.true)

pub loop-preserved-in-Ok : goal.loop-preserved-in-Ok
loop-preserved-in-Ok g c = let v = c.load_tail-tail.new.seat.me.0 in let id = c.load_tail-tail.ensures.queue.0.1 ∙ c.loop.invariant.same.1 in let n = c.number-in-Ok.ensures in
    let head = (word_parts _ _ c.of-head.result.mark c.of-head.ensures.0 c.of-head.ensures.1).0 in let below : c.load_tail-tail.result < c.of-head.result.head = search rules in record {
      steps = search rules;
      same = search rules;
      rounds = rounds_took _ _ _ _ c.load_tail-tail.result c.number-in-Ok.result _ _ v _ _ n.within c.loop.invariant.rounds c.load_tail-tail.ensures.found (subst (λ (k : ℕ). c.load_tail-tail.result < k) (sym head) below)
          (transport (λ i. TakeAnswer (id i) v c.wait_ring-ring.result (Ok (sym n.value i)) c.take_first.new.hand.seat.me.0) c.in-Ok.ensures.trace);
    }

pub loop-preserved : goal.loop-preserved
loop-preserved g c = let v = c.load_tail-tail.new.seat.me.0 in let id = c.load_tail-tail.ensures.queue.0.1 ∙ c.loop.invariant.same.1 in
    let head = (word_parts _ _ c.of-head.result.mark c.of-head.ensures.0 c.of-head.ensures.1).0 in let below : c.load_tail-tail.result < c.of-head.result.head = search rules in record {
      steps = search rules;
      same = search rules;
      rounds = rounds_missed _ _ _ _ c.load_tail-tail.result _ _ v _ _ c.in-Err.field-0 c.loop.invariant.rounds c.load_tail-tail.ensures.found (subst (λ (k : ℕ). c.load_tail-tail.result < k) (sym head) below)
          (transport (λ i. TakeAnswer (id i) v c.wait_ring-ring.result (Err c.in-Err.field-0) c.take_first.new.hand.seat.me.0) c.in-Err.ensures.trace);
    }

pub returns-then-tail-head-clause-effect : goal.returns-then-tail-head-clause-effect
returns-then-tail-head-clause-effect g c = wake_effect (call_of c.args.hand.now) c.args.wait _ _ _ (returns-then-tail-head-clause-trace g c)

pub returns-then-tail-head-clause-frame : goal.returns-then-tail-head-clause-frame
returns-then-tail-head-clause-frame g c = wake_keeps (call_of c.args.hand.now) c.args.wait _ _ _ (returns-then-tail-head-clause-trace g c)

pub returns-then-tail-head-clause-result : goal.returns-then-tail-head-clause-result
returns-then-tail-head-clause-result g c = let low : c.args.wait < WAITS = search rules in
    wake_result (call_of c.args.hand.now) c.args.wait _ _ _ low c.load_tail-tail.ensures.found.valid (returns-then-tail-head-clause-trace g c)

pub returns-then-tail-head-clause-bound : goal.returns-then-tail-head-clause-bound
returns-then-tail-head-clause-bound g c = let low : c.args.wait < WAITS = search rules in
    wake_bound (call_of c.args.hand.now) c.args.wait _ _ _ low c.load_tail-tail.ensures.found.valid (returns-then-tail-head-clause-trace g c)

pub returns-then-tail-head-clause-owns : goal.returns-then-tail-head-clause-owns
returns-then-tail-head-clause-owns g c = ap (λ (z : View). z.member) (returns-then-tail-head-clause-trace g c).acts.has

pub returns-then-tail-head-clause-tries : goal.returns-then-tail-head-clause-tries
returns-then-tail-head-clause-tries g c = let low : c.args.wait < WAITS = search rules in
    wake_tries (call_of c.args.hand.now) c.args.wait _ _ _ low c.load_tail-tail.ensures.found.valid (returns-then-tail-head-clause-trace g c)

pub invariant_of-hand : goal.invariant_of-hand
invariant_of-hand g c = let h = c.args.hand.now in let x = c.add_notify-word.ensures in let s = alike_by_event _ _ _ _ h.seat.me.0 c.add_notify-word.new.seat.me.0 (λ own e. (refl, refl, refl)) x.effect in record { bare = x.queue.1 ∙ h.bare; one = s.ends ∙ h.one; none = s.claimed ∙ h.none; fresh = s.fresh; holding = h.holding ∙ sym s.held; serving = h.serving ∙ sym s.serves; putting = h.putting ∙ sym s.on; valid = merely x.effect.step.valid; stands = x.stands }

pub invariant_of-hand-in-loop : goal.invariant_of-hand-in-loop
invariant_of-hand-in-loop g c = let h = c.loop.hand in let a = c.load_tail-tail.ensures in let s = alike_by_look _ _ _ a.found.acts in record { bare = a.queue.1 ∙ h.bare; one = s.ends ∙ h.one; none = s.claimed ∙ h.none; fresh = s.fresh; holding = h.holding ∙ sym s.held; serving = h.serving ∙ sym s.serves; putting = h.putting ∙ sym s.on; valid = merely a.found.valid; stands = a.stands }

use Rattle.thread_table.proofs.Common.{WAITS, ◌<◌, rules, subst, call_of, view_of, NotifiedNow, ◌∙◌, sym, merely, refl}
use Rattle.thread_table.proofs.Events.Waking.{notified_now}
use Rattle.thread_table.proofs.ClientWakes.{notify_effect, notify_result}
use Rattle.thread_table.proofs.Hands.Unchanged.{notify_keeps, alike_by_event}
use Rattle.thread_table.proofs.ClientBounds.{notify_bound}
use Rattle.thread_table.proofs.hand.ThreadTable.notify.Goals as goal

pub returns-clause-trace : goal.returns-clause-trace
returns-clause-trace c = let h = c.args.hand.now in let u = c.add_notify-found.new.seat.me.0 in let n = c.number.ensures in
    subst (λ k. NotifiedNow (call_of h) (view_of h) k c.of.result.head u) n.value
    (notified_now (call_of h) c.number.result c.add_notify-found.result c.of.result.head c.of.result.mark (view_of h) u c.add_notify-found.ensures.effect c.of.ensures.0 c.of.ensures.1)

pub returns-clause-effect : goal.returns-clause-effect
returns-clause-effect c = notify_effect c.args.hand.now.seat.id c.args.wait _ _ _ (returns-clause-trace c)

pub returns-clause-result : goal.returns-clause-result
returns-clause-result c = let low : c.args.wait < WAITS = search rules in notify_result c.args.hand.now.seat.id c.args.wait _ _ _ low c.add_notify-found.ensures.effect.step.valid (returns-clause-trace c)

pub returns-clause-frame : goal.returns-clause-frame
returns-clause-frame c = notify_keeps c.args.hand.now.seat.id c.args.wait _ _ _ (returns-clause-trace c)

pub returns-clause-steps : goal.returns-clause-steps
returns-clause-steps c = notify_bound c.args.hand.now.seat.id c.args.wait _ _ _ (returns-clause-trace c)

pub invariant_of-hand : goal.invariant_of-hand
invariant_of-hand c = let h = c.args.hand.now in let x = c.add_notify-found.ensures in let s = alike_by_event _ _ _ _ _ _ (λ own e. (refl, refl, refl)) x.effect in record { bare = x.queue.1 ∙ h.bare; one = s.ends ∙ h.one; none = s.claimed ∙ h.none; fresh = s.fresh; holding = h.holding ∙ sym s.held; serving = h.serving ∙ sym s.serves; putting = h.putting ∙ sym s.on; valid = merely x.effect.step.valid; stands = x.stands }

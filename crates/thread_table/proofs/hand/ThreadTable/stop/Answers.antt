use Rattle.thread_table.proofs.Common.{ELEMENTS, ◌<◌, rules, ap, not, transport, call_of, view_of, state_word, HandDid, ◌∙◌, sym, merely, refl}
use Rattle.event_theory.specs.declared.event.Event.TheVariants as events
use Rattle.thread_table.proofs.Events.StatesSeen.{bit_is}
use Rattle.thread_table.proofs.Clients.{stop_effect, stop_result}
use Rattle.thread_table.proofs.Hands.Unchanged.{stop_keeps, alike_by_event}
use Rattle.thread_table.proofs.ClientBounds.{stop_bound}
use Rattle.thread_table.proofs.hand.ThreadTable.stop.Goals as goal

pub returns-clause-trace : goal.returns-clause-trace
returns-clause-trace c = let n = c.number.ensures.value in let o = c.or_stop-word in let h = c.args.hand.now in
    let d = transport (λ i. HandDid (call_of h) (view_of h) (state_word (n i)) o.result (events.Stop (call_of h) (n i)) o.new.seat.me.0) o.ensures.effect in
    (o.result, d.before, ap not (bit_is _ _ c.is_stopping.ensures), d.step.acts)

pub returns-clause-effect : goal.returns-clause-effect
returns-clause-effect c = stop_effect c.args.hand.now.seat.id c.args.element _ _ _ (returns-clause-trace c)

pub returns-clause-result : goal.returns-clause-result
returns-clause-result c = let known : c.args.element < ELEMENTS = search rules in stop_result c.args.element known _ _ c.or_stop-word.ensures.effect.step.valid c.args.hand.now.seat.id _ (returns-clause-trace c)

pub returns-clause-frame : goal.returns-clause-frame
returns-clause-frame c = stop_keeps c.args.hand.now.seat.id c.args.element _ _ _ (returns-clause-trace c)

pub returns-clause-steps : goal.returns-clause-steps
returns-clause-steps c = stop_bound c.args.hand.now.seat.id c.args.element _ _ _ (returns-clause-trace c)

pub invariant_of-hand : goal.invariant_of-hand
invariant_of-hand c = let h = c.args.hand.now in let x = c.or_stop-word.ensures in let s = alike_by_event _ _ _ _ _ _ (λ own e. (refl, refl, refl)) x.effect in record { bare = x.queue.1 ∙ h.bare; one = s.ends ∙ h.one; none = s.claimed ∙ h.none; fresh = s.fresh; holding = h.holding ∙ sym s.held; serving = h.serving ∙ sym s.serves; putting = h.putting ∙ sym s.on; valid = merely x.effect.step.valid; stands = x.stands }

use Rattle.thread_table.proofs.Common.{ELEMENTS, ◌<◌, rules, ◌∙◌, sym, ap, transport, is_in, call_of, view_of, state_word, HandDid, merely, refl}
use Rattle.event_theory.specs.declared.event.Event.TheVariants as events
use Rattle.thread_table.proofs.Events.StatesSeen.{bit_up, bit_down}
use Rattle.thread_table.specs.declared.states.Signalled.TheVariants as signalled
use Rattle.thread_table.proofs.Clients.{signal_effect, signal_result}
use Rattle.thread_table.proofs.Hands.Unchanged.{signal_keeps, alike_by_event}
use Rattle.thread_table.proofs.ClientBounds.{signal_bound}
use Rattle.thread_table.proofs.hand.ThreadTable.signal.Goals as goal

pub returns-then-is_pending-clause-trace : goal.returns-then-is_pending-clause-trace
returns-then-is_pending-clause-trace c = let n = c.number-number.ensures.value in let s = c.number-bit.ensures.value in let o = c.or_signal-word in let h = c.args.hand.now in
    let d = transport (λ i. HandDid (call_of h) (view_of h) (state_word (n i)) o.result (events.Signal (call_of h) (n i) (s i)) o.new.seat.me.0) o.ensures.effect in
    (o.result, d.before, ap (is_in o.result) (sym s) ∙ bit_up _ _ c.if-is_pending.ensures, d.step.acts)

pub returns-clause-trace : goal.returns-clause-trace
returns-clause-trace c = let n = c.number-number.ensures.value in let s = c.number-bit.ensures.value in let o = c.or_signal-word in let h = c.args.hand.now in
    let d = transport (λ i. HandDid (call_of h) (view_of h) (state_word (n i)) o.result (events.Signal (call_of h) (n i) (s i)) o.new.seat.me.0) o.ensures.effect in
    (o.result, d.before, ap (is_in o.result) (sym s) ∙ bit_down _ _ c.if-is_pending.ensures, d.step.acts)

pub returns-then-is_pending-clause-effect : goal.returns-then-is_pending-clause-effect
returns-then-is_pending-clause-effect c = signal_effect c.args.hand.now.seat.id c.args.element c.args.signal signalled.Merged _ _ (returns-then-is_pending-clause-trace c)

pub returns-then-is_pending-clause-result : goal.returns-then-is_pending-clause-result
returns-then-is_pending-clause-result c = let known : c.args.element < ELEMENTS = search rules in let low : c.args.signal < 16 = search rules in signal_result c.args.element known _ _ c.or_signal-word.ensures.effect.step.valid c.args.hand.now.seat.id c.args.signal signalled.Merged low (returns-then-is_pending-clause-trace c)

pub returns-then-is_pending-clause-frame : goal.returns-then-is_pending-clause-frame
returns-then-is_pending-clause-frame c = signal_keeps c.args.hand.now.seat.id c.args.element c.args.signal _ _ signalled.Merged (returns-then-is_pending-clause-trace c)

pub returns-clause-effect : goal.returns-clause-effect
returns-clause-effect c = signal_effect c.args.hand.now.seat.id c.args.element c.args.signal signalled.Raised _ _ (returns-clause-trace c)

pub returns-clause-result : goal.returns-clause-result
returns-clause-result c = let known : c.args.element < ELEMENTS = search rules in let low : c.args.signal < 16 = search rules in signal_result c.args.element known _ _ c.or_signal-word.ensures.effect.step.valid c.args.hand.now.seat.id c.args.signal signalled.Raised low (returns-clause-trace c)

pub returns-clause-frame : goal.returns-clause-frame
returns-clause-frame c = signal_keeps c.args.hand.now.seat.id c.args.element c.args.signal _ _ signalled.Raised (returns-clause-trace c)

pub returns-then-is_pending-clause-steps : goal.returns-then-is_pending-clause-steps
returns-then-is_pending-clause-steps c = signal_bound c.args.hand.now.seat.id c.args.element c.args.signal _ _ signalled.Merged (returns-then-is_pending-clause-trace c)

pub returns-clause-steps : goal.returns-clause-steps
returns-clause-steps c = signal_bound c.args.hand.now.seat.id c.args.element c.args.signal _ _ signalled.Raised (returns-clause-trace c)

pub invariant_of-hand : goal.invariant_of-hand
invariant_of-hand c = let h = c.args.hand.now in let x = c.or_signal-word.ensures in let s = alike_by_event _ _ _ _ _ _ (λ own e. (refl, refl, refl)) x.effect in record { bare = x.queue.1 ∙ h.bare; one = s.ends ∙ h.one; none = s.claimed ∙ h.none; fresh = s.fresh; holding = h.holding ∙ sym s.held; serving = h.serving ∙ sym s.serves; putting = h.putting ∙ sym s.on; valid = merely x.effect.step.valid; stands = x.stands }

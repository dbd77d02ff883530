use Rattle.thread_table.proofs.Common.{◌≡◌, ◌<◌, ◌∙◌, Some, None, false, rules, set, sym, ap, transport, merely, View, call_of, view_of, processor_word, running, HandDid, ELEMENTS, PROCESSORS}
use Rattle.event_theory.specs.declared.event.Event.TheVariants as events
use Rattle.thread_table.proofs.Events.StatesSeen.{puts_on}
use Rattle.thread_table.proofs.Clients.{on_effect, on_frame}
use Rattle.thread_table.proofs.ClientBounds.{on_bound}
use Rattle.thread_table.proofs.hand.ThreadTable.on.Goals as goal

pub invariant_of-hand : goal.invariant_of-hand
invariant_of-hand c = let s = c.swap_on.ensures in let h = c.args.hand.now in let has = s.effect.1.step.acts.has in let n = c.number-number.ensures.value in let p = c.number-2.ensures.value in record {
  bare = s.queue.1 ∙ h.bare;
  one = ap (λ (z : View). z.member.ends) has ∙ h.one;
  none = ap (λ (z : View). z.own.claimed) has ∙ h.none;
  fresh = ap (λ (z : View). z.own.fresh) has;
  holding = c.set.ensures ∙ ((λ i. set (h.holding i) c.number-number.result false) ∙ sym (ap (λ (z : View). z.own.held) has));
  serving = h.serving ∙ sym (ap (λ (z : View). z.own.serves) has);
  putting = c.set-2.ensures ∙ ((λ i. set (h.putting i) ((c.number-3.ensures.value ∙ sym p) i) (Some (sym n i))) ∙ sym (ap (λ (z : View). z.own.on) has));
  valid = merely s.effect.1.step.valid;
  stands = s.stands;
}

pub returns-clause-trace : goal.returns-clause-trace
returns-clause-trace c = let h = c.args.hand.now in let n = c.number-number.ensures.value in let p = c.number-2.ensures.value in let d = c.swap_on.ensures.effect in
    let known : c.args.element < ELEMENTS = search rules in let few : c.args.processor < PROCESSORS = search rules in let empty : running (view_of h) c.args.processor ≡ None = search rules in (
      empty,
      puts_on (call_of h) c.args.processor c.args.element d.0 (view_of h) _ known few c.requires.mine.1 empty (transport (λ i. HandDid (call_of h) (view_of h) (processor_word (p i)) d.0 (events.On (call_of h) (p i) (n i)) c.swap_on.new.seat.me.0) d.1),
    )

pub returns-clause-effect : goal.returns-clause-effect
returns-clause-effect c = on_effect c.args.hand.now.seat.id c.args.processor c.args.element _ _ (returns-clause-trace c)

pub returns-clause-frame : goal.returns-clause-frame
returns-clause-frame c = on_frame c.args.hand.now.seat.id c.args.processor c.args.element _ _ (returns-clause-trace c).1

pub returns-clause-steps : goal.returns-clause-steps
returns-clause-steps c = on_bound c.args.hand.now.seat.id c.args.processor c.args.element _ _ (returns-clause-trace c).1

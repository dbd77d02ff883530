use Rattle.thread_table.proofs.Common.{◌≡◌, ◌<◌, ◌∙◌, rules, ℕ, List, Option, Some, None, get_or, set, true, sym, ap, ap₂, merely, View, transport, call_of, view_of, processor_word, running, TakesOff, HandDid, ELEMENTS, PROCESSORS}
use Rattle.event_theory.specs.declared.event.Event.TheVariants as events
use Rattle.thread_table.proofs.Events.StatesSeen.{takes_off}
use Rattle.thread_table.proofs.Clients.{off_effect, off_frame}
use Rattle.thread_table.proofs.ClientBounds.{off_bound}
use Rattle.thread_table.proofs.hand.ThreadTable.off.Goals as goal

-- what the step says
offs : (c : goal.After-set-2) → (running (view_of c.args.hand.now) c.args.processor ≡ Some c.in-Some.element) × TakesOff (call_of c.args.hand.now) c.args.processor c.in-Some.element (view_of c.args.hand.now) c.swap_off.new.seat.me.0
offs c = let h = c.args.hand.now in let d = c.swap_off.ensures.effect in let p = c.number-2.ensures.value in
    let known : c.in-Some.element < ELEMENTS = search rules in let few : c.args.processor < PROCESSORS = search rules in
    let stood : running (view_of h) c.args.processor ≡ Some c.in-Some.element = ap₂ (λ (l : List (Option ℕ)) (k : ℕ). get_or l k None) (sym h.putting) (sym c.number.ensures.value) ∙ (sym c.get.ensures ∙ c.in-Some.is) in (
      stood,
      takes_off (call_of h) c.args.processor c.in-Some.element d.0 (view_of h) _ known few c.requires.mine stood (transport (λ i. HandDid (call_of h) (view_of h) (processor_word (p i)) d.0 (events.Off (call_of h) (p i)) c.swap_off.new.seat.me.0) d.1),
    )

pub returns-clause-trace : goal.returns-clause-trace
returns-clause-trace c = offs c.before

pub invariant_of-hand : goal.invariant_of-hand
invariant_of-hand c = let h = c.args.hand.now in let s = c.swap_off.ensures in let has = (offs c).1.3.has in let n = c.number-number.ensures.value in record {
  bare = s.queue.1 ∙ h.bare;
  one = ap (λ (z : View). z.member.ends) has ∙ h.one;
  none = ap (λ (z : View). z.own.claimed) has ∙ h.none;
  fresh = ap (λ (z : View). z.own.fresh) has;
  holding = c.set.ensures ∙ ((λ i. set (h.holding i) (n i) true) ∙ sym (ap (λ (z : View). z.own.held) has));
  serving = h.serving ∙ sym (ap (λ (z : View). z.own.serves) has);
  putting = c.set-2.ensures ∙ ((λ i. set (h.putting i) (c.number-3.ensures.value i) None) ∙ sym (ap (λ (z : View). z.own.on) has));
  valid = merely s.effect.1.step.valid;
  stands = s.stands;
}

pub returns-clause-effect : goal.returns-clause-effect
returns-clause-effect c = off_effect c.args.hand.now.seat.id c.args.processor c.in-Some.element _ _ (returns-clause-trace c)

pub returns-clause-frame : goal.returns-clause-frame
returns-clause-frame c = off_frame c.args.hand.now.seat.id c.args.processor c.in-Some.element _ _ (returns-clause-trace c).1

pub returns-clause-steps : goal.returns-clause-steps
returns-clause-steps c = off_bound c.args.hand.now.seat.id c.args.processor c.in-Some.element _ _ (returns-clause-trace c).1

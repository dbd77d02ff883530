use Rattle.thread_table.proofs.Common.{Err, Ok, rules, ℕ, ◌<◌, subst, transport, ReadPc, view_of, call_of, done_word, HandDid, ELEMENTS, ◌∙◌, sym, merely, refl}
use Rattle.event_theory.specs.declared.event.Event.TheVariants as events
use Rattle.thread_table.specs.Steps as valid
use Rattle.thread_table.proofs.Events.StatesSeen.{read_pc, counted_step}
use Rattle.thread_table.proofs.Clients.{step_effect, step_result, step_error}
use Rattle.thread_table.proofs.Hands.Unchanged.{done_keeps, alike, alike_by_both, alike_by_event}
use Rattle.thread_table.proofs.ClientBounds.{step_bound}
use Rattle.thread_table.proofs.hand.ThreadTable.step_done.Goals as goal

pub returns-then-done-clause-trace : goal.returns-then-done-clause-trace
returns-then-done-clause-trace c = let v = view_of c.args.hand.now in let u = c.load_done-done.new.seat.me.0 in let n = c.number-number.ensures.value in let known : c.args.element < ELEMENTS = search rules in
    subst (λ (k : ℕ). ReadPc c.args.element v k u) c.if-done.true (read_pc _ _ _ _ known (transport (λ i. valid.ReadPc (n i) v c.load_done-done.result u) c.load_done-done.ensures.counted))

pub returns-clause-trace : goal.returns-clause-trace
returns-clause-trace c = let h = c.args.hand.now in let l = c.load_done-done in let u = l.new.seat.me.0 in let d = c.store_done.ensures.effect in let n = c.number-number.ensures.value in let id = l.ensures.queue.0.1 in
    let known : c.args.element < ELEMENTS = search rules in
    counted_step (call_of h) c.args.element (view_of h) u _ _ d.0 known (transport (λ i. valid.ReadPc (n i) (view_of h) l.result u) l.ensures.counted)
    (transport (λ i. HandDid (id i) u (done_word (n i)) d.0 (events.Done (id i) (n i)) c.store_done.new.seat.me.0) d.1)

pub returns-then-done-clause-effect : goal.returns-then-done-clause-effect
returns-then-done-clause-effect c = step_effect c.args.hand.now.seat.id c.args.element _ _ (Err _) (returns-then-done-clause-trace c)

pub returns-then-done-clause-error : goal.returns-then-done-clause-error
returns-then-done-clause-error c = let known : c.args.element < ELEMENTS = search rules in step_error c.args.element known _ _ c.load_done-done.ensures.counted.valid c.args.hand.now.seat.id (Err _) (returns-then-done-clause-trace c)

pub returns-then-done-clause-frame : goal.returns-then-done-clause-frame
returns-then-done-clause-frame c = done_keeps c.args.hand.now.seat.id c.args.element _ _ (Err _) (returns-then-done-clause-trace c)

pub returns-clause-effect : goal.returns-clause-effect
returns-clause-effect c = step_effect c.args.hand.now.seat.id c.args.element _ _ (Ok _) (returns-clause-trace c)

pub returns-clause-result : goal.returns-clause-result
returns-clause-result c = let known : c.args.element < ELEMENTS = search rules in step_result c.args.element known _ _ c.store_done.ensures.effect.1.step.valid c.args.hand.now.seat.id (Ok _) (returns-clause-trace c)

pub returns-clause-frame : goal.returns-clause-frame
returns-clause-frame c = done_keeps c.args.hand.now.seat.id c.args.element _ _ (Ok _) (returns-clause-trace c)

pub returns-then-done-clause-steps : goal.returns-then-done-clause-steps
returns-then-done-clause-steps c = step_bound c.args.hand.now.seat.id c.args.element _ _ (Err _) (returns-then-done-clause-trace c)

pub returns-clause-steps : goal.returns-clause-steps
returns-clause-steps c = step_bound c.args.hand.now.seat.id c.args.element _ _ (Ok _) (returns-clause-trace c)

pub invariant_of-hand : goal.invariant_of-hand
invariant_of-hand c = let h = c.args.hand.now in let a = c.load_done-done.ensures in let s = alike _ _ _ _ a.counted.acts refl refl refl refl refl in record { bare = a.queue.1 ∙ h.bare; one = s.ends ∙ h.one; none = s.claimed ∙ h.none; fresh = s.fresh; holding = h.holding ∙ sym s.held; serving = h.serving ∙ sym s.serves; putting = h.putting ∙ sym s.on; valid = merely a.counted.valid; stands = a.stands }

pub invariant_of-hand-2 : goal.invariant_of-hand-2
invariant_of-hand-2 c = let h = c.args.hand.now in let a = c.load_done-done.ensures in let x = c.store_done.ensures in let s = alike_by_both _ _ _ (alike _ _ _ _ a.counted.acts refl refl refl refl refl) (alike_by_event _ _ _ _ _ _ (λ own e. (refl, refl, refl)) x.effect.1) in record { bare = x.queue.1 ∙ (a.queue.1 ∙ h.bare); one = s.ends ∙ h.one; none = s.claimed ∙ h.none; fresh = s.fresh; holding = h.holding ∙ sym s.held; serving = h.serving ∙ sym s.serves; putting = h.putting ∙ sym s.on; valid = merely x.effect.1.step.valid; stands = x.stands }

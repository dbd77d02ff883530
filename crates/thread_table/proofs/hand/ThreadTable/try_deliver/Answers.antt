use Rattle.thread_table.proofs.Common.{Err, Ok, ◌<◌, ◌∙◌, rules, sym, ap, transport, state_word, HandDid, ELEMENTS, merely, refl, cases_eq, ⊎_elim}
use Rattle.event_theory.specs.declared.event.Event.TheVariants as events
use Rattle.thread_table.proofs.Schedule.Acting.{acts_two}
use Rattle.thread_table.proofs.Events.StatesSeen.{has_signals, delivered}
use Rattle.thread_table.proofs.Events.Steps.{found_at}
use Rattle.thread_table.specs.Telling.{IsValidHandView}
use Rattle.thread_table.proofs.Clients.{deliver_effect, deliver_result, deliver_error}
use Rattle.thread_table.proofs.Hands.Unchanged.{Alike, deliver_keeps, alike_by_look, alike_by_both, alike_by_event}
use Rattle.thread_table.proofs.ClientBounds.{deliver_bound}
use Rattle.thread_table.proofs.hand.ThreadTable.try_deliver.Goals as goal

pub returns-then-pending-eq0-clause-trace : goal.returns-then-pending-eq0-clause-trace
returns-then-pending-eq0-clause-trace c = let l = found_at (ap state_word c.number-number.ensures.value) c.load_state-word.ensures.found in (c.load_state-word.result, _, sym c.pending-pending.ensures ∙ c.if-pending-eq0.true, l.acts)

pub returns-then-seen-word-clause-trace : goal.returns-then-seen-word-clause-trace
returns-then-seen-word-clause-trace c = let here = ap state_word c.number-number.ensures.value in let l = found_at here c.load_state-word.ensures.found in let e = found_at here (c.exchange_state-seen.ensures.miss c.if-seen-word.true).0 in
    (c.load_state-word.result, _, _, has_signals _ _ c.pending-pending.ensures c.if-pending-eq0.false, c.if-seen-word.true, acts_two _ _ _ _ _ _ _ l e)

pub returns-clause-trace : goal.returns-clause-trace
returns-clause-trace c = let h = c.args.hand.now in let n = c.number-number.ensures.value in let l = c.load_state-word in let id = l.ensures.queue.0.1 in let u = l.new.seat.me.0 in let known : c.args.element < ELEMENTS = search rules in
    let d = transport (λ i. HandDid (id i) u (state_word (n i)) l.result (events.Deliver (id i) (n i)) c.exchange_state-seen.new.seat.me.0) (c.exchange_state-seen.ensures.hit c.if-seen-word.false) in let found = found_at (ap state_word n) l.ensures.found in
    delivered _ _ _ _ _ _ _ known found d c.pending-pending.ensures c.if-pending-eq0.false

pub returns-then-pending-eq0-clause-effect : goal.returns-then-pending-eq0-clause-effect
returns-then-pending-eq0-clause-effect c = deliver_effect c.args.hand.now.seat.id c.args.element _ _ (Ok 0) (returns-then-pending-eq0-clause-trace c)

pub returns-then-pending-eq0-clause-result : goal.returns-then-pending-eq0-clause-result
returns-then-pending-eq0-clause-result c = let known : c.args.element < ELEMENTS = search rules in deliver_result c.args.element known _ _ c.load_state-word.ensures.found.valid c.args.hand.now.seat.id (Ok 0) (returns-then-pending-eq0-clause-trace c)

pub returns-then-pending-eq0-clause-frame : goal.returns-then-pending-eq0-clause-frame
returns-then-pending-eq0-clause-frame c = deliver_keeps c.args.hand.now.seat.id c.args.element _ _ (Ok 0) (returns-then-pending-eq0-clause-trace c)

pub returns-then-seen-word-clause-effect : goal.returns-then-seen-word-clause-effect
returns-then-seen-word-clause-effect c = deliver_effect c.args.hand.now.seat.id c.args.element _ _ (Err (record { seen = c.exchange_state-seen.result })) (returns-then-seen-word-clause-trace c)

pub returns-then-seen-word-clause-error : goal.returns-then-seen-word-clause-error
returns-then-seen-word-clause-error c = let known : c.args.element < ELEMENTS = search rules in let e = c.exchange_state-seen.ensures.miss c.if-seen-word.true in deliver_error c.args.element known _ _ e.0.valid c.args.hand.now.seat.id (Err (record { seen = c.exchange_state-seen.result })) (returns-then-seen-word-clause-trace c)

pub returns-then-seen-word-clause-frame : goal.returns-then-seen-word-clause-frame
returns-then-seen-word-clause-frame c = deliver_keeps c.args.hand.now.seat.id c.args.element _ _ (Err (record { seen = c.exchange_state-seen.result })) (returns-then-seen-word-clause-trace c)

pub returns-clause-effect : goal.returns-clause-effect
returns-clause-effect c = deliver_effect c.args.hand.now.seat.id c.args.element _ _ (Ok c.pending-pending.result) (returns-clause-trace c)

pub returns-clause-result : goal.returns-clause-result
returns-clause-result c = let known : c.args.element < ELEMENTS = search rules in let e = c.exchange_state-seen.ensures.hit c.if-seen-word.false in deliver_result c.args.element known _ _ e.step.valid c.args.hand.now.seat.id (Ok c.pending-pending.result) (returns-clause-trace c)

pub returns-clause-frame : goal.returns-clause-frame
returns-clause-frame c = deliver_keeps c.args.hand.now.seat.id c.args.element _ _ (Ok c.pending-pending.result) (returns-clause-trace c)

pub returns-then-pending-eq0-clause-steps : goal.returns-then-pending-eq0-clause-steps
returns-then-pending-eq0-clause-steps c = deliver_bound c.args.hand.now.seat.id c.args.element _ _ (Ok 0) (returns-then-pending-eq0-clause-trace c)

pub returns-then-seen-word-clause-steps : goal.returns-then-seen-word-clause-steps
returns-then-seen-word-clause-steps c = deliver_bound c.args.hand.now.seat.id c.args.element _ _ (Err (record { seen = c.exchange_state-seen.result })) (returns-then-seen-word-clause-trace c)

pub returns-clause-steps : goal.returns-clause-steps
returns-clause-steps c = deliver_bound c.args.hand.now.seat.id c.args.element _ _ (Ok c.pending-pending.result) (returns-clause-trace c)

pub invariant_of-hand : goal.invariant_of-hand
invariant_of-hand c = let h = c.args.hand.now in let a = c.load_state-word.ensures in let s = alike_by_look _ _ _ a.found.acts in record { bare = a.queue.1 ∙ h.bare; one = s.ends ∙ h.one; none = s.claimed ∙ h.none; fresh = s.fresh; holding = h.holding ∙ sym s.held; serving = h.serving ∙ sym s.serves; putting = h.putting ∙ sym s.on; valid = merely a.found.valid; stands = a.stands }

-- the compare-and-swap delivered the signals, or found another word; the hand has what it had
tried : (c : goal.After-exchange_state-seen) → Alike c.load_state-word.new.seat.me.0 c.exchange_state-seen.new.seat.me.0 × ∥ IsValidHandView c.exchange_state-seen.new.seat.me.0 ∥₁
tried c = let x = c.exchange_state-seen.ensures in ⊎_elim
    (λ same. let d = x.hit same in (alike_by_event _ _ _ _ _ _ (λ own e. (refl, refl, refl)) d, merely d.step.valid))
    (λ other. let e = (x.miss other).0 in (alike_by_look _ _ _ e.acts, merely e.valid))
    (cases_eq c.exchange_state-seen.result c.load_state-word.result)

pub invariant_of-hand-2 : goal.invariant_of-hand-2
invariant_of-hand-2 c = let h = c.args.hand.now in let a = c.load_state-word.ensures in let x = c.exchange_state-seen.ensures in let e = tried c in let s = alike_by_both _ _ _ (alike_by_look _ _ _ a.found.acts) e.0 in record { bare = x.queue.1 ∙ (a.queue.1 ∙ h.bare); one = s.ends ∙ h.one; none = s.claimed ∙ h.none; fresh = s.fresh; holding = h.holding ∙ sym s.held; serving = h.serving ∙ sym s.serves; putting = h.putting ∙ sym s.on; valid = e.1; stands = x.stands }

use Rattle.thread_table.proofs.Common.{Err, Ok, ◌<◌, ◌∙◌, rules, true, set, sym, ap, transport, merely, View, call_of, view_of, StartAnswer, state_word, HandDid, ELEMENTS}
use Rattle.thread_table.specs.declared.states.Started.TheVariants as started
use Rattle.event_theory.specs.declared.event.Event.TheVariants as events
use Rattle.thread_table.proofs.Schedule.Acting.{acts_two}
use Rattle.thread_table.proofs.Events.StatesSeen.{bit_up, bit_down, cleared, held_again}
use Rattle.thread_table.proofs.Events.Steps.{found_at}
use Rattle.thread_table.proofs.Clients.{start_effect, start_result, start_error}
use Rattle.thread_table.proofs.Hands.Unchanged.{start_keeps, alike_by_look, alike_by_both}
use Rattle.thread_table.proofs.ClientBounds.{start_bound}
use Rattle.thread_table.proofs.hand.ThreadTable.try_start.Goals as goal

pub returns-then-not-is_stopping-clause-trace : goal.returns-then-not-is_stopping-clause-trace
returns-then-not-is_stopping-clause-trace c = let l = found_at (ap state_word c.number-number.ensures.value) c.load_state-word.ensures.found in (c.load_state-word.result, _, bit_down _ 16 c.if-not-is_stopping.ensures, l.acts)

pub returns-then-seen-word-clause-trace : goal.returns-then-seen-word-clause-trace
returns-then-seen-word-clause-trace c = let here = ap state_word c.number-number.ensures.value in let l = found_at here c.load_state-word.ensures.found in let e = found_at here (c.exchange_state-seen.ensures.miss c.if-seen-word.true).0 in
    (c.load_state-word.result, _, _, bit_up _ 16 c.if-not-is_stopping.ensures, c.if-seen-word.true, acts_two _ _ _ _ _ _ _ l e)

-- what the two steps say
starts_clear : (c : goal.Then-not-is_parked) → StartAnswer (call_of c.args.hand.now) (view_of c.args.hand.now) c.args.element (Ok started.Cleared) c.exchange_state-seen.new.seat.me.0
starts_clear c = let h = c.args.hand.now in let n = c.number-number.ensures.value in let l = c.load_state-word in let id = l.ensures.queue.0.1 in let u = l.new.seat.me.0 in let known : c.args.element < ELEMENTS = search rules in
    let d = transport (λ i. HandDid (id i) u (state_word (n i)) l.result (events.Start (id i) (n i)) c.exchange_state-seen.new.seat.me.0) (c.exchange_state-seen.ensures.hit c.if-seen-word.false) in let found = found_at (ap state_word n) l.ensures.found in
    cleared _ _ _ _ _ _ known found c.if-not-is_stopping.ensures d c.if-not-is_parked.ensures

pub invariant_of-hand-then-not-is_parked : goal.invariant_of-hand-then-not-is_parked
invariant_of-hand-then-not-is_parked c = let h = c.args.hand.now in let n = c.number-number.ensures.value in let l = c.load_state-word in let e = c.exchange_state-seen.ensures in let has = (starts_clear c).4.has in record {
  bare = e.queue.1 ∙ (l.ensures.queue.1 ∙ h.bare);
  one = ap (λ (z : View). z.member.ends) has ∙ h.one;
  none = ap (λ (z : View). z.own.claimed) has ∙ h.none;
  fresh = ap (λ (z : View). z.own.fresh) has;
  holding = h.holding ∙ sym (ap (λ (z : View). z.own.held) has);
  serving = h.serving ∙ sym (ap (λ (z : View). z.own.serves) has);
  putting = h.putting ∙ sym (ap (λ (z : View). z.own.on) has);
  valid = merely (e.hit c.if-seen-word.false).step.valid;
  stands = e.stands;
}

-- what the two steps say
starts_held : (c : goal.After-set) → StartAnswer (call_of c.args.hand.now) (view_of c.args.hand.now) c.args.element (Ok started.Held) c.exchange_state-seen.new.seat.me.0
starts_held c = let h = c.args.hand.now in let n = c.number-number.ensures.value in let l = c.load_state-word in let id = l.ensures.queue.0.1 in let u = l.new.seat.me.0 in let known : c.args.element < ELEMENTS = search rules in
    let d = transport (λ i. HandDid (id i) u (state_word (n i)) l.result (events.Start (id i) (n i)) c.exchange_state-seen.new.seat.me.0) (c.exchange_state-seen.ensures.hit c.if-seen-word.false) in let found = found_at (ap state_word n) l.ensures.found in
    held_again _ _ _ _ _ _ known found c.if-not-is_stopping.ensures d c.if-not-is_parked.ensures

pub invariant_of-hand-2 : goal.invariant_of-hand-2
invariant_of-hand-2 c = let h = c.args.hand.now in let n = c.number-number.ensures.value in let l = c.load_state-word in let e = c.exchange_state-seen.ensures in let has = (starts_held c).1.4.has in record {
  bare = e.queue.1 ∙ (l.ensures.queue.1 ∙ h.bare);
  one = ap (λ (z : View). z.member.ends) has ∙ h.one;
  none = ap (λ (z : View). z.own.claimed) has ∙ h.none;
  fresh = ap (λ (z : View). z.own.fresh) has;
  holding = c.set.ensures ∙ ((λ i. set (h.holding i) (n i) true) ∙ sym (ap (λ (z : View). z.own.held) has));
  serving = h.serving ∙ sym (ap (λ (z : View). z.own.serves) has);
  putting = h.putting ∙ sym (ap (λ (z : View). z.own.on) has);
  valid = merely (e.hit c.if-seen-word.false).step.valid;
  stands = e.stands;
}

pub returns-then-not-is_parked-clause-trace : goal.returns-then-not-is_parked-clause-trace
returns-then-not-is_parked-clause-trace c = starts_clear c.before

pub returns-clause-trace : goal.returns-clause-trace
returns-clause-trace c = starts_held c.before

pub returns-then-not-is_stopping-clause-effect : goal.returns-then-not-is_stopping-clause-effect
returns-then-not-is_stopping-clause-effect c = start_effect c.args.hand.now.seat.id c.args.element _ _ (Ok started.NotStopped) (returns-then-not-is_stopping-clause-trace c)

pub returns-then-not-is_stopping-clause-result : goal.returns-then-not-is_stopping-clause-result
returns-then-not-is_stopping-clause-result c = let known : c.args.element < ELEMENTS = search rules in start_result c.args.element known _ _ c.load_state-word.ensures.found.valid c.args.hand.now.seat.id (Ok started.NotStopped) (returns-then-not-is_stopping-clause-trace c)

pub returns-then-not-is_stopping-clause-frame : goal.returns-then-not-is_stopping-clause-frame
returns-then-not-is_stopping-clause-frame c = start_keeps c.args.hand.now.seat.id c.args.element _ _ (Ok started.NotStopped) (returns-then-not-is_stopping-clause-trace c)

pub returns-then-seen-word-clause-effect : goal.returns-then-seen-word-clause-effect
returns-then-seen-word-clause-effect c = start_effect c.args.hand.now.seat.id c.args.element _ _ (Err (record { seen = c.exchange_state-seen.result })) (returns-then-seen-word-clause-trace c)

pub returns-then-seen-word-clause-error : goal.returns-then-seen-word-clause-error
returns-then-seen-word-clause-error c = let known : c.args.element < ELEMENTS = search rules in let e = c.exchange_state-seen.ensures.miss c.if-seen-word.true in start_error c.args.element known _ _ e.0.valid c.args.hand.now.seat.id (Err (record { seen = c.exchange_state-seen.result })) (returns-then-seen-word-clause-trace c)

pub returns-then-seen-word-clause-frame : goal.returns-then-seen-word-clause-frame
returns-then-seen-word-clause-frame c = start_keeps c.args.hand.now.seat.id c.args.element _ _ (Err (record { seen = c.exchange_state-seen.result })) (returns-then-seen-word-clause-trace c)

pub returns-then-not-is_parked-clause-effect : goal.returns-then-not-is_parked-clause-effect
returns-then-not-is_parked-clause-effect c = start_effect c.args.hand.now.seat.id c.args.element _ _ (Ok started.Cleared) (returns-then-not-is_parked-clause-trace c)

pub returns-then-not-is_parked-clause-result : goal.returns-then-not-is_parked-clause-result
returns-then-not-is_parked-clause-result c = let known : c.args.element < ELEMENTS = search rules in let e = c.exchange_state-seen.ensures.hit c.if-seen-word.false in start_result c.args.element known _ _ e.step.valid c.args.hand.now.seat.id (Ok started.Cleared) (returns-then-not-is_parked-clause-trace c)

pub returns-then-not-is_parked-clause-frame : goal.returns-then-not-is_parked-clause-frame
returns-then-not-is_parked-clause-frame c = start_keeps c.args.hand.now.seat.id c.args.element _ _ (Ok started.Cleared) (returns-then-not-is_parked-clause-trace c)

pub returns-clause-effect : goal.returns-clause-effect
returns-clause-effect c = start_effect c.args.hand.now.seat.id c.args.element _ _ (Ok started.Held) (returns-clause-trace c)

pub returns-clause-result : goal.returns-clause-result
returns-clause-result c = let known : c.args.element < ELEMENTS = search rules in let e = c.exchange_state-seen.ensures.hit c.if-seen-word.false in start_result c.args.element known _ _ e.step.valid c.args.hand.now.seat.id (Ok started.Held) (returns-clause-trace c)

pub returns-clause-frame : goal.returns-clause-frame
returns-clause-frame c = start_keeps c.args.hand.now.seat.id c.args.element _ _ (Ok started.Held) (returns-clause-trace c)

pub returns-then-not-is_stopping-clause-steps : goal.returns-then-not-is_stopping-clause-steps
returns-then-not-is_stopping-clause-steps c = start_bound c.args.hand.now.seat.id c.args.element _ _ (Ok started.NotStopped) (returns-then-not-is_stopping-clause-trace c)

pub returns-then-seen-word-clause-steps : goal.returns-then-seen-word-clause-steps
returns-then-seen-word-clause-steps c = start_bound c.args.hand.now.seat.id c.args.element _ _ (Err (record { seen = c.exchange_state-seen.result })) (returns-then-seen-word-clause-trace c)

pub returns-then-not-is_parked-clause-steps : goal.returns-then-not-is_parked-clause-steps
returns-then-not-is_parked-clause-steps c = start_bound c.args.hand.now.seat.id c.args.element _ _ (Ok started.Cleared) (returns-then-not-is_parked-clause-trace c)

pub returns-clause-steps : goal.returns-clause-steps
returns-clause-steps c = start_bound c.args.hand.now.seat.id c.args.element _ _ (Ok started.Held) (returns-clause-trace c)

pub invariant_of-hand : goal.invariant_of-hand
invariant_of-hand c = let h = c.args.hand.now in let a = c.load_state-word.ensures in let s = alike_by_look _ _ _ a.found.acts in record { bare = a.queue.1 ∙ h.bare; one = s.ends ∙ h.one; none = s.claimed ∙ h.none; fresh = s.fresh; holding = h.holding ∙ sym s.held; serving = h.serving ∙ sym s.serves; putting = h.putting ∙ sym s.on; valid = merely a.found.valid; stands = a.stands }

pub invariant_of-hand-then-seen-word : goal.invariant_of-hand-then-seen-word
invariant_of-hand-then-seen-word c = let h = c.args.hand.now in let a = c.load_state-word.ensures in let x = c.exchange_state-seen.ensures in let e = (x.miss c.if-seen-word.true).0 in let s = alike_by_both _ _ _ (alike_by_look _ _ _ a.found.acts) (alike_by_look _ _ _ e.acts) in record { bare = x.queue.1 ∙ (a.queue.1 ∙ h.bare); one = s.ends ∙ h.one; none = s.claimed ∙ h.none; fresh = s.fresh; holding = h.holding ∙ sym s.held; serving = h.serving ∙ sym s.serves; putting = h.putting ∙ sym s.on; valid = merely e.valid; stands = x.stands }

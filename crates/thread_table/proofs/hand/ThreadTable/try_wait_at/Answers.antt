use Rattle.thread_table.proofs.Common.{rules, Ok, Err, ◌≡◌, ◌<◌, ◌∙◌, ◌+◌, ℕ, set, false, sym, ap, refl, subst, arith, transport, merely, ELEMENTS, WAITS, wait_ring, HasClaimed, HandDid, View, call_of, view_of, head_word, place_word, raise_event, MovedBy}
use Rattle.event_theory.specs.declared.event.Event.TheVariants as events
use Rattle.thread_table.proofs.Events.Answering.{found_in, was_spent, moved_before, moved_meanwhile, overtaken_at, claim_known, moved_to, word_parts}
use Rattle.thread_table.specs.declared.moves.MoveRefusal.TheVariants as moves
use Rattle.thread_table.proofs.Clients.{wait_effect, wait_result, wait_error}
use Rattle.thread_table.proofs.Hands.Unchanged.{wait_keeps, alike_by_look, alike_by_both}
use Rattle.thread_table.proofs.ClientBounds.{wait_bound}
use Rattle.thread_table.proofs.hand.ThreadTable.try_wait_at.Goals as goal

pub returns-then-head-clause-trace : goal.returns-then-head-clause-trace
returns-then-head-clause-trace c = let q = c.number-queue.ensures in let known : c.args.wait < WAITS = search rules in let ring : c.wait_ring-ring.result ≡ wait_ring c.args.wait = c.wait_ring-ring.ensures.0 ∙ ap (λ (n : ℕ). n + 2) q.value in
    was_spent _ _ (wait_ring c.args.wait) _ c.of-head.result.head c.of-head.result.mark (found_in ring c.load_head-word.ensures.found) c.of-head.ensures.0 c.of-head.ensures.1 c.if-head.true

pub returns-then-mark-ticket-clause-trace : goal.returns-then-mark-ticket-clause-trace
returns-then-mark-ticket-clause-trace c = let q = c.number-queue.ensures in let ring : c.wait_ring-ring.result ≡ wait_ring c.args.wait = c.wait_ring-ring.ensures.0 ∙ ap (λ (n : ℕ). n + 2) q.value in
    moved_before _ _ c.args.wait _ _ c.of-head.result.head c.of-head.result.mark (found_in ring c.load_head-word.ensures.found) c.of-head.ensures.0 c.of-head.ensures.1 c.if-head.false c.if-mark-ticket.true

pub returns-then-now-ticket-clause-trace : goal.returns-then-now-ticket-clause-trace
returns-then-now-ticket-clause-trace c = let q = c.number-queue.ensures in let ring : c.wait_ring-ring.result ≡ wait_ring c.args.wait = c.wait_ring-ring.ensures.0 ∙ ap (λ (n : ℕ). n + 2) q.value in let e = c.exchange_head_at-found.ensures.miss c.if-found-word.true in
    moved_meanwhile _ _ _ c.args.wait _ _ c.of-head.result.head c.of-head.result.mark _ c.of-now.result.head c.of-now.result.mark (found_in ring c.load_head-word.ensures.found) c.of-head.ensures.0 c.of-head.ensures.1 c.if-head.false c.if-mark-ticket.false
    (found_in (ap (λ (n : ℕ). n + 2) q.value) e.0) c.of-now.ensures.0 c.of-now.ensures.1 c.if-now-ticket.true

pub returns-then-found-word-clause-trace : goal.returns-then-found-word-clause-trace
returns-then-found-word-clause-trace c = let q = c.number-queue.ensures in let ring : c.wait_ring-ring.result ≡ wait_ring c.args.wait = c.wait_ring-ring.ensures.0 ∙ ap (λ (n : ℕ). n + 2) q.value in let e = c.exchange_head_at-found.ensures.miss c.if-found-word.true in
    overtaken_at c.args.hand.now.seat.id c.args.element _ _ _ c.args.wait _ _ c.of-head.result.head c.of-head.result.mark _ c.of-now.result.head c.of-now.result.mark (found_in ring c.load_head-word.ensures.found) c.of-head.ensures.0 c.of-head.ensures.1 c.if-head.false c.if-mark-ticket.false
    (found_in (ap (λ (n : ℕ). n + 2) q.value) e.0) c.if-found-word.true c.of-now.ensures.0 c.of-now.ensures.1 c.if-now-ticket.false

pub raise-requires-clause-claimed : goal.raise-requires-clause-claimed
raise-requires-clause-claimed c = let hit = c.exchange_head_at-found.ensures.hit c.if-found-word.false in let within = c.number-queue.ensures.within in (
  subst (λ (r : ℕ). HasClaimed c.exchange_head_at-found.new.seat.me.0 r c.of-head.result.head c.number-number.result) (sym c.wait_ring-ring.ensures.0)
      (claim_known _ _ _ _ _ _ c.of-head.result.mark _ _ (omega arith) (λ z e. refl) hit c.of-head.ensures.0 c.of-head.ensures.1),
  c.number-number.ensures.within,
  omega (arith, c.of-head.ensures.1, c.if-head.false),
)

-- what the two steps of the move say
moved : (c : goal.After-raise) → MovedBy (call_of c.args.hand.now) (view_of c.args.hand.now) (wait_ring c.args.wait) c.args.element (events.WaitAt (call_of c.args.hand.now) c.args.wait c.args.element c.args.ticket) c.load_head-word.result c.raise.new.seat.me.0
moved c = let a = c.load_head-word.ensures in let x = c.exchange_head_at-found in let s = c.raise.ensures in let id = a.queue.0.1 in let id' = x.ensures.queue.0.1 ∙ id in let n = c.number-number.ensures.value in
    let q = c.number-queue.ensures.value in let ring : c.wait_ring-ring.result ≡ wait_ring c.args.wait = c.wait_ring-ring.ensures.0 ∙ ap (λ (n : ℕ). n + 2) q in let below : c.args.wait < WAITS = search rules in
    let h = c.args.hand.now in let v = c.load_head-word.new.seat.me.0 in let m = x.new.seat.me.0 in let w = c.raise.new.seat.me.0 in let head = c.of-head.result.head in let known : c.args.element < ELEMENTS = search rules in
    let claimed = transport (λ i. HandDid (id i) v (head_word (wait_ring (q i))) c.load_head-word.result (events.WaitAt (id i) (q i) (n i) c.args.ticket) m) (x.ensures.hit c.if-found-word.false) in
    let raised = transport (λ i. HandDid (id' i) m (place_word (ring i) head) s.effect.0 (raise_event (id' i) m (ring i) head) w) s.effect.1 in
    moved_to _ _ _ _ _ head c.of-head.result.mark v m (omega arith) (λ z e. refl) claimed c.of-head.ensures.0 c.of-head.ensures.1 _ _ _ h.fresh c.requires.holds known (found_in ring a.found) c.if-head.false raised

pub invariant_of-hand-2 : goal.invariant_of-hand-2
invariant_of-hand-2 c = let a = c.load_head-word.ensures in let x = c.exchange_head_at-found in let s = c.raise.ensures in let n = c.number-number.ensures.value in let h = c.args.hand.now in let has = (moved c).7.has in record {
  bare = s.queue.1 ∙ (x.ensures.queue.1 ∙ (a.queue.1 ∙ h.bare));
  one = ap (λ (z : View). z.member.ends) has ∙ h.one;
  none = ap (λ (z : View). z.own.claimed) has;
  fresh = ap (λ (z : View). z.own.fresh) has;
  holding = s.held ∙ ((λ i. set (h.holding i) (n i) false) ∙ sym (ap (λ (z : View). z.own.held) has));
  serving = h.serving ∙ sym (ap (λ (z : View). z.own.serves) has);
  putting = h.putting ∙ sym (ap (λ (z : View). z.own.on) has);
  valid = merely s.effect.1.step.valid;
  stands = s.stands;
}

pub returns-clause-trace : goal.returns-clause-trace
returns-clause-trace c = (c.load_head-word.result, (word_parts _ c.of-head.result.head c.of-head.result.mark c.of-head.ensures.0 c.of-head.ensures.1).1 ∙ c.if-mark-ticket.false, moved c.before)

pub returns-then-head-clause-effect : goal.returns-then-head-clause-effect
returns-then-head-clause-effect c = let known : c.args.wait < WAITS = search rules in wait_effect _ _ c.load_head-word.ensures.found.valid c.args.hand.now.seat.id c.args.wait c.args.element c.args.ticket (Err moves.Spent) known (returns-then-head-clause-trace c)

pub returns-then-head-clause-error : goal.returns-then-head-clause-error
returns-then-head-clause-error c = let known : c.args.wait < WAITS = search rules in wait_error _ _ c.load_head-word.ensures.found.valid c.args.hand.now.seat.id c.args.wait c.args.element c.args.ticket (Err moves.Spent) known (returns-then-head-clause-trace c)

pub returns-then-head-clause-frame : goal.returns-then-head-clause-frame
returns-then-head-clause-frame c = wait_keeps c.args.hand.now.seat.id c.args.wait c.args.element c.args.ticket _ _ (Err moves.Spent) (returns-then-head-clause-trace c)

pub returns-then-mark-ticket-clause-effect : goal.returns-then-mark-ticket-clause-effect
returns-then-mark-ticket-clause-effect c = let known : c.args.wait < WAITS = search rules in wait_effect _ _ c.load_head-word.ensures.found.valid c.args.hand.now.seat.id c.args.wait c.args.element c.args.ticket (Err (moves.Moved c.of-head.result.mark)) known (returns-then-mark-ticket-clause-trace c)

pub returns-then-mark-ticket-clause-error : goal.returns-then-mark-ticket-clause-error
returns-then-mark-ticket-clause-error c = let known : c.args.wait < WAITS = search rules in wait_error _ _ c.load_head-word.ensures.found.valid c.args.hand.now.seat.id c.args.wait c.args.element c.args.ticket (Err (moves.Moved c.of-head.result.mark)) known (returns-then-mark-ticket-clause-trace c)

pub returns-then-mark-ticket-clause-frame : goal.returns-then-mark-ticket-clause-frame
returns-then-mark-ticket-clause-frame c = wait_keeps c.args.hand.now.seat.id c.args.wait c.args.element c.args.ticket _ _ (Err (moves.Moved c.of-head.result.mark)) (returns-then-mark-ticket-clause-trace c)

pub returns-then-now-ticket-clause-effect : goal.returns-then-now-ticket-clause-effect
returns-then-now-ticket-clause-effect c = let known : c.args.wait < WAITS = search rules in let x = c.exchange_head_at-found.ensures.miss c.if-found-word.true in wait_effect _ _ x.0.valid c.args.hand.now.seat.id c.args.wait c.args.element c.args.ticket (Err (moves.Moved c.of-now.result.mark)) known (returns-then-now-ticket-clause-trace c)

pub returns-then-now-ticket-clause-error : goal.returns-then-now-ticket-clause-error
returns-then-now-ticket-clause-error c = let known : c.args.wait < WAITS = search rules in let x = c.exchange_head_at-found.ensures.miss c.if-found-word.true in wait_error _ _ x.0.valid c.args.hand.now.seat.id c.args.wait c.args.element c.args.ticket (Err (moves.Moved c.of-now.result.mark)) known (returns-then-now-ticket-clause-trace c)

pub returns-then-now-ticket-clause-frame : goal.returns-then-now-ticket-clause-frame
returns-then-now-ticket-clause-frame c = wait_keeps c.args.hand.now.seat.id c.args.wait c.args.element c.args.ticket _ _ (Err (moves.Moved c.of-now.result.mark)) (returns-then-now-ticket-clause-trace c)

pub returns-then-found-word-clause-effect : goal.returns-then-found-word-clause-effect
returns-then-found-word-clause-effect c = let known : c.args.wait < WAITS = search rules in let x = c.exchange_head_at-found.ensures.miss c.if-found-word.true in wait_effect _ _ x.0.valid c.args.hand.now.seat.id c.args.wait c.args.element c.args.ticket (Err (moves.Lost c.exchange_head_at-found.result)) known (returns-then-found-word-clause-trace c)

pub returns-then-found-word-clause-error : goal.returns-then-found-word-clause-error
returns-then-found-word-clause-error c = let known : c.args.wait < WAITS = search rules in let x = c.exchange_head_at-found.ensures.miss c.if-found-word.true in wait_error _ _ x.0.valid c.args.hand.now.seat.id c.args.wait c.args.element c.args.ticket (Err (moves.Lost c.exchange_head_at-found.result)) known (returns-then-found-word-clause-trace c)

pub returns-then-found-word-clause-frame : goal.returns-then-found-word-clause-frame
returns-then-found-word-clause-frame c = wait_keeps c.args.hand.now.seat.id c.args.wait c.args.element c.args.ticket _ _ (Err (moves.Lost c.exchange_head_at-found.result)) (returns-then-found-word-clause-trace c)

pub returns-clause-effect : goal.returns-clause-effect
returns-clause-effect c = let known : c.args.wait < WAITS = search rules in let s = c.raise.ensures in wait_effect _ _ s.effect.1.step.valid c.args.hand.now.seat.id c.args.wait c.args.element c.args.ticket (Ok tt) known (returns-clause-trace c)

pub returns-clause-result : goal.returns-clause-result
returns-clause-result c = let known : c.args.wait < WAITS = search rules in let s = c.raise.ensures in wait_result _ _ s.effect.1.step.valid c.args.hand.now.seat.id c.args.wait c.args.element c.args.ticket (Ok tt) known (returns-clause-trace c)

pub returns-clause-frame : goal.returns-clause-frame
returns-clause-frame c = wait_keeps c.args.hand.now.seat.id c.args.wait c.args.element c.args.ticket _ _ (Ok tt) (returns-clause-trace c)

pub returns-then-head-clause-steps : goal.returns-then-head-clause-steps
returns-then-head-clause-steps c = wait_bound c.args.hand.now.seat.id c.args.wait c.args.element c.args.ticket _ _ (Err moves.Spent) (returns-then-head-clause-trace c)

pub returns-then-mark-ticket-clause-steps : goal.returns-then-mark-ticket-clause-steps
returns-then-mark-ticket-clause-steps c = wait_bound c.args.hand.now.seat.id c.args.wait c.args.element c.args.ticket _ _ (Err (moves.Moved c.of-head.result.mark)) (returns-then-mark-ticket-clause-trace c)

pub returns-then-now-ticket-clause-steps : goal.returns-then-now-ticket-clause-steps
returns-then-now-ticket-clause-steps c = wait_bound c.args.hand.now.seat.id c.args.wait c.args.element c.args.ticket _ _ (Err (moves.Moved c.of-now.result.mark)) (returns-then-now-ticket-clause-trace c)

pub returns-then-found-word-clause-steps : goal.returns-then-found-word-clause-steps
returns-then-found-word-clause-steps c = wait_bound c.args.hand.now.seat.id c.args.wait c.args.element c.args.ticket _ _ (Err (moves.Lost c.exchange_head_at-found.result)) (returns-then-found-word-clause-trace c)

pub returns-clause-steps : goal.returns-clause-steps
returns-clause-steps c = wait_bound c.args.hand.now.seat.id c.args.wait c.args.element c.args.ticket _ _ (Ok tt) (returns-clause-trace c)

pub invariant_of-hand : goal.invariant_of-hand
invariant_of-hand c = let h = c.args.hand.now in let a = c.load_head-word.ensures in let s = alike_by_look _ _ _ a.found.acts in record { bare = a.queue.1 ∙ h.bare; one = s.ends ∙ h.one; none = s.claimed ∙ h.none; fresh = s.fresh; holding = h.holding ∙ sym s.held; serving = h.serving ∙ sym s.serves; putting = h.putting ∙ sym s.on; valid = merely a.found.valid; stands = a.stands }

pub invariant_of-hand-then-mark-ticket : goal.invariant_of-hand-then-mark-ticket
invariant_of-hand-then-mark-ticket c = let h = c.args.hand.now in let a = c.load_head-word.ensures in let s = alike_by_look _ _ _ a.found.acts in record { bare = a.queue.1 ∙ h.bare; one = s.ends ∙ h.one; none = s.claimed ∙ h.none; fresh = s.fresh; holding = h.holding ∙ sym s.held; serving = h.serving ∙ sym s.serves; putting = h.putting ∙ sym s.on; valid = merely a.found.valid; stands = a.stands }

pub invariant_of-hand-then-found-word : goal.invariant_of-hand-then-found-word
invariant_of-hand-then-found-word c = let h = c.args.hand.now in let a = c.load_head-word.ensures in let x = c.exchange_head_at-found.ensures in let e = (x.miss c.if-found-word.true).0 in let s = alike_by_both _ _ _ (alike_by_look _ _ _ a.found.acts) (alike_by_look _ _ _ e.acts) in record { bare = x.queue.1 ∙ (a.queue.1 ∙ h.bare); one = s.ends ∙ h.one; none = s.claimed ∙ h.none; fresh = s.fresh; holding = h.holding ∙ sym s.held; serving = h.serving ∙ sym s.serves; putting = h.putting ∙ sym s.on; valid = merely e.valid; stands = x.stands }

use Rattle.thread_table.proofs.Common.{rules, Ok, Err, ◌<◌, ◌∙◌, set, false, arith, sym, ap, transport, ELEMENTS, merely, claim_event, HandDid, View, call_of, view_of, head_word, place_word, raise_event, MovedBy}
use Rattle.thread_table.proofs.Events.Answering.{was_spent, overtaken, claim_known, claim_moves, moved_to}
use Rattle.thread_table.specs.declared.moves.MoveRefusal.TheVariants as moves
use Rattle.thread_table.proofs.Clients.{move_effect, move_error}
use Rattle.thread_table.proofs.Hands.Unchanged.{move_keeps, alike_by_look, alike_by_both}
use Rattle.thread_table.proofs.ClientBounds.{move_bound}
use Rattle.thread_table.proofs.hand.ThreadTable.move_to.Goals as goal

pub returns-then-head-clause-trace : goal.returns-then-head-clause-trace
returns-then-head-clause-trace c = was_spent _ _ _ _ c.of-head.result.head c.of-head.result.mark c.load_head-word.ensures.found c.of-head.ensures.0 c.of-head.ensures.1 c.if-head.true

pub returns-then-found-word-clause-trace : goal.returns-then-found-word-clause-trace
returns-then-found-word-clause-trace c = (
  c.load_head-word.result,
  overtaken _ _ _ _ _ c.of-head.result.head c.of-head.result.mark _ c.load_head-word.ensures.found c.of-head.ensures.0 c.of-head.ensures.1 c.if-head.false
      (c.exchange_head-found.ensures.miss c.if-found-word.true).0 c.if-found-word.true,
)

pub raise-requires-clause-claimed : goal.raise-requires-clause-claimed
raise-requires-clause-claimed c = let hit = c.exchange_head-found.ensures.hit c.if-found-word.false in
    (claim_known _ _ _ _ _ _ c.of-head.result.mark _ _ c.requires.table.1 (claim_moves c.load_head-word.new.seat.id _ c.number-number.result) hit c.of-head.ensures.0 c.of-head.ensures.1, c.number-number.ensures.within, omega (arith, c.of-head.ensures.1, c.if-head.false))

-- what the two steps of the move say
moved : (c : goal.After-raise) → MovedBy (call_of c.args.hand.now) (view_of c.args.hand.now) c.args.ring c.args.element (claim_event (call_of c.args.hand.now) c.args.ring c.args.element) c.load_head-word.result c.raise.new.seat.me.0
moved c = let a = c.load_head-word.ensures in let x = c.exchange_head-found in let s = c.raise.ensures in let id = a.queue.0.1 in let id' = x.ensures.queue.0.1 ∙ id in let n = c.number-number.ensures.value in
    let ring = c.args.ring in let h = c.args.hand.now in let v = c.load_head-word.new.seat.me.0 in let m = x.new.seat.me.0 in let w = c.raise.new.seat.me.0 in let head = c.of-head.result.head in let known : c.args.element < ELEMENTS = search rules in
    let claimed = transport (λ i. HandDid (id i) v (head_word ring) c.load_head-word.result (claim_event (id i) ring (n i)) m) (x.ensures.hit c.if-found-word.false) in
    let raised = transport (λ i. HandDid (id' i) m (place_word ring head) s.effect.0 (raise_event (id' i) m ring head) w) s.effect.1 in
    moved_to _ _ _ _ _ head c.of-head.result.mark v m c.requires.table.1 (claim_moves h.seat.id ring c.args.element) claimed c.of-head.ensures.0 c.of-head.ensures.1 _ _ _ h.fresh c.requires.holds known a.found c.if-head.false raised

pub invariant_of-hand-2 : goal.invariant_of-hand-2
invariant_of-hand-2 c = let a = c.load_head-word.ensures in let x = c.exchange_head-found in let s = c.raise.ensures in let n = c.number-number.ensures.value in let h = c.args.hand.now in let has = (moved c).7.has in record {
  bare = s.queue.1 ∙ (x.ensures.queue.1 ∙ (a.queue.1 ∙ h.bare));
  one = ap (λ (z : View). z.member.ends) has ∙ h.one;
  none = ap (λ (z : View). z.own.claimed) has;
  fresh = ap (λ (z : View). z.own.fresh) has;
  holding = s.held ∙ ((λ i. set (h.holding i) (n i) false) ∙ sym (ap (λ (z : View). z.own.held) has));
  serving = h.serving ∙ sym (ap (λ (z : View). z.own.serves) has);
  putting = h.putting ∙ sym (ap (λ (z : View). z.own.on) has);
  valid = merely s.effect.1.step.valid;
  stands = s.stands;
}

pub returns-clause-trace : goal.returns-clause-trace
returns-clause-trace c = (c.load_head-word.result, moved c.before)

pub returns-then-head-clause-effect : goal.returns-then-head-clause-effect
returns-then-head-clause-effect c = move_effect _ _ c.load_head-word.ensures.found.valid c.args.hand.now.seat.id c.args.ring c.args.element (Err moves.Spent) c.requires.table.1 (returns-then-head-clause-trace c)

pub returns-then-head-clause-frame : goal.returns-then-head-clause-frame
returns-then-head-clause-frame c = move_keeps c.args.hand.now.seat.id c.args.ring c.args.element _ _ (Err moves.Spent) (returns-then-head-clause-trace c)

pub returns-then-head-clause-error : goal.returns-then-head-clause-error
returns-then-head-clause-error c = move_error _ _ c.load_head-word.ensures.found.valid c.args.hand.now.seat.id c.args.ring c.args.element (Err moves.Spent) c.requires.table.1 (returns-then-head-clause-trace c)

pub returns-then-found-word-clause-effect : goal.returns-then-found-word-clause-effect
returns-then-found-word-clause-effect c = let x = c.exchange_head-found.ensures.miss c.if-found-word.true in move_effect _ _ x.0.valid c.args.hand.now.seat.id c.args.ring c.args.element (Err (moves.Lost c.exchange_head-found.result)) c.requires.table.1 (returns-then-found-word-clause-trace c)

pub returns-then-found-word-clause-frame : goal.returns-then-found-word-clause-frame
returns-then-found-word-clause-frame c = move_keeps c.args.hand.now.seat.id c.args.ring c.args.element _ _ (Err (moves.Lost c.exchange_head-found.result)) (returns-then-found-word-clause-trace c)

pub returns-then-found-word-clause-error : goal.returns-then-found-word-clause-error
returns-then-found-word-clause-error c = let x = c.exchange_head-found.ensures.miss c.if-found-word.true in move_error _ _ x.0.valid c.args.hand.now.seat.id c.args.ring c.args.element (Err (moves.Lost c.exchange_head-found.result)) c.requires.table.1 (returns-then-found-word-clause-trace c)

pub returns-clause-effect : goal.returns-clause-effect
returns-clause-effect c = let s = c.raise.ensures in move_effect _ _ s.effect.1.step.valid c.args.hand.now.seat.id c.args.ring c.args.element (Ok tt) c.requires.table.1 (returns-clause-trace c)

pub returns-clause-frame : goal.returns-clause-frame
returns-clause-frame c = move_keeps c.args.hand.now.seat.id c.args.ring c.args.element _ _ (Ok tt) (returns-clause-trace c)

pub returns-then-head-clause-steps : goal.returns-then-head-clause-steps
returns-then-head-clause-steps c = move_bound c.args.hand.now.seat.id c.args.ring c.args.element _ _ (Err moves.Spent) (returns-then-head-clause-trace c)

pub returns-then-found-word-clause-steps : goal.returns-then-found-word-clause-steps
returns-then-found-word-clause-steps c = move_bound c.args.hand.now.seat.id c.args.ring c.args.element _ _ (Err (moves.Lost c.exchange_head-found.result)) (returns-then-found-word-clause-trace c)

pub returns-clause-steps : goal.returns-clause-steps
returns-clause-steps c = move_bound c.args.hand.now.seat.id c.args.ring c.args.element _ _ (Ok tt) (returns-clause-trace c)

pub invariant_of-hand : goal.invariant_of-hand
invariant_of-hand c = let h = c.args.hand.now in let a = c.load_head-word.ensures in let s = alike_by_look _ _ _ a.found.acts in record { bare = a.queue.1 ∙ h.bare; one = s.ends ∙ h.one; none = s.claimed ∙ h.none; fresh = s.fresh; holding = h.holding ∙ sym s.held; serving = h.serving ∙ sym s.serves; putting = h.putting ∙ sym s.on; valid = merely a.found.valid; stands = a.stands }

pub invariant_of-hand-then-found-word : goal.invariant_of-hand-then-found-word
invariant_of-hand-then-found-word c = let h = c.args.hand.now in let a = c.load_head-word.ensures in let x = c.exchange_head-found.ensures in let e = (x.miss c.if-found-word.true).0 in let s = alike_by_both _ _ _ (alike_by_look _ _ _ a.found.acts) (alike_by_look _ _ _ e.acts) in record { bare = x.queue.1 ∙ (a.queue.1 ∙ h.bare); one = s.ends ∙ h.one; none = s.claimed ∙ h.none; fresh = s.fresh; holding = h.holding ∙ sym s.held; serving = h.serving ∙ sym s.serves; putting = h.putting ∙ sym s.on; valid = merely e.valid; stands = x.stands }

use Rattle.claim_queue.proofs.Common.{rules, arith, length, inr, Fits, ap, ◌∙◌, Part, Positions}
use Rattle.claim_queue.proofs.Following.{shut_meanwhile, was_lost, claimed_items, then_look}
use Rattle.claim_queue.proofs.Pausing.{paused_last}
use Rattle.claim_queue.proofs.Permits.{may_claim}
use Rattle.claim_queue.proofs.Raising.{owns_claimed}
use Rattle.claim_queue.proofs.Staying.{stays_both}
use Rattle.claim_queue.proofs.ends.ClaimQueue.claim_places.Goals as goal

pub returns-clause-trace : goal.returns-clause-trace
returns-clause-trace g c = let fits : Fits g.row.N (length c.args.items.now) = search rules in let m = c.if-new-ge-SHUT.false in let room = c.if-new-tail.false in
    was_lost g.row.N c.args.items.now _ _ _ _ _ c.load_head-head.ensures.found c.load_tail-tail.ensures.found (omega arith) (omega arith) _ _ fits (c.exchange_head-found.ensures.miss c.if-found-head.false) c.if-found-ge-SHUT.false c.if-found-head.false

pub returns-then-found-ge-SHUT-clause-trace : goal.returns-then-found-ge-SHUT-clause-trace
returns-then-found-ge-SHUT-clause-trace g c = let fits : Fits g.row.N (length c.args.items.now) = search rules in let m = c.if-new-ge-SHUT.false in let room = c.if-new-tail.false in
    (fits, inr (shut_meanwhile g.row.N c.args.items.now _ _ _ _ _ c.load_head-head.ensures.found c.load_tail-tail.ensures.found (omega arith) (omega arith) _ _ (c.exchange_head-found.ensures.miss c.if-found-head.false) c.if-found-ge-SHUT.true))

pub returns-then-found-head-clause-trace : goal.returns-then-found-head-clause-trace
returns-then-found-head-clause-trace g c = let fits : Fits g.row.N (length c.args.items.now) = search rules in let m = c.if-new-ge-SHUT.false in let room = c.if-new-tail.false in
    claimed_items g.row.N c.args.items.now _ _ _ _ _ c.load_head-head.ensures.found c.load_tail-tail.ensures.found (omega arith) (omega arith) _ fits (c.exchange_head-found.ensures.hit c.if-found-head.true)

pub returns-then-found-head-clause-owns : goal.returns-then-found-head-clause-owns
returns-then-found-head-clause-owns g c = (owns_claimed _ _ _ _ (c.exchange_head-found.ensures.hit c.if-found-head.true), search rules)

pub returns-clause-hook : goal.returns-clause-hook
returns-clause-hook g c =
    paused_last _ _ c.args.end.now _ _ _ _ _ _ _ c.pause_at.ensures.called c.pause_at.ensures.shown (search rules) (then_look _ _ _ _ _ _ c.load_head-head.ensures.found.made c.load_tail-tail.ensures.found) (c.exchange_head-found.ensures.miss c.if-found-head.false).made

pub returns-then-found-ge-SHUT-clause-hook : goal.returns-then-found-ge-SHUT-clause-hook
returns-then-found-ge-SHUT-clause-hook g c = let m = c.if-new-ge-SHUT.false in let room = c.if-new-tail.false in let miss = c.exchange_head-found.ensures.miss c.if-found-head.false in
    inr (shut_meanwhile g.row.N c.args.items.now _ _ _ _ _ c.load_head-head.ensures.found c.load_tail-tail.ensures.found (omega arith) (omega arith) _ _ miss c.if-found-ge-SHUT.true, paused_last _ _ c.args.end.now _ _ _ _ _ _ _ c.pause_at.ensures.called c.pause_at.ensures.shown (search rules) (then_look _ _ _ _ _ _ c.load_head-head.ensures.found.made c.load_tail-tail.ensures.found) miss.made)

pub returns-then-found-head-clause-hook : goal.returns-then-found-head-clause-hook
returns-then-found-head-clause-hook g c =
    paused_last _ _ c.args.end.now _ _ _ _ _ _ _ c.pause_at.ensures.called c.pause_at.ensures.shown (search rules) (then_look _ _ _ _ _ _ c.load_head-head.ensures.found.made c.load_tail-tail.ensures.found) (c.exchange_head-found.ensures.hit c.if-found-head.true).2.made

pub exchange_head-found-requires-clause-protocol : goal.exchange_head-found-requires-clause-protocol
exchange_head-found-requires-clause-protocol g c = may_claim c.args.end.now g.C.Protocol.allows c.args.items.now _ _ _ _ c.requires.protocol c.load_head-head.ensures.found c.load_tail-tail.ensures.found (omega arith)

pub invariant_of-end : goal.invariant_of-end
invariant_of-end g c = let h = c.args.end.now in let s = c.load_head-head.ensures.queue.1 in record { room = ap (λ (q : Positions). q.room) s.1 ∙ h.room; bare = s.0 ∙ h.bare; one = ap (λ (m : Part). m.ends) s.2 ∙ h.one; ruled = s.3 }

pub invariant_of-end-then-new-ge-SHUT : goal.invariant_of-end-then-new-ge-SHUT
invariant_of-end-then-new-ge-SHUT g c = let h = c.args.end.now in let s = c.load_head-head.ensures.queue.1 in record { room = ap (λ (q : Positions). q.room) s.1 ∙ h.room; bare = s.0 ∙ h.bare; one = ap (λ (m : Part). m.ends) s.2 ∙ h.one; ruled = s.3 }

pub invariant_of-end-2 : goal.invariant_of-end-2
invariant_of-end-2 g c = let h = c.args.end.now in let s = stays_both h.seat.me c.load_head-head.new.seat.me c.load_tail-tail.new.seat.me c.load_head-head.ensures.queue.1 c.load_tail-tail.ensures.queue.1 in record { room = ap (λ (q : Positions). q.room) s.1 ∙ h.room; bare = s.0 ∙ h.bare; one = ap (λ (m : Part). m.ends) s.2 ∙ h.one; ruled = s.3 }

pub invariant_of-end-3 : goal.invariant_of-end-3
invariant_of-end-3 g c = let h = c.args.end.now in let s = stays_both h.seat.me c.load_tail-tail.new.seat.me c.exchange_head-found.new.seat.me (stays_both h.seat.me c.load_head-head.new.seat.me c.load_tail-tail.new.seat.me c.load_head-head.ensures.queue.1 c.load_tail-tail.ensures.queue.1) c.exchange_head-found.ensures.queue.1 in record { room = ap (λ (q : Positions). q.room) s.1 ∙ h.room; bare = s.0 ∙ h.bare; one = ap (λ (m : Part). m.ends) s.2 ∙ h.one; ruled = s.3 }

use Rattle.claim_queue.proofs.Common.{ap, ◌∙◌, Part, Positions}
use Rattle.claim_queue.proofs.Staying.{stays_both}
use Rattle.claim_queue.proofs.ends.ClaimQueue.refusal_at.Goals as goal

pub invariant_of-end : goal.invariant_of-end
invariant_of-end g c = let h = c.args.end.now in let s = c.load_head-head.ensures.queue.1 in record { room = ap (λ (q : Positions). q.room) s.1 ∙ h.room; bare = s.0 ∙ h.bare; one = ap (λ (m : Part). m.ends) s.2 ∙ h.one; ruled = s.3 }

pub invariant_of-end-2 : goal.invariant_of-end-2
invariant_of-end-2 g c = let h = c.args.end.now in let s = stays_both h.seat.me c.load_head-head.new.seat.me c.load_tail-now.new.seat.me c.load_head-head.ensures.queue.1 c.load_tail-now.ensures.queue.1 in record { room = ap (λ (q : Positions). q.room) s.1 ∙ h.room; bare = s.0 ∙ h.bare; one = ap (λ (m : Part). m.ends) s.2 ∙ h.one; ruled = s.3 }

use Rattle.thread_table.proofs.Common.{rules, refl, ◌<◌, ◌+◌, ◌≡◌, ◌∙◌, ap, ℕ, WAITS, wait_ring, sym, merely}
use Rattle.thread_table.proofs.Events.Answering.{found_in, is_ticket}
use Rattle.thread_table.proofs.Clients.{look_effect, ticket_says}
use Rattle.thread_table.proofs.Hands.Unchanged.{ticket_stays, alike_by_look}
use Rattle.thread_table.proofs.ClientBounds.{ticket_bound}
use Rattle.thread_table.proofs.hand.ThreadTable.ticket.Goals as goal

pub returns-clause-trace : goal.returns-clause-trace
returns-clause-trace c = let q = c.number.ensures in let known : c.args.wait < WAITS = search rules in let ring : c.wait_ring.result ≡ wait_ring c.args.wait = c.wait_ring.ensures.0 ∙ ap (λ (n : ℕ). n + 2) q.value in
    is_ticket _ _ c.args.wait _ c.of.result.head c.of.result.mark (found_in ring c.load_head.ensures.found) c.of.ensures.0 c.of.ensures.1

pub returns-clause-effect : goal.returns-clause-effect
returns-clause-effect c = let t = returns-clause-trace c in look_effect _ _ _ t.3 (refl, tt)

pub returns-clause-result : goal.returns-clause-result
returns-clause-result c = let known : c.args.wait < WAITS = search rules in ticket_says _ _ c.load_head.ensures.found.valid c.args.wait _ known (returns-clause-trace c)

pub returns-clause-frame : goal.returns-clause-frame
returns-clause-frame c = (ticket_stays c.args.wait _ _ _ (returns-clause-trace c)).keeps

pub returns-clause-steps : goal.returns-clause-steps
returns-clause-steps c = ticket_bound c.args.wait _ _ _ (returns-clause-trace c)

pub invariant_of-hand : goal.invariant_of-hand
invariant_of-hand c = let h = c.args.hand.now in let a = c.load_head.ensures in let s = alike_by_look _ _ _ a.found.acts in record { bare = a.queue.1 ∙ h.bare; one = s.ends ∙ h.one; none = s.claimed ∙ h.none; fresh = s.fresh; holding = h.holding ∙ sym s.held; serving = h.serving ∙ sym s.serves; putting = h.putting ∙ sym s.on; valid = merely a.found.valid; stands = a.stands }

use Rattle.claim_queue.proofs.Common.{rules, ◌≡◌, ℕ, List, subst, Raised}
use Rattle.claim_queue.proofs.Brevity.{raised_steps}
use Rattle.claim_queue.proofs.Clients.{raise_result, raised_shuts}
use Rattle.claim_queue.proofs.Lining.{raised_lines}
use Rattle.claim_queue.proofs.ends.ClaimQueue.raise_next.Goals as goal

pub returns-clause-effect : goal.returns-clause-effect
returns-clause-effect g c = let same : c.as_slice.result.now ≡ c.args.claim.now.items.items = search rules in
    raised_lines _ _ _ _ _ _ c.requires.owns (subst (λ (z : List ℕ). Raised g.row.N c.args.end.now.seat.me.0 c.args.claim.now.start z c.args.claim.now.raised c.raise_place.new.end.seat.me.0) same c.raise_place.ensures.trace)

pub returns-clause-result : goal.returns-clause-result
returns-clause-result g c = let same : c.as_slice.result.now ≡ c.args.claim.now.items.items = search rules in
    raise_result c.args.end.now _ c.raise_place.new.end.ruled _ _ _ (subst (λ (z : List ℕ). Raised g.row.N c.args.end.now.seat.me.0 c.args.claim.now.start z c.args.claim.now.raised c.raise_place.new.end.seat.me.0) same c.raise_place.ensures.trace)

pub returns-clause-shuts_nothing : goal.returns-clause-shuts_nothing
returns-clause-shuts_nothing g c = raised_shuts _ _ _ _ _ _ c.raise_place.ensures.trace

pub returns-clause-steps : goal.returns-clause-steps
returns-clause-steps g c = raised_steps _ _ _ _ _ _ c.raise_place.ensures.trace

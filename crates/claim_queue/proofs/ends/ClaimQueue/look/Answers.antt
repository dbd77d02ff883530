use Rattle.claim_queue.proofs.Walking.{head_past, says_of, looked_at, looked_moments}
use Rattle.claim_queue.proofs.ends.ClaimQueue.look.Goals as goal

pub overflow_sub-head : goal.overflow_sub-head
overflow_sub-head g c = head_past _ _ _ _ _ c.load_tail-tail.ensures.found c.load_head-word.ensures.found

pub returns-clause-result : goal.returns-clause-result
returns-clause-result g c = let r = c.count_raised-raised.ensures in says_of _ _ _ _ _ c.load_tail-tail.ensures.found c.load_head-word.ensures.found g.row.N _ _ c.count_raised-raised.new.end.seat.me.0 c.min-most.ensures r.grows r.most r.raised r.next

pub returns-clause-trace : goal.returns-clause-trace
returns-clause-trace g c = looked_at _ _ _ _ _ c.load_tail-tail.ensures.found c.load_head-word.ensures.found g.row.N _ _ _ c.min-most.ensures c.count_raised-raised.ensures.trace

pub returns-clause-moments : goal.returns-clause-moments
returns-clause-moments g c = looked_moments _ _ _ _ _ c.load_tail-tail.ensures.found c.load_head-word.ensures.found g.row.N _ _ _ c.min-most.ensures c.count_raised-raised.ensures.trace

pub returns-clause-shuts_nothing : goal.returns-clause-shuts_nothing
returns-clause-shuts_nothing g c = let made = (looked_at _ _ _ _ _ c.load_tail-tail.ensures.found c.load_head-word.ensures.found g.row.N _ _ _ c.min-most.ensures c.count_raised-raised.ensures.trace).made in (λ k. (made.did k).shuts)

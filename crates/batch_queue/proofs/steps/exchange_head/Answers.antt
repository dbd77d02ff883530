use Rattle.batch_queue.proofs.Common.{ap, arith, length, ◌≡◌}
use Rattle.batch_queue.proofs.Under.{claims_as}
use Rattle.batch_queue.proofs.steps.exchange_head.Goals as goal

pub compare_exchange-requires : goal.compare_exchange-requires
compare_exchange-requires g c = let q = c.requires.queue in let new = c.requires.new in let fits = c.requires.room in let many : length c.args.items.now ≡ length g.J.ClaimItems.items = ap length c.requires.items.0 in
    let some_item = c.requires.items.1 in (q.0, omega arith, claims_as g.C.Protocol.allows _ _ _ _ _ _ _ (omega arith) (omega arith) new.1 fits c.requires.live c.requires.bare.1 c.requires.bare.0 c.requires.protocol)

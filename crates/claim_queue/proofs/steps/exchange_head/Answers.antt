use Rattle.claim_queue.proofs.Common.{rules, arith, ap, ◌≡◌}
use Rattle.std.specs.Prelude.{length}
use Rattle.claim_queue.proofs.Under.{claims_as}
use Rattle.claim_queue.proofs.steps.exchange_head.Goals as goal

pub compare_exchange-requires : goal.compare_exchange-requires
compare_exchange-requires g c = let n : length c.args.items.now ≡ length g.J.ClaimItems.items = ap length c.requires.items.0 in let new = c.requires.new in let fits = c.requires.room in
    (search rules, search rules, claims_as g.C.Protocol.allows _ _ _ _ _ _ _ (omega arith) new.1 (omega arith) c.requires.live (omega arith) c.requires.protocol)

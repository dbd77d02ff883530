use Rattle.claim_queue.proofs.Common.{refl, sym, arith, mod-lt, ◌∙◌, ◌<◌, ◌+◌, ◌%◌, fresh, data_word}
use Rattle.claim_queue.proofs.Under.{data_as}
use Rattle.claim_queue.proofs.steps.store_data.Goals as goal

pub store-requires : goal.store-requires
store-requires g c = let q = c.requires.queue in let room = q.4 in let wide = q.3 in let near : (c.args.start + c.args.index) % c.args.room < c.args.room = mod-lt (c.args.start + c.args.index) room in let start = c.requires.spot.0 in let index = c.requires.spot.1 in
    (q.0, omega arith, data_as g.C.Protocol.allows _ _ _ _ g.J.Spot.start g.J.Spot.index _ _ (fresh c.args.item) q.1 c.requires.mine refl (c.data_word.ensures ∙ (λ k. data_word (sym q.2 k) (sym start k + sym index k))))

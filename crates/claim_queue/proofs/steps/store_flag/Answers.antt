use Rattle.claim_queue.proofs.Common.{refl, sym, arith, mod-lt, ◌∙◌, ◌<◌, ◌+◌, ◌%◌, flag_word}
use Rattle.claim_queue.proofs.Under.{flag_as}
use Rattle.claim_queue.proofs.steps.store_flag.Goals as goal

pub store-requires : goal.store-requires
store-requires g c = let q = c.requires.queue in let room = q.4 in let wide = q.3 in let near : (c.args.start + c.args.index) % c.args.room < c.args.room = mod-lt (c.args.start + c.args.index) room in let start = c.requires.spot.0 in let index = c.requires.spot.1 in
    (q.0, omega arith, flag_as g.C.Protocol.allows _ _ _ _ g.J.Spot.start g.J.Spot.index _ _ _ q.1 c.requires.mine.1 refl (c.flag_word-word.ensures ∙ (λ k. flag_word (sym q.2 k) (sym start k + sym index k))) (λ k. sym start k + sym index k + 1))

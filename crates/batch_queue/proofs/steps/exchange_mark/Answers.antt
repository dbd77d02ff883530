use Rattle.batch_queue.proofs.Common.{IsWithin, arith, mark_word, mod-lt, subst, sym, ◌%◌, ◌<◌, ◌∙◌, ℕ}
use Rattle.batch_queue.proofs.Under.{parts_as}
use Rattle.batch_queue.proofs.steps.exchange_mark.Goals as goal

pub compare_exchange-requires : goal.compare_exchange-requires
compare_exchange-requires g c = let q = c.requires.queue in let near = c.requires.near.0 in let room = q.rooms in let words = q.words in let word = c.mark_word-word.ensures in let is = c.requires.position.0 in let ends = c.requires.position.1 in
    let wide : c.args.position % c.args.room < c.args.room = mod-lt c.args.position q.some_room in (
      q.one,
      omega arith,
      parts_as g.C.Protocol.allows _ _ _ _ _ _ _ _ (subst (λ (z : ℕ). IsWithin c.args.seat.now.me.0.seen.object z c.args.end) (sym is) c.requires.within) (let i = c.requires.idle in omega arith) (omega arith) (word ∙ (λ k. mark_word (sym room k) (sym is k))) q.live _ ends,
    )

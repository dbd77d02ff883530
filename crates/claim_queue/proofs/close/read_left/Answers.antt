use Rattle.claim_queue.proofs.Common.{rules, arith, ap, ◌≡◌, ◌∙◌, ◌<◌, ◌-◌, length, slots_items, left_at}
use Rattle.table_theory.proofs.Reading.{read_length, read_on}
use Rattle.claim_queue.proofs.close.read_left.Goals as goal

pub push-requires : goal.push-requires
push-requires g c = let n = read_length (left_at g.row.N (slots_items c.args.closed.now.words)) c.args.tail (c.loop-position.position - c.args.tail) in let long : length c.loop-position.left.items ≡ c.loop-position.position - c.args.tail = ap length c.loop-position.invariant ∙ n in
    let r = c.requires.range in let t = c.loop-position-test.true in let from = c.loop-position.auto.position in let h : length c.loop-position.left.items < g.row.N = omega arith in (search rules, h)

pub loop-position-preserved : goal.loop-position-preserved
loop-position-preserved g c = c.push.ensures.items ∙ read_on (left_at g.row.N (slots_items c.args.closed.now.words)) c.args.tail c.loop-position.position _ _ c.loop-position.auto.position c.loop-position.invariant c.read_at.ensures

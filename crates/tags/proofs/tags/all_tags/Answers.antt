use Rattle.tags.proofs.Common.{◌∷◌, ◌++◌, ◌∙◌, ◌<◌, [], List, ℕ, ap, sym, length, rules, arith, length-range_with_len, one_more}
use Rattle.tags.proofs.tags.all_tags.Goals as goal

pub push-requires : goal.push-requires
push-requires g c = let long = ap length c.loop-tag.invariant ∙ length-range_with_len 0 c.loop-tag.tag in let t = c.loop-tag-test.true in let h : length c.loop-tag.tags.items < g.row.N = omega arith in (search rules, h)

pub loop-tag-preserved : goal.loop-tag-preserved
loop-tag-preserved g c = c.push.ensures.items ∙ (ap (λ (z : List ℕ). z ++ c.loop-tag.tag ∷ []) c.loop-tag.invariant ∙ sym (one_more c.loop-tag.tag))

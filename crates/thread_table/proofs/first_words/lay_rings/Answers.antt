use Rattle.thread_table.proofs.Common.{rules, arith, set, IsUsed, by_head, by_tail, unused_kept}
use Rattle.thread_table.proofs.first_words.lay_rings.Goals as goal

pub loop-ring-preserved : goal.loop-ring-preserved
loop-ring-preserved c = let i = c.loop-ring.invariant in record {
  wide = search rules;
  heads = search rules;
  tails = search rules;
  low = search rules;
  items = search rules;
  unused = λ zeros. unused_kept IsUsed (set c.loop-ring.words c.head_word.result c.args.first) c.tail_word.result c.args.first (by_tail c.loop-ring.ring (omega arith) c.tail_word.ensures.0)
      (unused_kept IsUsed c.loop-ring.words c.head_word.result c.args.first (by_head c.loop-ring.ring (omega arith) c.head_word.ensures.0) (i.unused zeros));
}

pub returns : goal.returns
returns c = let i = c.loop-ring.invariant in record {
  wide = search rules;
  heads = search rules;
  tails = search rules;
  low = search rules;
  items = search rules;
  unused = λ zeros. unused_kept IsUsed c.loop-ring.words c.head_word-2.result _ (by_head 1 (omega arith) c.head_word-2.ensures.0) (i.unused zeros);
}

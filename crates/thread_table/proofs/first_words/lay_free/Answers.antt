use Rattle.thread_table.proofs.Common.{◌+◌, rules, arith, IsUsed, by_place, unused_kept}
use Rattle.thread_table.proofs.first_words.lay_free.Goals as goal

pub loop-element-preserved : goal.loop-element-preserved
loop-element-preserved c = let i = c.loop-element.invariant in record {
  wide = search rules;
  places = search rules;
  low = search rules;
  high = search rules;
  unused = λ zeros. unused_kept IsUsed c.loop-element.words c.place_word.result c.word.result (by_place 1 (c.args.first + c.loop-element.element) (omega arith) c.place_word.ensures.0) (i.unused zeros);
}

use Rattle.thread_table.proofs.Common.{sym, ◌≢◌, ◌+◌, ◌∙◌, ℕ, slots_items, word_at, below_more, processor_word}
use Rattle.thread_table.proofs.Closing.Locating.{read_there}
use Rattle.thread_table.proofs.places.processor_of.Goals as goal

pub loop-p-preserved : goal.loop-p-preserved
loop-p-preserved c = below_more (λ (q : ℕ). word_at (slots_items c.args.closed.now.words) (processor_word q) ≢ c.args.element + 1) c.loop-p.p c.loop-p.invariant
    (λ is. c.if-word-element.false (sym (read_there (slots_items c.args.closed.now.words) _ (processor_word c.loop-p.p) c.word.result c.processor_word.ensures.0 c.word.ensures) ∙ is))

pub returns-then-word-element : goal.returns-then-word-element
returns-then-word-element c = (
  c.loop-p-test.true,
  read_there (slots_items c.args.closed.now.words) _ (processor_word c.loop-p.p) c.word.result c.processor_word.ensures.0 c.word.ensures ∙ c.if-word-element.true,
)

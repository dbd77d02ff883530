use Rattle.thread_table.proofs.Common.{rules, sym, ◌≡◌, ℕ, slots_items, word_at, done_word}
use Rattle.thread_table.proofs.Closing.Locating.{filled_next, read_there}
use Rattle.thread_table.proofs.close.read_pcs.Goals as goal

pub loop-element-preserved : goal.loop-element-preserved
loop-element-preserved c = filled_next (λ (x word : ℕ). word ≡ word_at (slots_items c.args.closed.now.words) (done_word x)) c.loop-element.pcs 64 c.loop-element.element c.from.result c.word.result 0
    (search rules) c.loop-element-test.true
    (sym (read_there (slots_items c.args.closed.now.words) c.done_word.result (done_word c.loop-element.element) c.word.result c.done_word.ensures.0 c.word.ensures)) c.loop-element.invariant

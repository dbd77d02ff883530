use Rattle.thread_table.proofs.Common.{rules, ap, ◌≡◌, ◌∙◌, ◌%◌, ℕ, slots_items, word_at, state_word}
use Rattle.thread_table.proofs.Closing.Locating.{filled_next}
use Rattle.thread_table.proofs.close.read_pending.Goals as goal

pub loop-element-preserved : goal.loop-element-preserved
loop-element-preserved c = filled_next (λ (x word : ℕ). word ≡ word_at (slots_items c.args.closed.now.words) (state_word x) % 65536) c.loop-element.pending 64 c.loop-element.element c.from.result c.pending.result 0
    (search rules) c.loop-element-test.true
    (c.pending.ensures ∙ ap (λ (n : ℕ). n % 65536) c.state_of.ensures) c.loop-element.invariant

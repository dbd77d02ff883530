use Rattle.thread_table.proofs.Common.{◌≢◌, ◌+◌, ◌<◌, ℕ, slots_items, word_at, processor_word}
use Rattle.thread_table.proofs.places.processor_of.Given as goal

abbrev pub invariant-loop-p : goal.invariant-loop-p
invariant-loop-p l = (q : ℕ) → q < l.p → word_at (slots_items l.closed.words) (processor_word q) ≢ l.element + 1

use Rattle.thread_table.proofs.Common.{◌≡◌, ◌<◌, ℕ, get_or, length, slots_items, word_at, done_word}
use Rattle.thread_table.proofs.close.read_pcs.Given as goal

abbrev pub invariant-loop-element : goal.invariant-loop-element
invariant-loop-element l = (length l.pcs ≡ 64) × ((x : ℕ) → x < l.element → get_or l.pcs x 0 ≡ word_at (slots_items l.closed.words) (done_word x))

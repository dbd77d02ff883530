use Rattle.thread_table.proofs.Common.{◌≡◌, ◌%◌, ◌<◌, ℕ, get_or, length, slots_items, word_at, state_word}
use Rattle.thread_table.proofs.close.read_pending.Given as goal

abbrev pub invariant-loop-element : goal.invariant-loop-element
invariant-loop-element l = (length l.pending ≡ 64) × ((x : ℕ) → x < l.element → get_or l.pending x 0 ≡ word_at (slots_items l.closed.words) (state_word x) % 65536)

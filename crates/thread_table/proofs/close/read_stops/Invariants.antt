use Rattle.thread_table.proofs.Common.{ℕ, bit_at, slots_items, word_at, state_word}
use Rattle.thread_table.proofs.Closing.Locating.{BitsBelow}
use Rattle.thread_table.proofs.close.read_stops.Given as goal

abbrev pub invariant-loop-element : goal.invariant-loop-element
invariant-loop-element l = BitsBelow (λ (x : ℕ). bit_at (word_at (slots_items l.closed.words) (state_word x)) 16) l.element l.stops

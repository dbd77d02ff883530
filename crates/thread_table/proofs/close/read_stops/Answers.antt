use Rattle.thread_table.proofs.Common.{sym, ap, ◌∙◌, ℕ, bit_at, slots_items, word_at, state_word}
use Rattle.thread_table.proofs.Closing.Locating.{bit_next_one, bit_next_zero}
use Rattle.thread_table.proofs.close.read_stops.Goals.{then-is_stopping, else-is_stopping}
use Rattle.thread_table.proofs.close.read_stops.Goals as goal

pub loop-element-preserved : goal.loop-element-preserved
loop-element-preserved c = elim c.if-is_stopping.branch [
  | then-is_stopping w ↦ bit_next_one (λ (x : ℕ). bit_at (word_at (slots_items c.args.closed.now.words) (state_word x)) 16) c.loop-element.element c.loop-element.stops c.if-is_stopping.stops
      c.loop-element-test.true w.stops-is (ap (λ (n : ℕ). bit_at n 16) (sym c.state_of.ensures) ∙ w.if-is_stopping.ensures) c.loop-element.invariant
  | else-is_stopping w ↦ bit_next_zero (λ (x : ℕ). bit_at (word_at (slots_items c.args.closed.now.words) (state_word x)) 16) c.loop-element.element c.loop-element.stops c.if-is_stopping.stops
      w.stops-is (ap (λ (n : ℕ). bit_at n 16) (sym c.state_of.ensures) ∙ w.if-is_stopping.ensures) c.loop-element.invariant
]

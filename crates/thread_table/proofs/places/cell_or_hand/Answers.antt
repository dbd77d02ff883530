use Rattle.thread_table.proofs.Common.{sym, subst, ◌≡◌, ◌==◌, ℕ, None, bit_at, slots_items, place_by, state_word}
use Rattle.thread_table.specs.declared.places.Place.TheVariants as places
use Rattle.thread_table.proofs.Closing.Locating.{read_there, cell, hand}
use Rattle.thread_table.proofs.places.cell_or_hand.Goals as goal

pub returns-then-is_parked : goal.returns-then-is_parked
returns-then-is_parked c = subst (λ (w : ℕ). places.Stopped ≡ place_by None None (bit_at w 17 == 1))
    (sym (read_there (slots_items c.args.closed.now.words) _ (state_word c.args.element) c.word.result c.state_word.ensures.0 c.word.ensures))
    (cell c.word.result c.if-is_parked.ensures)

pub returns-else-is_parked : goal.returns-else-is_parked
returns-else-is_parked c = subst (λ (w : ℕ). places.Held ≡ place_by None None (bit_at w 17 == 1))
    (sym (read_there (slots_items c.args.closed.now.words) _ (state_word c.args.element) c.word.result c.state_word.ensures.0 c.word.ensures))
    (hand c.word.result c.if-is_parked.ensures)

use Rattle.thread_table.proofs.Common.{ℕ, ap, ◌∙◌, place_word}
use Rattle.thread_table.proofs.Events.Steps.{found_at, found_place}
use Rattle.thread_table.proofs.steps.load_place.Goals as goal

pub returns-clause-found : goal.returns-clause-found
returns-clause-found c = found_at c.place_word.ensures.0 c.load.ensures.2

pub returns-clause-place : goal.returns-clause-place
returns-clause-place c = let ring = c.args.ring in
    found_place _ _ _ _ c.requires.queue.2 (found_at (c.place_word.ensures.0 ∙ ap (λ (z : ℕ). place_word ring z) c.requires.tail) c.load.ensures.2)

pub returns-clause-stands : goal.returns-clause-stands
returns-clause-stands c = c.load.ensures.3

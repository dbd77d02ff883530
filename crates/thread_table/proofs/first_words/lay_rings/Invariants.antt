use Rattle.thread_table.proofs.Common.{RingsLaid}
use Rattle.thread_table.proofs.first_words.lay_rings.Given as goal

-- the rings so far are laid
abbrev pub invariant-loop-ring : goal.invariant-loop-ring
invariant-loop-ring l = RingsLaid l.fn.first 0 l.ring l.fn.words l.words

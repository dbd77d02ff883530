use Rattle.thread_table.proofs.Common.{ItemsLaid}
use Rattle.thread_table.proofs.first_words.lay_free.Given as goal

-- the elements so far are laid
abbrev pub invariant-loop-element : goal.invariant-loop-element
invariant-loop-element l = ItemsLaid l.fn.first l.element l.fn.words l.words

use Rattle.thread_table.proofs.Common.{arith}
use Rattle.thread_table.proofs.Events.Steps.{found_at, found_tail, small_tail}
use Rattle.thread_table.proofs.steps.load_tail.Goals as goal

pub returns-clause-found : goal.returns-clause-found
returns-clause-found c = found_at c.tail_word.ensures.0 c.load.ensures.2

pub returns-clause-tail : goal.returns-clause-tail
returns-clause-tail c = found_tail _ _ _ _ c.requires.queue.2 (found_at c.tail_word.ensures.0 c.load.ensures.2)

pub returns-clause-bounded : goal.returns-clause-bounded
returns-clause-bounded c = let f = found_at c.tail_word.ensures.0 c.load.ensures.2 in let tail = found_tail _ _ _ _ c.requires.queue.2 f in let bounded = small_tail c.args.seat.now.me.0 c.load.new.seat.me.0 c.args.ring c.requires.queue.2 f.sees in omega arith

pub returns-clause-stands : goal.returns-clause-stands
returns-clause-stands c = c.load.ensures.3

use Rattle.proc_chain.proofs.Common.{◌≡◌, ◌-◌, slots_items, left_from}
use Rattle.proc_chain.proofs.close.read_left.Given as goal

abbrev pub invariant-loop-position : goal.invariant-loop-position
invariant-loop-position g l = l.left.items ≡ left_from (slots_items l.closed.words) l.tail (l.position - l.tail)

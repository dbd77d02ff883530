use Rattle.thread_table.proofs.Common.{slots_items}
use Rattle.thread_table.proofs.Closing.Locating.{NotBefore}
use Rattle.thread_table.proofs.places.is_in_ring.Given as goal

abbrev pub invariant-loop-position : goal.invariant-loop-position
invariant-loop-position l = NotBefore l.element (slots_items l.closed.words) l.ring l.tail l.position

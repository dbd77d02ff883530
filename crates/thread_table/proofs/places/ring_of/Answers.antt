use Rattle.thread_table.proofs.Common.{arith, ℕ, slots_items, IsIn, below_more}
use Rattle.thread_table.proofs.places.ring_of.Goals as goal

pub loop-ring-preserved : goal.loop-ring-preserved
loop-ring-preserved c = below_more (λ (ring : ℕ). IsIn c.args.element (slots_items c.args.closed.now.words) ring → ⊥) c.loop-ring.ring c.loop-ring.invariant c.if-is_in_ring.ensures

pub returns : goal.returns
returns c = λ ring below. c.loop-ring.invariant ring (omega (arith, below, c.loop-ring-test.false))

use Rattle.quajects.proofs.Common.{arith, view_of, lines_put, puts_of}
use Rattle.quajects.proofs.Counts.{counted_place}
use Rattle.quajects.proofs.switching.Switch.put.Goals as goal

pub loop-way-preserved : goal.loop-way-preserved
loop-way-preserved c = let switch = c.args.self.now in let four = c.type_inv.way-items in let t = c.loop-way-test.true in
    counted_place puts_of (lines_put (view_of switch.other.end)) switch.ways c.loop-way.way-index c.way-item.result _ _ (omega arith) c.loop-way.invariant c.put_at-total.ensures

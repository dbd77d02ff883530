use Rattle.bindings.specs.QueueParts.{view_of}
use Rattle.bindings.proofs.QueueEnds.{take_keeps, still_raised}
use Rattle.bindings.proofs.queue.part.Part.try_take.Goals as goal

pub invariant_of-self-clause-raised : goal.invariant_of-self-clause-raised
invariant_of-self-clause-raised g c = let x = c.args.self.now in let e = c.try_take.new.end in
    still_raised (take_keeps g.row.N (view_of x.end) (view_of e) c.try_take.result c.try_take.ensures.trace) x.raised

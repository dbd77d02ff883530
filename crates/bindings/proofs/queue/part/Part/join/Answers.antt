use Rattle.bindings.specs.QueueParts.{view_of}
use Rattle.bindings.proofs.QueueEnds.{joined_raised}
use Rattle.bindings.proofs.queue.part.Part.join.Goals as goal

pub invariant_of-self-clause-raised : goal.invariant_of-self-clause-raised
invariant_of-self-clause-raised g c = let x = c.args.self.now in let y = c.args.other in
    joined_raised (view_of x.end) (view_of y.end) (view_of c.join.new.end) c.join.ensures.trace x.raised y.raised

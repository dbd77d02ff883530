use Rattle.std.proofs.Common.{sym, ◌∙◌, take, length}
use Rattle.bindings.specs.QueueParts.{view_of}
use Rattle.bindings.proofs.QueueEnds.{some_keeps, still_raised}
use Rattle.bindings.proofs.queue.part.Part.take_up_to.Goals as goal

pub invariant_of-self-clause-known : goal.invariant_of-self-clause-known
invariant_of-self-clause-known g c = let x = c.args.self.now in let t = c.take_up_to in
    x.known ∙ sym (some_keeps g.row.N (view_of x.end) (view_of t.new.end) (take t.result.0 t.new.out) (length c.args.out.now) t.result.1 t.ensures.taken).share

pub invariant_of-self-clause-raised : goal.invariant_of-self-clause-raised
invariant_of-self-clause-raised g c = let x = c.args.self.now in let t = c.take_up_to in
    still_raised (some_keeps g.row.N (view_of x.end) (view_of t.new.end) (take t.result.0 t.new.out) (length c.args.out.now) t.result.1 t.ensures.taken) x.raised

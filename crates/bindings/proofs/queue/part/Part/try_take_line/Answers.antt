use Rattle.std.proofs.Common.{rules}
use Rattle.bindings.specs.QueueParts.{view_of}
use Rattle.bindings.proofs.QueueEnds.{line_keeps, still_raised}
use Rattle.bindings.proofs.Buffers.{line_filled}
use Rattle.bindings.proofs.queue.part.Part.try_take_line.Goals as goal

pub invariant_of-self-clause-raised : goal.invariant_of-self-clause-raised
invariant_of-self-clause-raised g c = let x = c.args.self.now in let t = c.try_take_line in
    still_raised (line_keeps g.row.N (view_of x.end) (view_of t.new.end) t.new.line.items t.result t.ensures.trace) x.raised

pub returns-in-Ok : goal.returns-in-Ok
returns-in-Ok g c = let x = c.args.self.now in let t = c.try_take_line in let l = t.new.line.items in let d = c.in-Ok.ensures.line in
    let f = line_filled g.row.N (view_of x.end) (view_of t.new.end) c.in-Ok.taken l c.args.out.now c.copy_line.new.out d.0 (search rules) (search rules) (search rules) d.1 c.in-Ok.ensures.trace in
    (search rules, f)

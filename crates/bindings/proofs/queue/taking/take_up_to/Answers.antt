use Rattle.bindings.proofs.Calls.{rules, ◌∙◌, ℕ, List, sym, subst, TookEach}
use Rattle.bindings.specs.QueueParts.{view_of}
use Rattle.bindings.proofs.Buffers.{kept_more, filled_more}
use Rattle.bindings.proofs.QueueEnds.{each_more}
use Rattle.bindings.proofs.queue.taking.take_up_to.Goals as goal

pub loop-i-preserved : goal.loop-i-preserved
loop-i-preserved g c = let l = c.loop-i in let n = g.row.N in let e = c.args.end.now in let x = c.in-Ok.item in let w = view_of c.try_take.new.end in
    let s = c.try_take.ensures.handle in let k = l.invariant.same in record {
      same = (s.0 ∙ k.0, s.1 ∙ k.1);
      kept = kept_more l.i x c.args.out.now l.out l.invariant.kept;
      took = subst (λ (z : List ℕ). TookEach n (view_of e) z w) (sym (filled_more l.i x l.out (search rules)))
          (each_more n (view_of e) (view_of l.end) w _ x l.invariant.took c.in-Ok.ensures.trace);
    }

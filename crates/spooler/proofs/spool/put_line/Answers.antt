use Rattle.spooler.proofs.Common.{rules, [], ◌∷◌, List, ℕ, subst, view_of, HasPut}
use Rattle.spooler.proofs.Putting.{put_one, put_lost, put_on}
use Rattle.spooler.proofs.spool.put_line.Goals as goal

pub returns-in-Ok-clause-put : goal.returns-in-Ok-clause-put
returns-in-Ok-clause-put g c = subst (λ (z : List ℕ). HasPut (z ∷ []) (view_of c.args.end.now) (view_of c.put.new.end)) c.as_slice.ensures.value
    (put_on (view_of c.args.end.now) (view_of c.loop.end) (view_of c.put.new.end) [] (c.as_slice.result.now ∷ []) c.loop.invariant.none
    (put_one 64 (view_of c.loop.end) (view_of c.put.new.end) c.as_slice.result.now c.put.result c.put.ensures.trace c.in-Ok.ensures.effect))

pub loop-preserved : goal.loop-preserved
loop-preserved g c = record {
  steps = search rules;
  mine = search rules;
  none = put_on (view_of c.args.end.now) (view_of c.loop.end) (view_of c.put.new.end) [] [] c.loop.invariant.none
      (put_lost 64 (view_of c.loop.end) (view_of c.put.new.end) c.as_slice.result.now c.put.result c.put.ensures.trace c.in-Err.ensures.effect);
}

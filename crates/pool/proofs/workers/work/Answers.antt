use Rattle.std.proofs.Common.{refl, ◌∙◌}
use Rattle.pool.specs.Handles.{view_of}
use Rattle.pool.proofs.Working.{same_on, turned_again}
use Rattle.pool.proofs.workers.work.Goals as goal

pub loop-done-init : goal.loop-done-init
loop-done-init g c = record {
  pool = c.requires;
  same = λ x. refl;
  share = refl;
  turns = refl;
}

pub loop-done-preserved : goal.loop-done-preserved
loop-done-preserved g c = record {
  pool = c.turn.ensures.pool;
  same = same_on (view_of c.args.holder) (view_of c.loop-done.holder) (view_of c.turn.new.holder)
      c.loop-done.invariant.same c.turn.ensures.effect;
  share = c.turn.ensures.share ∙ c.loop-done.invariant.share;
  turns = turned_again _ _ c.loop-done.done (view_of c.args.holder) (view_of c.loop-done.holder)
      (view_of c.turn.new.holder) c.loop-done.invariant.turns c.turn.ensures.trace;
}

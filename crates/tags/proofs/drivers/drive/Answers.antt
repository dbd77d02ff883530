use Rattle.std.proofs.Common.{◌∙◌}
use Rattle.tags.specs.Handles.{view_of}
use Rattle.tags.proofs.Working.{same_on}
use Rattle.tags.proofs.drivers.drive.Goals as goal

pub loop-preserved : goal.loop-preserved
loop-preserved g c = record {
  pool = c.turn.ensures.pool;
  same = same_on (view_of c.args.holder) (view_of c.loop.holder) (view_of c.turn.new.holder) c.loop.invariant.same c.turn.ensures.effect;
  share = c.turn.ensures.share ∙ c.loop.invariant.share;
}

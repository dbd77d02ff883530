use Rattle.std.proofs.Common.{rules, ◌∙◌}
use Rattle.tags.specs.Handles.{view_of}
use Rattle.tags.proofs.Working.{less_on, same_holds, same_on}
use Rattle.tags.proofs.drivers.give_back.Goals as goal

pub give_back-requires : goal.give_back-requires
give_back-requires g c = let h = same_holds (view_of c.args.holder.now) (view_of c.loop.holder) c.args.tag c.loop.invariant.same c.requires.holds in (search rules, (search rules, (c.loop.invariant.pool, h)))

pub returns-in-Ok-clause-effect : goal.returns-in-Ok-clause-effect
returns-in-Ok-clause-effect g c = less_on (view_of c.args.holder.now) (view_of c.loop.holder) (view_of c.give_back.new.holder) c.args.tag c.loop.invariant.same c.in-Ok.ensures.effect.less

pub loop-preserved : goal.loop-preserved
loop-preserved g c = record {
  steps = search rules;
  pool = c.in-Err.ensures.pool;
  same = same_on (view_of c.args.holder.now) (view_of c.loop.holder) (view_of c.give_back.new.holder) c.loop.invariant.same c.in-Err.ensures.effect;
  share = c.in-Err.ensures.share ∙ c.loop.invariant.share;
}

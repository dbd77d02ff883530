use Rattle.std.proofs.Common.{refl, rules, suc, ◌∙◌}
use Rattle.pool.specs.Handles.{view_of}
use Rattle.pool.proofs.Working.{less_on, same_holds, same_on}
use Rattle.pool.proofs.workers.give_back.Goals as goal

pub loop-init : goal.loop-init
loop-init g c = record {
  steps = search rules;
  pool = c.requires.pool;
  same = λ x. refl;
  share = refl;
  refused = (0, refl);
}

pub release-requires-clause-holds : goal.release-requires-clause-holds
release-requires-clause-holds g c = same_holds (view_of c.args.holder.now) (view_of c.loop.holder) c.args.buffers.now c.loop.invariant.same c.requires.holds

pub returns-in-Ok-clause-effect : goal.returns-in-Ok-clause-effect
returns-in-Ok-clause-effect g c = less_on (view_of c.args.holder.now) (view_of c.loop.holder) (view_of c.release.new.holder) c.args.buffers.now c.loop.invariant.same c.in-Ok.ensures.effect.less

pub returns-in-Ok-clause-trace : goal.returns-in-Ok-clause-trace
returns-in-Ok-clause-trace g c =
    let before = c.loop.invariant.refused in let put = c.in-Ok.ensures.trace in
    (before.0, put.0, view_of c.loop.holder, before.1, put.1)

pub loop-preserved : goal.loop-preserved
loop-preserved g c = record {
  steps = search rules;
  pool = c.in-Err.ensures.pool;
  same = same_on (view_of c.args.holder.now) (view_of c.loop.holder) (view_of c.release.new.holder) c.loop.invariant.same c.in-Err.ensures.effect;
  share = c.in-Err.ensures.share ∙ c.loop.invariant.share;
  refused = let before = c.loop.invariant.refused in
      (suc before.0, (view_of c.loop.holder, c.in-Err.field-0, before.1, c.in-Err.ensures.trace));
}

use Rattle.pool.proofs.Common.{◌∙◌, view_of, View}
use Rattle.pool.proofs.Acquiring.{took, acquire_fair, acquire_effect, acquire_holds}
use Rattle.pool.proofs.Holding.{lists_same, stocked_since}
use Rattle.pool.proofs.Permits.{acquire_ours}
use Rattle.pool.proofs.pool.Pool.acquire.Goals as goal

pub invariant_of-holder : goal.invariant_of-holder
invariant_of-holder c = record { fair = acquire_fair _ (view_of c.args.holder.now.end) (view_of c.try_take_some_as.new.end) c.args.buffers.now c.try_take_some_as.new.items c.try_take_some_as.result c.try_take_some_as.ensures.effect c.try_take_some_as.ensures.trace c.args.holder.now.fair }

pub returns-clause-pool : goal.returns-clause-pool
returns-clause-pool c =
    let v : View = view_of c.args.holder.now.end in let w : View = view_of c.try_take_some_as.new.end in
    let t = took _ v w c.args.buffers.now c.try_take_some_as.new.items c.try_take_some_as.result c.try_take_some_as.ensures.trace in (
      c.try_take_some_as.ensures.handle.0 ∙ c.requires.0,
      stocked_since c.args.self.now.count v w t.entries t.adds (c.lists_are_true.ensures.since c.args.holder.now.end c.try_take_some_as.new.end) c.lists_are_true.ensures.grows c.requires.1,
      lists_same c.args.self.now.count v w t.runs_are c.requires.2,
    )

pub returns-clause-effect : goal.returns-clause-effect
returns-clause-effect c = acquire_effect _ (view_of c.args.holder.now.end) (view_of c.try_take_some_as.new.end) c.args.buffers.now c.try_take_some_as.new.items c.try_take_some_as.result c.try_take_some_as.ensures.effect c.try_take_some_as.ensures.trace c.args.holder.now.fair

pub returns-clause-holds : goal.returns-clause-holds
returns-clause-holds c = acquire_holds _ (view_of c.args.holder.now.end) (view_of c.try_take_some_as.new.end) c.args.buffers.now c.try_take_some_as.new.items c.try_take_some_as.result c.try_take_some_as.ensures.effect c.try_take_some_as.ensures.trace c.args.holder.now.fair

pub returns-clause-result : goal.returns-clause-result
returns-clause-result c = acquire_ours _ c.args.self.now.count (view_of c.args.holder.now.end) (view_of c.try_take_some_as.new.end) c.args.buffers.now c.try_take_some_as.new.items c.try_take_some_as.result c.try_take_some_as.ensures.effect c.try_take_some_as.ensures.trace c.args.holder.now.fair c.try_take_some_as.ensures.kept (returns-clause-pool c).1

use Rattle.pool.proofs.Common.{◌∙◌, view_of, View}
use Rattle.pool.proofs.Holding.{lists_same, same_fair, same_held, stocked_since}
use Rattle.pool.proofs.Joining.{born_runs, born_stocked, born_takes, divided, born_fair, idle_held, idle_lists, split_share}
use Rattle.pool.proofs.pool.Pool.split.Goals as goal

pub invariant_of-holder : goal.invariant_of-holder
invariant_of-holder c =
    let v : View = view_of c.args.holder.now.end in let w : View = view_of c.split-end.new.end in
    let d = divided v w c.split-end.ensures.trace in record { fair = same_fair v w d.0 d.1 d.2 c.args.holder.now.fair }

pub returns-clause-pool : goal.returns-clause-pool
returns-clause-pool c =
    let v : View = view_of c.args.holder.now.end in let w : View = view_of c.split-end.new.end in let born : View = view_of c.split-end.result in
    let d = divided v w c.split-end.ensures.trace in
    let stocked = stocked_since c.args.self.now.count v w _ c.split-end.ensures.trace.adds (c.lists_are_true.ensures.since c.args.holder.now.end c.split-end.new.end) c.lists_are_true.ensures.grows c.requires.pool.1 in (
      (c.split-end.ensures.handle.0.0 ∙ c.requires.pool.0, stocked, lists_same c.args.self.now.count v w d.0 c.requires.pool.2),
      (
        c.split-end.ensures.handle.1 ∙ c.requires.pool.0,
        born_stocked c.args.self.now.count v w born c.split-end.ensures.result stocked,
        idle_lists c.args.self.now.count born (born_runs v w born c.split-end.ensures.result),
      ),
    )

pub invariant_of-result : goal.invariant_of-result
invariant_of-result c = record { fair = born_fair (view_of c.args.holder.now.end) (view_of c.split-end.new.end) (view_of c.split-end.result) c.split-end.ensures.result }

pub returns-clause-effect : goal.returns-clause-effect
returns-clause-effect c =
    let v : View = view_of c.args.holder.now.end in let w : View = view_of c.split-end.new.end in let born : View = view_of c.split-end.result in
    let d = divided v w c.split-end.ensures.trace in (same_held v w d.0 d.1, idle_held born (born_takes v w born c.split-end.ensures.result))

pub returns-clause-share : goal.returns-clause-share
returns-clause-share c = split_share (view_of c.args.holder.now.end) (view_of c.split-end.new.end) (view_of c.split-end.result) c.split-end.ensures.trace c.split-end.ensures.result

use Rattle.pool.proofs.Common.{◌∙◌, ∥∥₁_elim, view_of, View}
use Rattle.pool.proofs.Holding.{both_fair, both_held, both_list, stocked_on}
use Rattle.pool.proofs.pool.Pool.join.Goals as goal

pub invariant_of-holder : goal.invariant_of-holder
invariant_of-holder c =
    let v : View = view_of c.args.holder.now.end in let u : View = view_of c.args.other.end in let w : View = view_of c.join.new.end in
    record { fair = both_fair v u w (λ i. (c.join.ensures.trace.own i).runs) c.join.ensures.effect.1 (λ i. (c.join.ensures.trace.own i).shuts) c.args.holder.now.fair c.args.other.fair }

pub returns-clause-pool : goal.returns-clause-pool
returns-clause-pool c =
    let v : View = view_of c.args.holder.now.end in let u : View = view_of c.args.other.end in let w : View = view_of c.join.new.end in (
      c.join.ensures.handle.0 ∙ c.requires.0.0,
      ∥∥₁_elim (c.joins_are_true.ensures.since c.args.holder.now.end c.args.other.end c.join.new.end c.join.ensures.trace).0 squash₁ (λ r. stocked_on c.args.self.now.count v w (c.lists_are_true.ensures.grows v.seen w.seen r) c.requires.0.1),
      both_list v u w (λ i. (c.join.ensures.trace.own i).runs) c.join.ensures.effect.1 c.args.self.now.count c.requires.0.2 c.requires.1.2,
    )

pub returns-clause-effect : goal.returns-clause-effect
returns-clause-effect c =
    let v : View = view_of c.args.holder.now.end in let u : View = view_of c.args.other.end in let w : View = view_of c.join.new.end in
    both_held v u w (λ i. (c.join.ensures.trace.own i).runs) c.join.ensures.effect.1 c.args.holder.now.fair c.args.other.fair

pub returns-clause-share : goal.returns-clause-share
returns-clause-share c = λ i. (c.join.ensures.trace.member i).share

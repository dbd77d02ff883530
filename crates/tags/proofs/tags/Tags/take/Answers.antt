use Rattle.tags.proofs.Common.{◌∙◌, ap, Positions, view_of, View}
use Rattle.tags.proofs.Calls.{take_effect, take_first, take_holding, take_holds, take_result}
use Rattle.tags.proofs.tags.Tags.take.Goals as goal

pub invariant_of-holder : goal.invariant_of-holder
invariant_of-holder g c =
    let v : View = view_of c.args.holder.now.end in let w : View = view_of c.try_take_as.new.end in
    record { holds = take_holding g.row.N v w c.args.holder.now.holds c.try_take_as.result c.try_take_as.ensures.trace c.try_take_as.ensures.protocol (c.lists_are_true.ensures.since g.row.N c.args.holder.now.end c.try_take_as.new.end) c.lists_are_true.ensures.grows }

pub returns-clause-pool : goal.returns-clause-pool
returns-clause-pool g c =
    let v : View = view_of c.args.holder.now.end in let w : View = view_of c.try_take_as.new.end in
    (c.try_take_as.ensures.handle.0 ∙ c.requires.0, ap (λ (z : Positions). z.first) (take_first g.row.N v w c.try_take_as.result c.try_take_as.ensures.trace) ∙ c.requires.1)

pub returns-clause-effect : goal.returns-clause-effect
returns-clause-effect g c = take_effect g.row.N (view_of c.args.holder.now.end) (view_of c.try_take_as.new.end) c.args.holder.now.holds c.try_take_as.result c.try_take_as.ensures.effect c.try_take_as.ensures.trace

pub returns-clause-result : goal.returns-clause-result
returns-clause-result g c = take_result g.row.N (view_of c.args.holder.now.end) (view_of c.try_take_as.new.end) c.args.holder.now.holds _ c.requires.1 c.try_take_as.result c.try_take_as.ensures.trace c.try_take_as.ensures.protocol c.try_take_as.ensures.result

pub returns-clause-holds : goal.returns-clause-holds
returns-clause-holds g c = take_holds g.row.N (view_of c.args.holder.now.end) (view_of c.try_take_as.new.end) c.args.holder.now.holds c.try_take_as.result c.try_take_as.ensures.trace

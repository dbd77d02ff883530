use Rattle.tags.proofs.Common.{rules, view_of, View}
use Rattle.tags.proofs.Calls.{HeadsRise, give_holding, give_ok, may_put}
use Rattle.tags.proofs.tags.Tags.give_back.Goals as goal

pub try_put_as-requires : goal.try_put_as-requires
try_put_as-requires g c = let h = may_put (view_of c.args.holder.now.end) c.args.tag c.args.holder.now.holds c.requires.holds in (search rules, (search rules, (search rules, h)))

pub invariant_of-holder : goal.invariant_of-holder
invariant_of-holder g c =
    let v : View = view_of c.args.holder.now.end in let w : View = view_of c.try_put_as.new.end in
    let rise : HeadsRise v w = λ before after e a is. (c.never_below.ensures.head g.row.N c.args.holder.now.end c.try_put_as.new.end before after e a is).0 in
    record { holds = give_holding g.row.N v w c.args.tag rise c.args.holder.now.holds c.requires.holds c.try_put_as.result c.try_put_as.ensures.trace (c.lists_are_true.ensures.since g.row.N c.args.holder.now.end c.try_put_as.new.end) c.lists_are_true.ensures.grows c.try_put_as.ensures.raised }

pub returns-clause-effect : goal.returns-clause-effect
returns-clause-effect g c =
    let v : View = view_of c.args.holder.now.end in let w : View = view_of c.try_put_as.new.end in
    let rise : HeadsRise v w = λ before after e a is. (c.never_below.ensures.head g.row.N c.args.holder.now.end c.try_put_as.new.end before after e a is).0 in
    give_ok g.row.N v w c.args.tag rise c.args.holder.now.holds c.requires.holds c.try_put_as.result _ c.in_ok-try_put_as.was c.try_put_as.ensures.effect c.try_put_as.ensures.trace

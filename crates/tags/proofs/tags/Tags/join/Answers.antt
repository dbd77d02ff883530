use Rattle.tags.proofs.Common.{◌≡◌, ◌∙◌, sym, view_of, View, count_in}
use Rattle.tags.proofs.Ends.{join_held, join_holding}
use Rattle.tags.proofs.tags.Tags.join.Goals as goal

pub invariant_of-holder : goal.invariant_of-holder
invariant_of-holder g c =
    let v : View = view_of c.args.holder.now.end in let u : View = view_of c.args.other.end in let w : View = view_of c.join.new.end in
    let one : count_in u ≡ count_in v = c.requires.1.1 ∙ sym c.requires.0.1 in
    record { holds = join_holding v u w c.join.ensures.trace one (c.joins_are_true.ensures.since g.row.N c.args.holder.now.end c.args.other.end c.join.new.end c.join.ensures.trace).0 c.lists_are_true.ensures.grows c.args.holder.now.holds c.args.other.holds }

pub returns-clause-effect : goal.returns-clause-effect
returns-clause-effect g c =
    let v : View = view_of c.args.holder.now.end in let u : View = view_of c.args.other.end in let w : View = view_of c.join.new.end in
    join_held v u w c.join.ensures.trace (c.requires.1.1 ∙ sym c.requires.0.1) c.args.holder.now.holds c.args.other.holds

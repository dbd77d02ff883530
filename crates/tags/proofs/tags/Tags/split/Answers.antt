use Rattle.tags.proofs.Common.{view_of, View}
use Rattle.tags.proofs.Ends.{born_holding, born_none, split_held, split_holding, split_share}
use Rattle.tags.proofs.tags.Tags.split.Goals as goal

pub invariant_of-holder : goal.invariant_of-holder
invariant_of-holder g c =
    let v : View = view_of c.args.holder.now.end in let w : View = view_of c.split-end.new.end in let born : View = view_of c.split-end.result in
    record { holds = split_holding v w born c.split-end.ensures.trace (c.lists_are_true.ensures.since g.row.N c.args.holder.now.end c.split-end.new.end) c.lists_are_true.ensures.grows c.args.holder.now.holds }

pub invariant_of-result : goal.invariant_of-result
invariant_of-result g c =
    let v : View = view_of c.args.holder.now.end in let w : View = view_of c.split-end.new.end in let born : View = view_of c.split-end.result in
    record {
      holds = born_holding v w born c.split-end.ensures.trace c.split-end.ensures.born
          (split_holding v w born c.split-end.ensures.trace (c.lists_are_true.ensures.since g.row.N c.args.holder.now.end c.split-end.new.end) c.lists_are_true.ensures.grows c.args.holder.now.holds);
    }

pub returns-clause-effect : goal.returns-clause-effect
returns-clause-effect g c =
    let v : View = view_of c.args.holder.now.end in let w : View = view_of c.split-end.new.end in let born : View = view_of c.split-end.result in
    (split_held v w born c.split-end.ensures.trace, born_none v w born c.split-end.ensures.trace c.split-end.ensures.born)

pub returns-clause-share : goal.returns-clause-share
returns-clause-share g c =
    let v : View = view_of c.args.holder.now.end in let w : View = view_of c.split-end.new.end in let born : View = view_of c.split-end.result in
    split_share v w born c.split-end.ensures.trace c.split-end.ensures.born

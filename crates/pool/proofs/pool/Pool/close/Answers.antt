use Rattle.pool.proofs.Common.{◌∙◌, view_of, View}
use Rattle.pool.proofs.Holding.{lists_same, same_fair, same_held, stocked_since}
use Rattle.pool.proofs.Joining.{all_there, open_same, same_pool, same_takes}
use Rattle.pool.proofs.pool.Pool.close.Goals as goal

pub invariant_of-result : goal.invariant_of-result
invariant_of-result c = record { some = c.args.self.some }

pub invariant_of-result-in-Err : goal.invariant_of-result-in-Err
invariant_of-result-in-Err c =
    let v : View = view_of c.args.holder.end in let w : View = view_of c.in-Err.end in
    let d = open_same v w _ c.in-Err.ensures.error in record { fair = same_fair v w d.runs_are (same_takes v w d) d.shuts_are c.args.holder.fair }

pub returns-in-Ok-clause-effect : goal.returns-in-Ok-clause-effect
returns-in-Ok-clause-effect c = all_there c.args.self.count (view_of c.args.holder.end) c.requires.2 c.in-Ok.field-0.put c.in-Ok.field-0.taken _ c.args.self.some c.requires.1 c.args.holder.fair c.in-Ok.ensures.effect

pub returns-in-Err-clause-pool : goal.returns-in-Err-clause-pool
returns-in-Err-clause-pool c =
    let v : View = view_of c.args.holder.end in let w : View = view_of c.in-Err.end in
    let d = open_same v w _ c.in-Err.ensures.error in (
      same_pool c.in-Err.queue c.args.self.queue c.args.self.count _ _ c.in-Err.ensures.handle.0,
      (
        c.in-Err.ensures.handle.1.0 ∙ c.requires.0,
        stocked_since c.args.self.count v w d.entries d.adds (c.lists_are_true.ensures.since c.args.holder.end c.in-Err.end) c.lists_are_true.ensures.grows c.requires.1,
        lists_same c.args.self.count v w d.runs_are c.requires.2,
      ),
      same_held v w d.runs_are (same_takes v w d),
    )

use Rattle.tags.proofs.Common.{ℕ, ◌∙◌, sym, ap, Positions, view_of, View, times, all_tags}
use Rattle.tags.proofs.Calls.{looked_held, looked_holding}
use Rattle.tags.proofs.Ends.{all_there, open_did}
use Rattle.tags.proofs.tags.Tags.close.Goals as goal

pub invariant_of-result : goal.invariant_of-result
invariant_of-result g c =
    let v : View = view_of c.args.holder.end in let w : View = view_of c.in-Err.end in
    record { holds = looked_holding v w (open_did v w _ c.in-Err.ensures.trace) (c.lists_are_true.ensures.since g.row.N c.args.holder.end c.in-Err.end) c.lists_are_true.ensures.grows c.args.holder.holds }

pub returns-in-Ok-clause-effect : goal.returns-in-Ok-clause-effect
returns-in-Ok-clause-effect g c x =
    let v : View = view_of c.args.holder.end in let first = c.in-Ok.ensures.closed.0 in
    all_there v c.in-Ok.field-0.first c.in-Ok.field-0.put c.in-Ok.field-0.taken c.in-Ok.field-0.left.items c.in-Ok.ensures.closed.1 c.args.holder.holds (c.requires.1 ∙ sym first) c.left_tags.result.items c.left_tags.ensures x ∙ ap (λ (z : ℕ). times x (all_tags z)) first

pub returns-in-Err-clause-pool : goal.returns-in-Err-clause-pool
returns-in-Err-clause-pool g c =
    let v : View = view_of c.args.holder.end in let w : View = view_of c.in-Err.end in let d = open_did v w _ c.in-Err.ensures.trace in (
      λ i. record { queue = c.in-Err.ensures.handle.0 i },
      (c.in-Err.ensures.handle.1.0 ∙ c.requires.0, ap (λ (z : Positions). z.first) d.adds.first ∙ c.requires.1),
      looked_held v w d,
    )

use Rattle.batch_queue.proofs.Common.{InvHeldOf, Me, View, ap, rules, subst, sym, ℕ}
use Rattle.batch_queue.proofs.Ending.{new_ruled}
use Rattle.batch_queue.proofs.Under.{opens_as}
use Rattle.batch_queue.proofs.ends.BatchQueue.new_as.Goals as goal

pub new-requires : goal.new-requires
new-requires g c = opens_as g.C.Protocol.allows g.C.Protocol.begins c.args.room c.as_mut_slice-row.result.now c.in_ok-slots.slots.items (search rules) (search rules) c.requires.0

pub invariant_of-result-2-clause-ruled : goal.invariant_of-result-2-clause-ruled
invariant_of-result-2-clause-ruled g c = let is = ap (λ (z : Me ℕ View). z.0) c.in-Ok.ensures.ok.4 in ∣ subst InvHeldOf (sym is) (new_ruled c.args.room c.requires.0) ∣₁

use Rattle.claim_queue.proofs.Common.{rules, sym, subst, ◌≡◌, ◌≤◌, Shape, newcomer, InvHeldOf}
use Rattle.claim_queue.proofs.Tallying.{new_ruled}
use Rattle.claim_queue.proofs.Under.{opens_as}
use Rattle.claim_queue.proofs.ends.ClaimQueue.new_as.Goals as goal

pub of_words-requires : goal.of_words-requires
of_words-requires g c = opens_as g.C.Protocol.allows g.C.Protocol.begins (record { first = c.args.first; room = g.row.N }) c.as_mut_slice-row.result.now (search rules) c.requires.0 (search rules)

pub invariant_of-result-2-clause-ruled : goal.invariant_of-result-2-clause-ruled
invariant_of-result-2-clause-ruled g c = let key : Shape = record { first = c.args.first; room = g.row.N } in let some : 1 ≤ g.row.N = c.requires.0 in let e : c.in_ok-table.seat.me.0 ≡ newcomer key = search rules in
    ∣ subst InvHeldOf (sym e) (new_ruled key some (search rules)) ∣₁

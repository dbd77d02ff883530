use Rattle.batch_queue.proofs.Common.{InvHeldOf, ap, arith, subst, sym, ℕ, ◌+◌, ◌∙◌, ◌≡◌}
use Rattle.table_theory.specs.declared.views.Part.{Part}
use Rattle.table_theory.proofs.Counting.{given_fits, given_kept}
use Rattle.batch_queue.proofs.Going.{goes_split, parts_sum}
use Rattle.batch_queue.proofs.Ending.{rest_ruled, born_ruled}
use Rattle.batch_queue.proofs.Under.{splits_as, ups_as}
use Rattle.batch_queue.proofs.ends.BatchQueue.split.Goals as goal

pub count_up-requires-clause-allowed : goal.count_up-requires-clause-allowed
count_up-requires-clause-allowed g c = let one = c.args.end.now.one in let parts = c.requires.parts in ups_as g.C.Protocol.allows _ _ _ _ (omega arith)

pub split_off-seat-requires-clause-allowed : goal.split_off-seat-requires-clause-allowed
split_off-seat-requires-clause-allowed g c = splits_as g.C.Protocol.allows g.C.Protocol.begins _ _ _ _ (given_fits _) (ap (λ (z : Part). z.ends) c.count_up.ensures.counted.member ∙ ap (λ (z : ℕ). z + 1) c.args.end.now.one)

pub invariant_of-end-clause-ruled : goal.invariant_of-end-clause-ruled
invariant_of-end-clause-ruled g c = let two : c.count_up.new.seat.me.0.member.ends ≡ 2 = ap (λ (z : Part). z.ends) c.count_up.ensures.counted.member ∙ ap (λ (z : ℕ). z + 1) c.args.end.now.one in
    ∣ subst (λ z. InvHeldOf z.0) (sym c.split_off-seat.ensures.split.0) (rest_ruled _ _ (given_fits _) two c.count_up.ensures.suits) ∣₁

pub invariant_of-result-clause-ruled : goal.invariant_of-result-clause-ruled
invariant_of-result-clause-ruled g c = let two : c.count_up.new.seat.me.0.member.ends ≡ 2 = ap (λ (z : Part). z.ends) c.count_up.ensures.counted.member ∙ ap (λ (z : ℕ). z + 1) c.args.end.now.one in
    ∣ subst (λ z. InvHeldOf z.0) (sym c.split_off-seat.ensures.split.1) (born_ruled _ _ (given_fits _) two c.count_up.ensures.suits) ∣₁

pub returns-clause-owns : goal.returns-clause-owns
returns-clause-owns g c = let b = given_kept c.count_up.new.seat.me.0.member.share in parts_sum _ _ _ _ _ c.count_up.ensures.counted (omega arith) (ap (λ z. z.0) c.split_off-seat.ensures.split.0) (ap (λ z. z.0) c.split_off-seat.ensures.split.1)

pub returns-clause-frame : goal.returns-clause-frame
returns-clause-frame g c = goes_split _ _ _ _ c.args.end.now.ruled ∣ c.count_up.ensures.suits ∣₁ c.count_up.ensures.counted (ap (λ z. z.0) c.split_off-seat.ensures.split.0)

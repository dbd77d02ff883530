use Rattle.claim_queue.proofs.Common.{◌≡◌, ℕ, ◌+◌, ap, arith, sym, subst, ◌∙◌, Part, InvHeldOf}
use Rattle.table_theory.specs.Sharing.{IsPortion}
use Rattle.claim_queue.proofs.Tallying.{rest_ruled, born_ruled}
use Rattle.claim_queue.proofs.Under.{ups_as, splits_as}
use Rattle.claim_queue.proofs.ends.ClaimQueue.split_share.Goals as goal

pub count_up-requires-clause-allowed : goal.count_up-requires-clause-allowed
count_up-requires-clause-allowed g c = let one = c.args.end.now.one in let p = c.requires.parts in ups_as g.C.Protocol.allows _ _ _ _ (let a = p.0 in let b = p.1 in omega arith)

pub split_share_off-seat-requires-clause-allowed : goal.split_share_off-seat-requires-clause-allowed
split_share_off-seat-requires-clause-allowed g c = splits_as g.C.Protocol.allows g.C.Protocol.begins _ _ _ _ (λ h. subst (IsPortion c.args.share) (sym (ap (λ (z : Part). z.share) c.count_up.ensures.counted.member)) c.requires.parts) (ap (λ (z : Part). z.ends) c.count_up.ensures.counted.member ∙ ap (λ (z : ℕ). z + 1) c.args.end.now.one)

pub invariant_of-end-clause-ruled : goal.invariant_of-end-clause-ruled
invariant_of-end-clause-ruled g c = let two : c.count_up.new.seat.me.0.member.ends ≡ 2 = ap (λ (z : Part). z.ends) c.count_up.ensures.counted.member ∙ ap (λ (z : ℕ). z + 1) c.args.end.now.one in
    ∣ subst (λ z. InvHeldOf z.0) (sym c.split_share_off-seat.ensures.split.0) (rest_ruled _ _ (λ h. subst (IsPortion c.args.share) (sym (ap (λ (z : Part). z.share) c.count_up.ensures.counted.member)) c.requires.parts) two c.count_up.ensures.suits) ∣₁

pub invariant_of-result-clause-ruled : goal.invariant_of-result-clause-ruled
invariant_of-result-clause-ruled g c = let two : c.count_up.new.seat.me.0.member.ends ≡ 2 = ap (λ (z : Part). z.ends) c.count_up.ensures.counted.member ∙ ap (λ (z : ℕ). z + 1) c.args.end.now.one in
    ∣ subst (λ z. InvHeldOf z.0) (sym c.split_share_off-seat.ensures.split.1) (born_ruled _ _ (λ h. subst (IsPortion c.args.share) (sym (ap (λ (z : Part). z.share) c.count_up.ensures.counted.member)) c.requires.parts) two c.count_up.ensures.suits) ∣₁

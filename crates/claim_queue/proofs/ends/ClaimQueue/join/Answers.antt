use Rattle.claim_queue.proofs.Common.{ap, arith, nothing_did, did_both, ends_word, ◌∙◌, Part, Positions, merely, ◌≡◌, ◌+◌, ◌-◌}
use Rattle.table_theory.proofs.Parting.{two_ends, took_in}
use Rattle.claim_queue.proofs.Lining.{joined_claims}
use Rattle.claim_queue.proofs.Reading.{distinct_runs}
use Rattle.claim_queue.proofs.Under.{downs_as, joins_as}
use Rattle.claim_queue.proofs.ends.ClaimQueue.join.Goals as goal

pub take_in-requires-clause-allowed : goal.take_in-requires-clause-allowed
take_in-requires-clause-allowed g c = let one = c.args.end.now.one in joins_as g.C.Protocol.allows g.C.Protocol.begins g.C.Protocol.joins _ _ _ _ _ (omega arith)

pub count_down-requires-clause-allowed : goal.count_down-requires-clause-allowed
count_down-requires-clause-allowed g c = downs_as g.C.Protocol.allows _ _ _ _ (two_ends nothing_did did_both ends_word c.args.end.now.seat.me.0 c.args.other.seat.me.0 c.take_in.new.seat.me.0 c.args.end.now.one c.args.other.one (ap (λ z. z.0) c.take_in.ensures.joined))

pub returns-clause-claims : goal.returns-clause-claims
returns-clause-claims g c = let d = c.count_down.ensures in
    joined_claims c.args.end.now.seat.me.0 c.args.other.seat.me.0 c.count_down.new.seat.me.0 (took_in nothing_did did_both ends_word _ _ _ _ c.args.end.now.one c.args.other.one (ap (λ z. z.0) c.take_in.ensures.joined) d.counted) (distinct_runs c.count_down.new.seat.me.0 d.suits)

pub invariant_of-end : goal.invariant_of-end
invariant_of-end g c = let h = c.args.end.now in let t = c.take_in.ensures.joined in let d = c.count_down.ensures in let less : c.count_down.new.seat.me.0.member.ends ≡ c.take_in.new.seat.me.0.member.ends - 1 = ap (λ (m : Part). m.ends) d.counted.member in let sum : c.take_in.new.seat.me.0.member.ends ≡ h.seat.me.0.member.ends + c.args.other.seat.me.0.member.ends = ap (λ z. z.0.member.ends) t in let one = h.one in let other = c.args.other.one in record {
  room = ap (λ (q : Positions). q.room) (d.counted.adds.first ∙ ap (λ z. z.0.first) t) ∙ h.room;
  bare = d.seat.1 ∙ (ap (λ z. z.1) t ∙ h.bare);
  one = omega arith;
  ruled = merely d.suits;
}

use Rattle.proc_chain.proofs.Common.{ℕ, ◌≤◌, arith, sym, subst, ◌≡◌, ◌∙◌, both, did_both, suits, makes}
use Rattle.proc_chain.proofs.Finding.{slot_on}
use Rattle.proc_chain.proofs.Opening.{took_now, took_parted}
use Rattle.proc_chain.proofs.ends.ProcChain.take_over.Goals as goal

pub hand_over-rest-requires-clause-live : goal.hand_over-rest-requires-clause-live
hand_over-rest-requires-clause-live g c = subst (λ (z : ℕ). 1 ≤ z) (sym c.args.other.rests.one) (omega arith)

pub returns-clause-joined : goal.returns-clause-joined
returns-clause-joined g c = let end = c.args.end.now in let d = c.count_down.ensures in let is : c.take_in.new.seat.me.0 ≡ both did_both end.seat.me.0 c.args.other.seat.me.0 = (λ i. (c.take_in.ensures.joined i).0) ∙ (λ i. both did_both end.seat.me.0 (c.hand_over-rest.ensures.moved i).0) in (took_now _ _ _ _ is d.counted.0 d.counted.1 end.rests c.args.other.rests d.counted.2, d.frame.1.0 ∙ (λ i. (c.take_in.ensures.joined i).1))

pub returns-clause-ends : goal.returns-clause-ends
returns-clause-ends g c = let end = c.args.end.now in let d = c.count_down.ensures in let is : c.take_in.new.seat.me.0 ≡ both did_both end.seat.me.0 c.args.other.seat.me.0 = (λ i. (c.take_in.ensures.joined i).0) ∙ (λ i. both did_both end.seat.me.0 (c.hand_over-rest.ensures.moved i).0) in let p = took_parted _ _ _ _ is d.counted.0 d.counted.1 end.rests c.args.other.rests end.valid d.frame.1.1 in let pact = c.args.self.now.table.shared.key.pact in
    (d.frame.0.0 ∙ (c.take_in.ensures.queue.0 ∙ c.requires.ends.0.0), slot_on (makes g.Q.Quaject.made_by pact) (suits g.Q.Quaject.fits pact) end.seat.me.0 c.count_down.new.seat.me.0 _ _ p.notes p.runner (d.frame.1.0 ∙ (λ i. (c.take_in.ensures.joined i).1)) c.requires.ends.0.1)

pub returns-clause-taken : goal.returns-clause-taken
returns-clause-taken g c = let end = c.args.end.now in let d = c.count_down.ensures in let is : c.take_in.new.seat.me.0 ≡ both did_both end.seat.me.0 c.args.other.seat.me.0 = (λ i. (c.take_in.ensures.joined i).0) ∙ (λ i. both did_both end.seat.me.0 (c.hand_over-rest.ensures.moved i).0) in (took_parted _ _ _ _ is d.counted.0 d.counted.1 end.rests c.args.other.rests end.valid d.frame.1.1).taken

pub invariant_of-end : goal.invariant_of-end
invariant_of-end g c = let end = c.args.end.now in let d = c.count_down.ensures in let is : c.take_in.new.seat.me.0 ≡ both did_both end.seat.me.0 c.args.other.seat.me.0 = (λ i. (c.take_in.ensures.joined i).0) ∙ (λ i. both did_both end.seat.me.0 (c.hand_over-rest.ensures.moved i).0) in let p = took_parted _ _ _ _ is d.counted.0 d.counted.1 end.rests c.args.other.rests end.valid d.frame.1.1 in record { turned = p.runner ∙ end.turned; rests = p.rests; valid = ∣ p.valid ∣₁ }

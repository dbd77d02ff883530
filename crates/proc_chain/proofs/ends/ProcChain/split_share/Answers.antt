use Rattle.proc_chain.proofs.Common.{refl, ap, arith, Part, ◌∙◌, ends_word, nothing_did, did_both, suits, makes}
use Rattle.table_theory.proofs.Parting.{share_views}
use Rattle.proc_chain.proofs.Clients.{one_more}
use Rattle.proc_chain.proofs.Finding.{slot_on, slot_down}
use Rattle.proc_chain.proofs.Linking.{same_notes}
use Rattle.proc_chain.proofs.Opening.{split_parted, born_known}
use Rattle.proc_chain.proofs.ends.ProcChain.split_share.Goals as goal

pub returns : goal.returns
returns g c = let end = c.args.end.now in let n = c.count_up.ensures in let s = c.split_share_off-seat.ensures in let p = split_parted _ _ n.counted.0 n.counted.1 n.frame.1.1 _ _ (λ i. (s.split.0 i).0) end.rests end.valid in let held = (λ i. (s.split.0 i).1) ∙ n.frame.1.0 in
    let views = share_views nothing_did did_both ends_word c.args.share _ _ _ _ _ _ n.counted.0 s.split.0 s.split.1 in let pact = c.args.self.now.table.shared.key.pact in record {
      effect = same_notes _ _ ((λ i. (s.split.0 i).0.own) ∙ n.counted.0.own);
      count = one_more _ _ _ views.0;
      owns = (ap (λ z. z.0.member.share) s.split.1, (let left = ap (λ z. z.0.member.share) s.split.0 in let same = ap (λ (z : Part). z.share) n.counted.0.member in let some_kept = c.requires.parts.1 in omega arith));
      turns = ((refl, held), refl);
      born = views.1;
      trace = views.0;
      ends = ((s.queue.0.0 ∙ (n.frame.0.0 ∙ c.requires.ends.0), slot_on (makes g.Q.Quaject.made_by pact) (suits g.Q.Quaject.fits pact) end.seat.me.0 c.split_share_off-seat.new.seat.me.0 _ _ p.notes p.runner held c.requires.ends.1), (s.queue.1 ∙ (n.frame.0.0 ∙ c.requires.ends.0), slot_down (makes g.Q.Quaject.made_by pact) (suits g.Q.Quaject.fits pact) c.split_share_off-seat.result.me (λ i. (s.split.1 i).0.own.runner) (λ i. (s.split.1 i).1)));
      handle = ((s.queue.0.0 ∙ n.frame.0.0, s.queue.0.1 ∙ n.frame.0.1), p.taken);
    }

pub invariant_of-end : goal.invariant_of-end
invariant_of-end g c = let end = c.args.end.now in let n = c.count_up.ensures in let p = split_parted _ _ n.counted.0 n.counted.1 n.frame.1.1 _ _ (λ i. (c.split_share_off-seat.ensures.split.0 i).0) end.rests end.valid in record { turned = p.runner ∙ end.turned; rests = p.rests; valid = ∣ p.valid ∣₁ }

pub invariant_of-result : goal.invariant_of-result
invariant_of-result g c = let n = c.count_up.ensures in let s = c.split_share_off-seat.ensures in let k = born_known _ _ n.counted.0 n.counted.1 n.frame.1.1 _ _ (λ i. (s.split.1 i).0) in record { turned = λ i. (s.split.1 i).0.own.runner; rests = k.0; valid = ∣ k.1 ∣₁ }

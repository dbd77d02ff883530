use Rattle.proc_chain.proofs.Common.{rules, refl, sym, arith, ◌∙◌, ◌-◌, suits, makes}
use Rattle.proc_chain.proofs.Clients.{open_same, why_open}
use Rattle.proc_chain.proofs.Closing.{spans, emptied_slot, closes}
use Rattle.proc_chain.proofs.Finding.{rests_on, slot_down}
use Rattle.proc_chain.proofs.Tallying.{tallies}
use Rattle.proc_chain.specs.Closings.{WereOpen}
use Rattle.proc_chain.proofs.ends.ProcChain.close.Goals as goal

pub count-requires-clause-allowed : goal.count-requires-clause-allowed
count-requires-clause-allowed g c = tallies _ _ _ _ _ _ c.args.end.rests.one

pub read_left-left-requires-clause-range : goal.read_left-left-requires-clause-range
read_left-left-requires-clause-range g c = let s = spans (makes g.Q.Quaject.made_by) (suits g.Q.Quaject.fits) c.args.self.table.shared.key _ _ _ _ _ _ c.close_by-closed.ensures.values.2 c.word-head.ensures c.word-tail.ensures in (s.taken_within, s.within, s.bounded)

pub overflow_sub-result-3 : goal.overflow_sub-result-3
overflow_sub-result-3 g c = let s = spans (makes g.Q.Quaject.made_by) (suits g.Q.Quaject.fits) c.args.self.table.shared.key _ _ _ _ _ _ c.close_by-closed.ensures.values.2 c.word-head.ensures c.word-tail.ensures in let started = s.started in let first = c.args.self.shaped in omega arith

pub overflow_cast-result-4 : goal.overflow_cast-result-4
overflow_cast-result-4 g c = let s = spans (makes g.Q.Quaject.made_by) (suits g.Q.Quaject.fits) c.args.self.table.shared.key _ _ _ _ _ _ c.close_by-closed.ensures.values.2 c.word-head.ensures c.word-tail.ensures in let following = s.taken_within in let bounded = s.bounded in omega arith

pub free-requires : goal.free-requires
free-requires g c = let slots = c.take-quaject.ensures.others in λ k below. emptied_slot _ _ _ k slots.1 (slots.2 ∙ (c.close_by-closed.ensures.counts.1 ∙ c.args.self.sized.1)) below

pub returns-clause-closed : goal.returns-clause-closed
returns-clause-closed g c = let k = c.args.self.table.shared.key in let first = c.args.self.shaped in let end = c.args.end in
    closes (makes g.Q.Quaject.made_by) (suits g.Q.Quaject.fits) k _ _ _ _ c.word-head.result c.word-tail.result _ _ c.args.self.first _ _ _ _ first end.rests c.in-Ok.ensures.alone.1.1 refl (end.turned ∙ c.requires.turn) c.close_by-closed.ensures.values.2
    c.word-head.ensures c.word-tail.ensures c.take-quaject.ensures.value (λ i. c.word-head.result - sym first i) (λ i. c.word-tail.result - sym first i) c.read_left-left.ensures

pub invariant_of-result : goal.invariant_of-result
invariant_of-result g c = let end = c.args.end in let f = c.in-Err.ensures.frame in let m = f.3.1.made in record { turned = (λ i. (m.did i).runner) ∙ end.turned; rests = rests_on _ _ (λ i. (m.member i).ends) (λ i. (m.did i).runs) (λ i. (m.did i).owes) end.rests; valid = ∣ f.3.0 ∣₁ }

pub overflow_cast-result : goal.overflow_cast-result
overflow_cast-result g c = let s = spans (makes g.Q.Quaject.made_by) (suits g.Q.Quaject.fits) c.args.self.table.shared.key _ _ _ _ _ _ c.close_by-closed.ensures.values.2 c.word-head.ensures c.word-tail.ensures in let started = s.started in let within = s.taken_within in let bounded = s.bounded in let first = c.args.self.shaped in omega arith

pub overflow_sub-result-2 : goal.overflow_sub-result-2
overflow_sub-result-2 g c = let s = spans (makes g.Q.Quaject.made_by) (suits g.Q.Quaject.fits) c.args.self.table.shared.key _ _ _ _ _ _ c.close_by-closed.ensures.values.2 c.word-head.ensures c.word-tail.ensures in let started = s.started in let within = s.taken_within in let first = c.args.self.shaped in omega arith

pub overflow_cast-result-2 : goal.overflow_cast-result-2
overflow_cast-result-2 g c = let s = spans (makes g.Q.Quaject.made_by) (suits g.Q.Quaject.fits) c.args.self.table.shared.key _ _ _ _ _ _ c.close_by-closed.ensures.values.2 c.word-head.ensures c.word-tail.ensures in let bounded = s.bounded in omega arith

pub overflow_cast-result-3 : goal.overflow_cast-result-3
overflow_cast-result-3 g c = let s = spans (makes g.Q.Quaject.made_by) (suits g.Q.Quaject.fits) c.args.self.table.shared.key _ _ _ _ _ _ c.close_by-closed.ensures.values.2 c.word-head.ensures c.word-tail.ensures in let started = s.started in let within = s.taken_within in let bounded = s.bounded in let first = c.args.self.shaped in omega arith

pub returns-in-Err : goal.returns-in-Err
returns-in-Err g c = let end = c.args.end in let f = c.in-Err.ensures.frame in let down = end.turned ∙ c.requires.turn in let o : WereOpen end.seat.me.0 (c.in-Err.ends - 1) c.in-Err.seat.me.0 = search rules in record {
  only = o.not_whole;
  closed = tt;
  frame = open_same _ _ _ o;
  owns = f.3.1.made.member;
  error = why_open _ _ _ o;
  ends = (f.1.0 ∙ c.requires.ends.0, slot_down (makes g.Q.Quaject.made_by c.args.self.table.shared.key.pact) (suits g.Q.Quaject.fits c.args.self.table.shared.key.pact) c.in-Err.seat.me ((λ i. (f.3.1.made.did i).runner) ∙ down) (f.2 ∙ c.requires.ends.1.1 down));
  trace = o;
  handle = (refl, f.1, (refl, f.2));
}

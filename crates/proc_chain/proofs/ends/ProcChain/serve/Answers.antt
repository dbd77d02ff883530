use Rattle.proc_chain.proofs.Common.{rules, refl, ◌∙◌, suits, makes}
use Rattle.proc_chain.proofs.Clients.{ran_none, ran_notes, used_none}
use Rattle.proc_chain.proofs.Finding.{end_runs, reported_after, rests_on, slot_down, slot_up}
use Rattle.proc_chain.proofs.Rounds.{since_still}
use Rattle.proc_chain.proofs.ends.ProcChain.serve.Goals as goal

pub serve_seat-requires-clause-runner : goal.serve_seat-requires-clause-runner
serve_seat-requires-clause-runner g c = let end = c.args.end.now in let pact = c.args.self.now.table.shared.key.pact in end_runs (makes g.Q.Quaject.made_by pact) (suits g.Q.Quaject.fits pact) end.seat.me end.rests end.valid (end.turned ∙ c.requires.turn) c.requires.ends.1

pub returns-then-limit-eq0-clause-effect : goal.returns-then-limit-eq0-clause-effect
returns-then-limit-eq0-clause-effect g c = ran_none _

pub returns-then-limit-eq0-clause-result : goal.returns-then-limit-eq0-clause-result
returns-then-limit-eq0-clause-result g c = used_none _ c.args.limit c.if-limit-eq0.true

pub invariant_of-end : goal.invariant_of-end
invariant_of-end g c = let end = c.args.end.now in let t = c.serve_seat.ensures in let s = rw c.in-None-default.is-0 at t.served in let m = s.3.made in
    record { turned = λ i. (m.did i).runner; rests = rests_on _ _ (λ i. (m.member i).ends) (λ i. (m.did i).runs) (λ i. (m.did i).owes) end.rests; valid = ∣ t.frame.1 ∣₁ }

pub returns-in-None-default : goal.returns-in-None-default
returns-in-None-default g c = let t = c.serve_seat.ensures in let s = rw c.in-None-default.is-0 at t.served in let gave = rw c.in-None-default.is-0 at t.gave in let pact = c.args.self.now.table.shared.key.pact in record {
  effect = ran_notes _ _ _ _ _ s.3;
  result = rw c.in-None-default.is-0 at t.why;
  owns = s.3.made.member;
  turn = refl;
  slot = gave;
  made = t.made;
  ends = (t.frame.0.0 ∙ c.requires.ends.0, slot_down (makes g.Q.Quaject.made_by pact) (suits g.Q.Quaject.fits pact) c.serve_seat.new.seat.me (λ i. (s.3.made.did i).runner) gave.0);
  trace = s;
  handle = t.frame.0;
}

pub returns-in-Some-default : goal.returns-in-Some-default
returns-in-Some-default g c = let t = c.serve_seat.ensures in let s = rw c.in-Some-default.is-0 at t.served in let gave = rw c.in-Some-default.is-0 at t.gave in let pact = c.args.self.now.table.shared.key.pact in record {
  effect = ran_notes _ _ _ _ _ s.2;
  result = rw c.in-Some-default.is-0 at t.why;
  owns = s.2.made.member;
  turn = c.requires.turn;
  slot = gave.carries;
  made = t.made;
  ends = (t.frame.0.0 ∙ c.requires.ends.0, slot_up (makes g.Q.Quaject.made_by pact) (suits g.Q.Quaject.fits pact) c.serve_seat.new.seat.me gave.runner gave.carries);
  trace = search rules;
  handle = t.frame.0;
}

pub returns-then-limit-eq0-clause-slot : goal.returns-then-limit-eq0-clause-slot
returns-then-limit-eq0-clause-slot g c = c.requires.ends.1.0 (c.args.end.now.turned ∙ c.requires.turn)

pub returns-then-limit-eq0-clause-made : goal.returns-then-limit-eq0-clause-made
returns-then-limit-eq0-clause-made g c = let end = c.args.end.now in let pact = c.args.self.now.table.shared.key.pact in since_still (makes g.Q.Quaject.made_by pact) (suits g.Q.Quaject.fits pact) end.seat.me.0 end.seat.me.1 (reported_after end.seat.me.0 end.valid) (c.requires.ends.1.0 (end.turned ∙ c.requires.turn))

use Rattle.proc_chain.proofs.Common.{refl, suits, makes}
use Rattle.proc_chain.proofs.Finding.{looks_found, seen_step, runner_on}
use Rattle.proc_chain.proofs.Rounds.{left_now, round_now, gave_back}
use Rattle.proc_chain.proofs.serve.leave_or_round.Goals as goal

pub swap_running-requires-clause-runner : goal.swap_running-requires-clause-runner
swap_running-requires-clause-runner g c = let x = c.exchange_gate.ensures in let m = c.in-Some.ensures.left in let r = c.requires.runner in runner_on (makes g.Q.Quaject.made_by c.args.words.now.key.pact) (suits g.Q.Quaject.fits c.args.words.now.key.pact) c.args.seat.now.me c.exchange_gate.new.seat.me (looks_found _ _ _ _ m.1).seen x.frame.1 (λ i. (m.1.1.made.did i).runner) m.0 r

pub returns-in-Some-clause-gave : goal.returns-in-Some-clause-gave
returns-in-Some-clause-gave g c = let x = c.exchange_gate.ensures in let m = c.in-Some.ensures.left in let r = c.requires.runner in let s = c.swap_running.ensures in
    runner_on (makes g.Q.Quaject.made_by c.args.words.now.key.pact) (suits g.Q.Quaject.fits c.args.words.now.key.pact) c.exchange_gate.new.seat.me c.swap_running.new.seat.me (seen_step _ _ _ _ s.rounded.1 refl) s.frame.1.1 (λ i. (s.rounded.1.made.did i).runner) s.frame.1.0 (runner_on (makes g.Q.Quaject.made_by c.args.words.now.key.pact) (suits g.Q.Quaject.fits c.args.words.now.key.pact) c.args.seat.now.me c.exchange_gate.new.seat.me (looks_found _ _ _ _ m.1).seen x.frame.1 (λ i. (m.1.1.made.did i).runner) m.0 r)

pub returns-in-None-clause-gave : goal.returns-in-None-clause-gave
returns-in-None-clause-gave g c = let h = c.in-None.ensures.left in gave_back (makes g.Q.Quaject.made_by c.args.words.now.key.pact) (suits g.Q.Quaject.fits c.args.words.now.key.pact) c.args.seat.now.me c.exchange_gate.new.seat.me h.1 h.0 c.requires.runner

pub returns-in-Some-clause-left : goal.returns-in-Some-clause-left
returns-in-Some-clause-left g c = let x = c.exchange_gate.ensures in let m = c.in-Some.ensures.left in let r = c.requires.runner in round_now _ _ _ _ r.runner r.taken_within m.1 x.frame.1 c.swap_running.ensures.rounded

pub returns-in-None-clause-left : goal.returns-in-None-clause-left
returns-in-None-clause-left g c = left_now _ _ c.requires.runner.runner c.requires.runner.taken_within c.in-None.ensures.left.1

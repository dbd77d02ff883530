use Rattle.proc_chain.proofs.Common.{rules, arith, ap, Part, refl, ◌∙◌, [], ◌∷◌, ◌++◌, suits, makes}
use Rattle.proc_chain.proofs.Clients.{left_on, ran_notes}
use Rattle.proc_chain.proofs.Finding.{reported_after}
use Rattle.proc_chain.proofs.Rounds.{no_rounds, rounds_more, all_begin, all_done, few_run, since_still, since_then}
use Rattle.proc_chain.proofs.ends.ProcChain.serve_all.Goals as goal

pub loop-init : goal.loop-init
loop-init g c = record {
  steps = search rules;
  same = (refl, refl);
  slot = c.requires.ends.1;
  turn = c.requires.turn;
  servings = [];
  rounds = no_rounds c.args.end.now.seat.me.0 (c.args.end.now.turned ∙ c.requires.turn);
  since = since_still (makes g.Q.Quaject.made_by c.args.self.now.table.shared.key.pact) (suits g.Q.Quaject.fits c.args.self.now.table.shared.key.pact) c.args.end.now.seat.me.0 c.args.end.now.seat.me.1 (reported_after c.args.end.now.seat.me.0 c.args.end.now.valid) (c.requires.ends.1.0 (c.args.end.now.turned ∙ c.requires.turn));
}

pub returns-in-Done-clause-trace : goal.returns-in-Done-clause-trace
returns-in-Done-clause-trace g c = let l = c.loop.invariant in let s = c.in-Done.ensures.trace in all_done _ _ _ l.servings s.0 s.1 c.loop.total c.in-Done.ran l.rounds s.2 s.3

pub loop-preserved : goal.loop-preserved
loop-preserved g c = let l = c.loop.invariant in let s = c.in-More.ensures.trace in record {
  steps = search rules;
  same = (c.serve.ensures.handle.0 ∙ l.same.0, c.serve.ensures.handle.1 ∙ l.same.1);
  slot = c.serve.ensures.ends.1;
  turn = c.in-More.ensures.turn;
  servings = l.servings ++ s.0 ∷ [];
  rounds = rounds_more _ _ _ l.servings s.0 c.loop.total c.in-More.ran l.rounds s.1 s.2;
  since = since_then (makes g.Q.Quaject.made_by c.args.self.now.table.shared.key.pact) (suits g.Q.Quaject.fits c.args.self.now.table.shared.key.pact) c.args.end.now.seat.me.0 c.loop.end.seat.me.0 c.serve.new.end.seat.me.0 _ l.since c.serve.ensures.made s.2.served.notes (reported_after c.loop.end.seat.me.0 c.loop.end.valid);
}

pub overflow_add-result : goal.overflow_add-result
overflow_add-result g c = let l = c.loop.invariant.rounds in let s = c.in-Done.ensures.trace.3 in let end = c.loop.end in let new = c.serve.new.end in
    let few = few_run _ _ _ l.all.served end.valid in let number = l.number in let few' = few_run _ _ _ s.served new.valid in let number' = s.number in record { fits = omega arith }

pub overflow_add-total : goal.overflow_add-total
overflow_add-total g c = let l = c.loop.invariant.rounds in let s = c.in-More.ensures.trace.2 in let end = c.loop.end in let new = c.serve.new.end in
    let few = few_run _ _ _ l.all.served end.valid in let number = l.number in let few' = few_run _ _ _ s.served new.valid in let number' = s.number in record { fits = omega arith }

pub returns-in-Done-clause-made : goal.returns-in-Done-clause-made
returns-in-Done-clause-made g c = since_then (makes g.Q.Quaject.made_by c.args.self.now.table.shared.key.pact) (suits g.Q.Quaject.fits c.args.self.now.table.shared.key.pact) c.args.end.now.seat.me.0 c.loop.end.seat.me.0 c.serve.new.end.seat.me.0 _ c.loop.invariant.since c.serve.ensures.made c.in-Done.ensures.trace.3.served.notes (reported_after c.loop.end.seat.me.0 c.loop.end.valid)

pub returns-in-Done-clause-effect : goal.returns-in-Done-clause-effect
returns-in-Done-clause-effect g c = let l = c.loop.invariant in let s = c.in-Done.ensures.trace in let a = all_done _ _ _ l.servings s.0 s.1 c.loop.total c.in-Done.ran l.rounds s.2 s.3 in ran_notes _ _ _ _ _ a.5

pub returns-in-Done-clause-result : goal.returns-in-Done-clause-result
returns-in-Done-clause-result g c = let r = c.loop.invariant.rounds.all.made in left_on _ _ _ _ _ _ (ap (λ (z : Part). z.share) r.member) r.adds (all_begin c.loop.invariant.servings) c.in-Done.ensures.result

pub returns-in-Done-clause-owns : goal.returns-in-Done-clause-owns
returns-in-Done-clause-owns g c = let l = c.loop.invariant in let s = c.in-Done.ensures.trace in (all_done _ _ _ l.servings s.0 s.1 c.loop.total c.in-Done.ran l.rounds s.2 s.3).5.made.member

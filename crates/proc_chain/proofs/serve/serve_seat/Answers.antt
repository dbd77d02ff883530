use Rattle.proc_chain.proofs.Common.{arith, ◌-◌, sym, subst, refl, ◌∙◌, ◌+◌, ◌≡◌, ℕ, Seat, View, suits, makes}
use Rattle.proc_chain.proofs.Rounds.{InRounds, cost, rounds_begin, rounds_on, rounds_done, left_why, since_done, failed_one, failed_now, was_run, was_none}
use Rattle.std.specs.List.{flat_map}
use Rattle.proc_chain.specs.Client.{FailedLeaves}
use Rattle.proc_chain.specs.Servings.{entries_of}
use Rattle.proc_chain.proofs.serve.serve_seat.Goals as goal
use Rattle.proc_chain.proofs.serve.serve_seat.Goals.{then-was_run, else-was_run+in-Some}

pub loop-used-init : goal.loop-used-init
loop-used-init g c = let s = c.swap_running.ensures in rounds_begin (makes g.Q.Quaject.made_by c.args.words.now.key.pact) (suits g.Q.Quaject.fits c.args.words.now.key.pact) c.args.seat.now c.swap_running.new.seat c.swap_running.result s.frame.0 s.rounded s.frame.1.0 s.frame.1.1 c.requires.runner

pub returns-in-None-clause-served : goal.returns-in-None-clause-served
returns-in-None-clause-served g c = rounds_done (makes g.Q.Quaject.made_by c.args.words.now.key.pact) (suits g.Q.Quaject.fits c.args.words.now.key.pact) c.args.seat.now c.loop-used.seat c.run_next-was_run.new.seat.me.0 c.leave_or_round.new.seat.me.0 c.args.limit c.loop-used.used c.loop-used.ran
    c.loop-used.invariant c.loop-used-test.true (was_none _ _ _ c.run_next-was_run.ensures.ran c.if-was_run.false) c.in-None.ensures.left

pub returns-in-None-clause-made : goal.returns-in-None-clause-made
returns-in-None-clause-made g c = let l = c.in-None.ensures in since_done (makes g.Q.Quaject.made_by c.args.words.now.key.pact) (suits g.Q.Quaject.fits c.args.words.now.key.pact) c.args.seat.now c.loop-used.seat c.run_next-was_run.new.seat.me.0 c.leave_or_round.new.seat.me.0 c.leave_or_round.new.seat.me.1 c.loop-used.used c.loop-used.ran
    c.loop-used.invariant (was_none _ _ _ c.run_next-was_run.ensures.ran c.if-was_run.false) l.left c.leave_or_round.ensures.frame.1 l.gave

pub returns-in-None-clause-why : goal.returns-in-None-clause-why
returns-in-None-clause-why g c = left_why (makes g.Q.Quaject.made_by c.args.words.now.key.pact) (suits g.Q.Quaject.fits c.args.words.now.key.pact) c.args.seat.now c.loop-used.seat c.run_next-was_run.new.seat.me.0 c.leave_or_round.new.seat.me.0 c.args.limit c.loop-used.used c.loop-used.ran
    c.loop-used.invariant c.loop-used-test.true (was_none _ _ _ c.run_next-was_run.ensures.ran c.if-was_run.false) c.in-None.ensures.left

pub loop-used-preserved : goal.loop-used-preserved
loop-used-preserved g c = let made = makes g.Q.Quaject.made_by c.args.words.now.key.pact in let fits = suits g.Q.Quaject.fits c.args.words.now.key.pact in let P : Seat _ View → ℕ → Type 0 = λ s r. InRounds made fits c.args.seat.now s (c.loop-used.used + 1) r in let n = c.run_next-was_run.ensures in
    elim c.if-was_run.branch [
      | then-was_run w ↦ subst (λ s. P s c.if-was_run.ran) (sym w.seat-is) (subst (λ (r : ℕ). P c.run_next-was_run.new.seat r) (sym w.ran-is)
          (rounds_on made fits c.args.seat.now c.loop-used.seat c.run_next-was_run.new.seat c.loop-used.used c.loop-used.ran 1 _ c.loop-used.invariant n.frame.0 (was_run _ _ _ n.ran w.if-was_run.true).5 refl (omega arith) n.runner n.frame.1 (λ z. absurd (omega arith)) (λ _. (refl, (refl, (refl, tt))))))
      | else-was_run+in-Some w ↦ let l = w.leave_or_round.ensures.frame in let e = w.in-Some.ensures in let none : c.loop-used.ran + 0 ≡ c.loop-used.ran = omega arith in
          subst (λ s. P s c.if-was_run.ran) (sym w.seat-is) (subst (λ (r : ℕ). P w.leave_or_round.new.seat r) (none ∙ sym w.ran-is)
          (rounds_on made fits c.args.seat.now c.loop-used.seat w.leave_or_round.new.seat c.loop-used.used c.loop-used.ran 0 _ c.loop-used.invariant (l.0.0 ∙ n.frame.0.0, l.0.1 ∙ n.frame.0.1)
          (failed_one _ _ _ (was_none _ _ _ n.ran w.if-was_run.false) e.left) refl (omega arith) e.gave l.1
          (λ _. failed_now _ _ _ (was_none _ _ _ n.ran w.if-was_run.false) e.left) (λ z. absurd (omega arith))))
    ]

pub returns-clause-why : goal.returns-clause-why
returns-clause-why g c = let few = c.loop-used.invariant.few in let end : c.loop-used.used ≡ c.args.limit = omega (arith, c.loop-used-test.false, c.loop-used.auto.used-end) in let r = c.loop-used.invariant in let some = c.requires.some_limit in let k = cost r.so.uses in let long = r.long in let number = r.number in
    (omega arith, λ no_limit. absurd (omega arith), λ _. (_, _, r.all.made.adds, omega arith, refl, subst (λ (n : ℕ). FailedLeaves (n - c.loop-used.ran) (flat_map entries_of r.so.uses)) end r.failed))

use Rattle.boot_threads.proofs.Common.{◌≡◌, ℕ, true, rules, refl, subst, arith, has, view_of}
use Rattle.boot_threads.proofs.Handling.{took_none, took_on, holds_more, holds_all, HoldsBelow}
use Rattle.boot_threads.proofs.elements.take_all.Goals as goal

pub loop-number-init : goal.loop-number-init
loop-number-init g c = record { its = search rules; same = (refl, refl); took = took_none (view_of c.args.hand.now); below = λ e low. absurd (omega arith) }

pub loop-number-preserved : goal.loop-number-preserved
loop-number-preserved g c = record {
  its = search rules;
  same = search rules;
  took = took_on (view_of c.args.hand.now) (view_of c.loop-number.hand) (view_of c.take_free.new.hand) c.loop-number.invariant.took c.take_free.ensures.took;
  below = holds_more c.loop-number.number (view_of c.loop-number.hand) (view_of c.take_free.new.hand) c.loop-number.invariant.below c.take_free.ensures.took
      (subst (λ (z : ℕ). has (view_of c.take_free.new.hand) z ≡ true) c.element_of.ensures c.take_free.ensures.holds);
}

pub returns-clause-holds : goal.returns-clause-holds
returns-clause-holds g c =
    let end : c.loop-number.number ≡ 64 = omega (arith, c.loop-number-test.false, c.loop-number.auto.number-end) in
    holds_all (view_of c.loop-number.hand) (subst (λ (z : ℕ). HoldsBelow z (view_of c.loop-number.hand)) end c.loop-number.invariant.below)

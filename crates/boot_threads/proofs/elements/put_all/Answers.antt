use Rattle.boot_threads.proofs.Common.{◌≡◌, ◌-◌, ℕ, rules, refl, subst, arith, range_with_len, ring_of, claims, Moved, PutInto, HoldsFrom, call_of, view_of}
use Rattle.boot_threads.proofs.Handling.{moved_none, put_more, holds_less}
use Rattle.boot_threads.proofs.elements.put_all.Goals as goal

pub loop-number-init : goal.loop-number-init
loop-number-init g c = record {
  its = search rules;
  same = (refl, refl);
  past = omega arith;
  moved = let none : 0 ≡ c.args.from - c.args.from = omega arith in
      subst (λ (z : ℕ). Moved (claims (call_of c.args.hand.now) (ring_of c.args.ring) (range_with_len c.args.from z)) (view_of c.args.hand.now) (view_of c.args.hand.now)) none (moved_none (view_of c.args.hand.now));
  holds = c.requires.holds;
}

pub loop-number-preserved : goal.loop-number-preserved
loop-number-preserved g c =
    let v = view_of c.loop-number.hand in let w = view_of c.put.new.hand in let ring = ring_of c.args.ring in
    let one : PutInto (call_of c.args.hand.now) ring c.loop-number.number v w = subst (λ (z : ℕ). PutInto z ring c.loop-number.number v w) c.loop-number.invariant.same.1
    (subst (λ (z : ℕ). PutInto (call_of c.loop-number.hand) ring z v w) c.element_of.ensures c.put.ensures.put) in record {
      its = search rules;
      same = search rules;
      past = search rules;
      moved = put_more (call_of c.args.hand.now) ring c.args.from c.loop-number.number (view_of c.args.hand.now) v w c.loop-number.invariant.past c.loop-number.invariant.moved one.0;
      holds = holds_less c.loop-number.number v w c.loop-number.invariant.holds one.1;
    }

pub returns-clause-moved : goal.returns-clause-moved
returns-clause-moved g c =
    let end : c.loop-number.number ≡ c.args.to = omega (arith, c.loop-number-test.false, c.loop-number.auto.number-end, c.requires.most.0) in
    subst (λ (z : ℕ). Moved (claims (call_of c.args.hand.now) (ring_of c.args.ring) (range_with_len c.args.from (z - c.args.from))) (view_of c.args.hand.now) (view_of c.loop-number.hand)) end c.loop-number.invariant.moved

pub returns-clause-holds : goal.returns-clause-holds
returns-clause-holds g c =
    let end : c.loop-number.number ≡ c.args.to = omega (arith, c.loop-number-test.false, c.loop-number.auto.number-end, c.requires.most.0) in
    subst (λ (z : ℕ). HoldsFrom z (view_of c.loop-number.hand)) end c.loop-number.invariant.holds

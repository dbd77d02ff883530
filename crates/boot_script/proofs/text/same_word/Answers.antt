use Rattle.boot_script.proofs.Common.{◌-◌, arith, sym, nat_tests}
use Rattle.boot_script.proofs.Basics.SameWords.{other_length, other_byte, same_none, same_from, same_whole}
use Rattle.boot_script.proofs.text.same_word.Goals as goal

pub returns-then-one-other : goal.returns-then-one-other
returns-then-one-other c = sym (other_length c.args.one.now c.args.other.now (λ same. grind (arith, nat_tests, same)))

pub loop-left-init : goal.loop-left-init
loop-left-init c = record {
  same = same_none c.args.one.now c.args.other.now (grind (arith, nat_tests));
  within = omega arith;
}

pub returns-then-one-left : goal.returns-then-one-left
returns-then-one-left c = sym (other_byte c.args.one.now c.args.other.now (c.loop-left.left - 1) (λ same. grind (arith, nat_tests, same)))

pub loop-left-preserved : goal.loop-left-preserved
loop-left-preserved c = record {
  same = same_from c.args.one.now c.args.other.now c.loop-left.left (c.loop-left.left - 1) (omega arith) (omega arith) (grind (arith, nat_tests)) (grind (arith, nat_tests)) c.loop-left.invariant.same;
  within = omega arith;
}

pub returns : goal.returns
returns c = sym (same_whole c.args.one.now c.args.other.now c.loop-left.left (omega arith) c.loop-left.invariant.same)

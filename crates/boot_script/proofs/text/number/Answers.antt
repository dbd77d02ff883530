use Rattle.boot_script.proofs.Common.{arith, slice_index_or, nat_tests, IsInRange}
use Rattle.std.proofs.lemmas.Grind.{common_steps}
use Rattle.std.proofs.lemmas.Str.{digit_value_digit}
use Rattle.boot_script.proofs.LineWords.Numbers.{refused_empty, refused_byte, refused_zero, refused_above, above_after, past_end, all_at_end, read}
use Rattle.boot_script.proofs.text.number.Goals as goal

pub returns-then-is_empty-clause-result : goal.returns-then-is_empty-clause-result
returns-then-is_empty-clause-result c = refused_empty c.args.most c.args.word.now (omega arith) (grind (arith, nat_tests))

pub returns-then-word-gt1-clause-result : goal.returns-then-word-gt1-clause-result
returns-then-word-gt1-clause-result c = refused_zero c.args.most c.args.word.now (omega arith) c.if-word-eq48.true c.if-word-gt1.true

pub returns-then-not-is_ascii_digit-clause-result : goal.returns-then-not-is_ascii_digit-clause-result
returns-then-not-is_ascii_digit-clause-result c = refused_byte c.args.most c.args.word.now c.loop-byte.byte-index (omega arith) c.loop-byte-test.true (λ h. grind (arith, common_steps, nat_tests, h.0, h.1))

pub returns-in_default-clause-result : goal.returns-in_default-clause-result
returns-in_default-clause-result c = refused_above c.args.most c.args.word.now (omega (arith, above_after c.loop-byte.value c.loop-byte.byte-index c.args.word.now c.loop-byte-test.true c.loop-byte.invariant.value))

pub returns-in_default-checked_add-clause-result : goal.returns-in_default-checked_add-clause-result
returns-in_default-checked_add-clause-result c =
    let in_range : IsInRange 48 57 (slice_index_or c.args.word.now c.loop-byte.byte-index 0) = grind (arith, common_steps, nat_tests) in
    refused_above c.args.most c.args.word.now (omega (arith, digit_value_digit _ in_range, above_after c.loop-byte.value c.loop-byte.byte-index c.args.word.now c.loop-byte-test.true c.loop-byte.invariant.value))

pub returns-then-most-value-clause-result : goal.returns-then-most-value-clause-result
returns-then-most-value-clause-result c = refused_above c.args.most c.args.word.now (omega (arith, past_end c.loop-byte.value c.loop-byte.byte-index c.args.word.now c.loop-byte-test.false c.loop-byte.invariant.value))

pub returns-clause-result : goal.returns-clause-result
returns-clause-result c = read c.args.most c.loop-byte.value c.args.word.now (omega arith) (omega arith)
    (past_end c.loop-byte.value c.loop-byte.byte-index c.args.word.now c.loop-byte-test.false c.loop-byte.invariant.value)
    (all_at_end c.loop-byte.byte-index c.args.word.now c.loop-byte-test.false c.loop-byte.invariant.digits)
    (grind (arith, nat_tests)) (λ h. grind (arith, nat_tests))

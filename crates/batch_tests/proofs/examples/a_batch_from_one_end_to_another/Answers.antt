use Rattle.std.proofs.Common.{arith, refl}
use Rattle.batch_tests.proofs.examples.a_batch_from_one_end_to_another.Goals as goal

-- 256 is 2^8
pub new-requires : goal.new-requires
new-requires g c = (omega arith, omega arith, ∣ (8, refl) ∣₁)

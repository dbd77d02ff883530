use Rattle.std.proofs.Common.{arith, refl}
use Rattle.bench.proofs.batch.Room.places.Goals as goal

pub returns-in-Of256 : goal.returns-in-Of256
returns-in-Of256 c = (omega arith, omega arith, ∣ (8, refl) ∣₁)

pub returns-in-Of4096 : goal.returns-in-Of4096
returns-in-Of4096 c = (omega arith, omega arith, ∣ (12, refl) ∣₁)

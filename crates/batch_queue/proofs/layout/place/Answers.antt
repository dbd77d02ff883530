use Rattle.batch_queue.proofs.Common.{sym, ℕ, ◌%◌, ◌-◌, ◌∙◌, ◌≡◌}
use Rattle.std.proofs.Common.{◌^◌, bit_and}
use Rattle.std.proofs.Math.Logic.{∥∥₁_elim}
use Rattle.std.proofs.Math.Nat.{ℕ_set}
use Rattle.std.proofs.lemmas.Nat.{and_mask}
use Rattle.batch_queue.proofs.layout.place.Goals as goal

pub returns : goal.returns
returns c = ∥∥₁_elim c.requires.1 (ℕ_set _ _) (λ (p : (k : ℕ) × (c.args.room ≡ 2 ^ k)). (λ i. bit_and c.args.position (p.1 i - 1)) ∙ (and_mask c.args.position p.0 ∙ (λ i. c.args.position % sym p.1 i)))

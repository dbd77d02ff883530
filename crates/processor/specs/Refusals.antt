-- Refusals of a queue that is shut.
use Rattle.std.specs.Prelude.{Bool, true, false}
use Rattle.claim_queue.specs.declared.claim.ClaimRefusal.{ClaimRefusal}
use Rattle.claim_queue.specs.declared.claim.ClaimRefusal.TheVariants as claims
use Rattle.claim_queue.specs.declared.take.TakeRefusal.{TakeRefusal}
use Rattle.claim_queue.specs.declared.take.TakeRefusal.TheVariants as takes

-- the claim was refused because the queue is shut
abbrev pub is_shut : ClaimRefusal → Bool
is_shut claims.Closed = true
is_shut refusal = false

-- the taking was refused because the queue is shut and has nothing left
abbrev pub is_over : TakeRefusal → Bool
is_over takes.Closed = true
is_over refusal = false

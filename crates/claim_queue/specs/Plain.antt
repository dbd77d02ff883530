-- The queue of clients that agreed on no protocol: every put is allowed.
use Rattle.std.specs.Prelude.{ℕ}
use Rattle.table_theory.specs.declared.protocol.Free.{Free}
use Rattle.claim_queue.specs.declared.ends.ClaimQueue as declared

abbrev pub ClaimQueue : ℕ → Type 0
ClaimQueue n = declared.ClaimQueue n Free

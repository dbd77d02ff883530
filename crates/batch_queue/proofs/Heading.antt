-- The head word: the head, and the mark of a shut queue.
use Rattle.batch_queue.proofs.Common.{Bool, SHUT, false, if◌then◌else◌, mark, nat_lt, refl, ℕ, ◌+◌, ◌<◌, ◌≡◌}
use Rattle.std.specs.Int.Bits.{bit_or}
use Rattle.table_theory.proofs.Marking as marking

-- a word without the mark is the head of an open queue
pub open_head : (b : Bool) (n w : ℕ) → w ≡ n + mark b → w < SHUT → (b ≡ false) × (w ≡ n)
open_head b n w is low = marking.unmarked 63 mark refl refl b n w is low

pub marked : (h : ℕ) (b : Bool) → h < SHUT → bit_or (h + mark b) SHUT ≡ h + SHUT
marked h b fits = marking.marked 63 mark refl refl h b fits

-- a queue is shut once then, whether this end has shut it or another before
pub shut_more : (b : Bool) (n y : ℕ) → y ≡ n + mark b → n < SHUT → (if b then 1 else 0) + (if nat_lt y SHUT then 1 else 0) ≡ 1
shut_more b n y is bounded = marking.marked_once 63 mark refl refl b n y is bounded

-- The effects of the calls for C on the handles of batch queues.
use Rattle.std.specs.Prelude.{◌≡◌, ◌⊎◌, ◌≤◌, ◌<◌, ℕ, ℤ, pos, List, length, Result, Ok, Err, Some, Option}
use Rattle.batch_queue.specs.declared.refusals.PutRefusal.TheVariants as not_put
use Rattle.batch_queue.specs.declared.refusals.TakeRefusal.TheVariants as not_taken
use Rattle.bindings.specs.BatchHeld.{PutRefusal, TakeRefusal, SynthBatchClosed, HeldBatch, places_of, Ended}
use Rattle.bindings.specs.Handles.{Payload, Batch, WasEnded, Done}
use Rattle.bindings.specs.Codes.{ShortBuffer}
use Rattle.bindings.specs.declared.batch.SynthPositions.{SynthPositions}

-- the code of a refused put
abbrev pub code_of_put : PutRefusal → ℤ
code_of_put not_put.NoItems = pos 1
code_of_put not_put.TooLong = pos 2
code_of_put not_put.Closed = pos 3
code_of_put not_put.Spent = pos 4
code_of_put (not_put.Full head free) = pos 5
code_of_put (not_put.Lost head) = pos 6

-- the positions that a refused put reports; if the refusal has none, the old positions remain
abbrev pub positions_of_put : PutRefusal → SynthPositions → SynthPositions
positions_of_put (not_put.Full head free) old = record { head = head; tail = free }
positions_of_put (not_put.Lost head) old = record { head = head; tail = 0 }
positions_of_put _ old = old

-- the report of a put: Done and the position of its first item, or the code and the positions of the refusal
abbrev pub ReportsPut : Result ℕ PutRefusal → SynthPositions → SynthPositions → ℤ → Type 0
ReportsPut (Ok start) old new code = (code ≡ Done) × (new ≡ record { head = start; tail = 0 })
ReportsPut (Err r) old new code = (code ≡ code_of_put r) × (new ≡ positions_of_put r old)

-- the report of `try_put_some`: as for a put, and the number of items put, which a refusal leaves unchanged
abbrev pub ReportsPutSome : Result (ℕ × ℕ) PutRefusal → ℕ → ℕ → SynthPositions → SynthPositions → ℤ → Type 0
ReportsPutSome (Ok r) old_count count old new code = ReportsPut (Ok r.0) old new code × (count ≡ r.1)
ReportsPutSome (Err r) old_count count old new code = ReportsPut (Err r) old new code × (count ≡ old_count)

-- the code of a refused taking
abbrev pub code_of_batch : TakeRefusal → ℤ
code_of_batch not_taken.Closed = pos 3
code_of_batch (not_taken.Lost tail) = pos 6
code_of_batch (not_taken.Empty at) = pos 7
code_of_batch (not_taken.ShortBuffer at count) = ShortBuffer

-- the position that a refused taking reports, as the tail; if the refusal has none, the old positions remain
abbrev pub positions_of_take : TakeRefusal → SynthPositions → SynthPositions
positions_of_take not_taken.Closed old = old
positions_of_take (not_taken.Lost tail) old = record { head = 0; tail = tail }
positions_of_take (not_taken.Empty at) old = record { head = 0; tail = at }
positions_of_take (not_taken.ShortBuffer at count) old = record { head = 0; tail = at }

-- the number of items of the batch at the tail, if the buffer is too short for it; else the old count
abbrev pub count_of_take : TakeRefusal → ℕ → ℕ
count_of_take (not_taken.ShortBuffer at count) old = count
count_of_take _ old = old

-- the report of a taking: Done and the number of its items, or the code, the count and the positions of the refusal
abbrev pub ReportsTake : Result ℕ TakeRefusal → ℕ → ℕ → SynthPositions → SynthPositions → ℤ → Type 0
ReportsTake (Ok n) old_count count old new code = (code ≡ Done) × (count ≡ n) × (new ≡ old)
ReportsTake (Err r) old_count count old new code =
    (code ≡ code_of_batch r) × (count ≡ count_of_take r old_count) × (new ≡ positions_of_take r old)

-- the code of a closed queue: Done if no put was broken, else 18
abbrev pub IsClosedCode : SynthBatchClosed → ℤ → Type 0
IsClosedCode c code = (c.broken ≡ 0 → code ≡ Done) × (0 < c.broken → code ≡ pos 18)

-- the buffer has fewer places than the queue, and nothing happened; or the outcome of the close is reported
abbrev pub WasClosed : HeldBatch → List ℕ → List ℕ → Option Payload → SynthBatchClosed → SynthBatchClosed → ℤ → Type 0
WasClosed x old_items items new old reported code =
    ((code ≡ ShortBuffer) × (length old_items < places_of x) × (new ≡ Some (Batch x)) × (items ≡ old_items)
    × (reported ≡ old))
    ⊎ ((places_of x ≤ length old_items) × WasEnded Batch (λ outcome. Ended old_items items outcome x)
    (λ c t. t ≡ c) new old reported code)

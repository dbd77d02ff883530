-- The numbers that report an answer to C.
use Rattle.std.specs.Prelude.{ℕ, zero, suc, ℤ, pos, negsuc, Result, Ok, Err, Option, None, Some, ◌≡◌}
use Rattle.claim_queue.specs.declared.take.TakeRefusal.{TakeRefusal}
use Rattle.claim_queue.specs.declared.claim.ClaimRefusal.{ClaimRefusal}
use Rattle.proc_chain.specs.declared.chaining.ChainRefusal.{ChainRefusal}
use Rattle.claim_queue.specs.declared.claim.ClaimRefusal.TheVariants as claim
use Rattle.proc_chain.specs.declared.chaining.ChainRefusal.TheVariants as chain
use Rattle.claim_queue.specs.declared.take.TakeRefusal.TheVariants as take
pub use Rattle.bindings.specs.declared.answer.SynthAnswer.{SynthAnswer}

-- the call succeeded
abbrev pub Done : ℤ
Done = pos 0

-- negative codes: no memory, and errors that only an unchecked caller can make
abbrev pub NoMemory : ℤ
NoMemory = negsuc 0

abbrev pub EmptyHandle : ℤ
EmptyHandle = negsuc 1

abbrev pub FullHandle : ℤ
FullHandle = negsuc 2

abbrev pub OtherObject : ℤ
OtherObject = negsuc 3

abbrev pub NoShare : ℤ
NoShare = negsuc 4

abbrev pub ShortBuffer : ℤ
ShortBuffer = negsuc 5

abbrev pub BadNumber : ℤ
BadNumber = negsuc 6

-- the handle doesn't have the whole object
abbrev pub Open : ℤ
Open = pos 12

-- the library's `Spent`
abbrev pub Spent : ℤ
Spent = pos 4

-- an element of the hand is on the processor
abbrev pub Busy : ℤ
Busy = pos 9

-- no element of the hand is on the processor
abbrev pub Vacant : ℤ
Vacant = pos 10

-- the hand doesn't hold the element
abbrev pub NotHeld : ℤ
NotHeld = pos 13

-- the hand doesn't serve the processor
abbrev pub NotServed : ℤ
NotServed = pos 14

-- every place that was claimed before the position is taken
abbrev pub AllWoken : ℤ
AllWoken = pos 15

-- the end runs notes from now on
abbrev pub Run : ℤ
Run = pos 20

-- the end that runs notes gets the note
abbrev pub Left : ℤ
Left = pos 21

-- the next note
abbrev pub Note : ℤ
Note = pos 22

-- no note was found, and the end still runs notes
abbrev pub Again : ℤ
Again = pos 23

-- the end runs notes, and has to go on
abbrev pub Running : ℤ
Running = pos 24

-- the end runs no notes
abbrev pub NotRunning : ℤ
NotRunning = pos 25

abbrev pub code_of_chain : ChainRefusal → ℤ
code_of_chain chain.Spent = pos 4
code_of_chain (chain.Full head tail) = pos 5
code_of_chain (chain.Lost head) = pos 6

abbrev pub head_of_chain : ChainRefusal → ℕ
head_of_chain chain.Spent = 0
head_of_chain (chain.Full head tail) = head
head_of_chain (chain.Lost head) = head

abbrev pub tail_of_chain : ChainRefusal → ℕ
tail_of_chain (chain.Full head tail) = tail
tail_of_chain _ = 0

abbrev pub code_of_claim : Result ℕ ClaimRefusal → ℤ
code_of_claim (Ok start) = pos 0
code_of_claim (Err claim.NoItems) = pos 1
code_of_claim (Err claim.TooLong) = pos 2
code_of_claim (Err claim.Closed) = pos 3
code_of_claim (Err claim.Spent) = pos 4
code_of_claim (Err (claim.Full head tail)) = pos 5
code_of_claim (Err (claim.Lost head)) = pos 6

abbrev pub head_of_claim : Result ℕ ClaimRefusal → ℕ
head_of_claim (Ok start) = start
head_of_claim (Err (claim.Full head tail)) = head
head_of_claim (Err (claim.Lost head)) = head
head_of_claim (Err _) = 0

abbrev pub tail_of_claim : Result ℕ ClaimRefusal → ℕ
tail_of_claim (Err (claim.Full head tail)) = tail
tail_of_claim _ = 0

abbrev pub code_of_take : TakeRefusal → ℤ
code_of_take take.Closed = pos 3
code_of_take (take.Lost tail) = pos 6
code_of_take (take.Empty at) = pos 7

abbrev pub tail_of_take : TakeRefusal → ℕ
tail_of_take take.Closed = 0
tail_of_take (take.Lost tail) = tail
tail_of_take (take.Empty at) = at

-- Done if anything was taken or nothing was refused; else the code of the refusal
abbrev pub code_of_some : ℕ → Option TakeRefusal → ℤ
code_of_some (suc n) _ = pos 0
code_of_some zero None = pos 0
code_of_some zero (Some r) = code_of_take r

-- the position in the last refusal, or 0 if there was none
abbrev pub tail_of_some : Option TakeRefusal → ℕ
tail_of_some None = 0
tail_of_some (Some r) = tail_of_take r

-- the code and the two positions that are reported
abbrev pub IsAnswer : ℤ → ℕ → ℕ → SynthAnswer → Type 0
IsAnswer code head tail reported = (reported.code ≡ code) × (reported.head ≡ head) × (reported.tail ≡ tail)

-- the code, with both positions 0
abbrev pub IsCodeAlone : ℤ → SynthAnswer → Type 0
IsCodeAlone code = IsAnswer code 0 0

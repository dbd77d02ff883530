-- The effects of the calls of a queue on an end of it. Each definition states what the library's call states.
use Rattle.std.specs.Prelude.{◌≡◌, ◌≤◌, ℕ, Bool, take, List, [], ◌∷◌, length, Result, MatchResult, Option, map, Some}
use Rattle.std.specs.Prelude.{Ok, Err}
use Rattle.std.specs.Arc.{arc_value}
use Rattle.claim_queue.specs.Takings.{TookItems, RefusedTake, IsNone, IsOne, IsLine, IsBegun}
pub use Rattle.claim_queue.specs.Handles.{IsSameEnd, AreOfOneQueue, view_of, first_of}
use Rattle.claim_queue.specs.Endings.{SplitBy, IsNewEnd, JoinedBy}
use Rattle.claim_queue.specs.Walks.{LookAgrees, HasLooked}
use Rattle.claim_queue.specs.Closings.{ShutNow, ClosedNow}
use Rattle.claim_queue.specs.Puts.{IsPut}
use Rattle.claim_queue.specs.Rules.{newcomer}
use Rattle.claim_queue.specs.Lines.{SameLines}
use Rattle.claim_queue.specs.Plain.{ClaimQueue}
use Rattle.claim_queue.specs.Claims.{KeepsClaims}
use Rattle.claim_queue.specs.Answers.{Refused}
use Rattle.table_theory.specs.Sharing.{the_whole}
use Rattle.claim_queue.specs.declared.ends.QueueEnd.{QueueEnd}
use Rattle.claim_queue.specs.declared.look.QueueLook.{QueueLook}
pub use Rattle.claim_queue.specs.declared.take.TakeRefusal.{TakeRefusal}
pub use Rattle.claim_queue.specs.declared.claim.ClaimRefusal.{ClaimRefusal}
use Rattle.bindings.specs.Shares.{AllOf, WasDivided, WasJoined}
use Rattle.bindings.specs.QueueTaking.{TookSome, IsKeptFrom}
pub use Rattle.bindings.specs.declared.queue.part.Part.{Part}
pub use Rattle.bindings.specs.declared.answer.SynthClosed.{SynthClosed}
use Rattle.bindings.specs.declared.queue.SynthQueueLook.{SynthQueueLook}

-- the same end of the same queue
abbrev pub IsSamePart : (n : ℕ) → Part n → Part n → Type 0
IsSamePart n x y = (arc_value y.queue ≡ arc_value x.queue) × IsSameEnd x.end y.end

-- the same end of the same queue, with an unchanged share
abbrev pub IsKept : (n : ℕ) → Part n → Part n → Type 0
IsKept n x y = IsSamePart n x y × (y.share ≡ x.share)

-- both are ends of one queue
abbrev pub IsOneQueue : (n : ℕ) → Part n → Part n → Type 0
IsOneQueue n x y = AreOfOneQueue x.end y.end

-- the only end of a queue with this first position and this mark, in which nothing was claimed
abbrev pub IsNewPart : ℕ → ℕ → (n : ℕ) → Part n → Type 0
IsNewPart first mark n x = (first_of (arc_value x.queue) ≡ first)
    × (view_of x.end ≡ newcomer (record { first = first; room = n }))
    × AllOf mark x.share

-- `try_put` gave this answer
abbrev pub PutPart : List ℕ → Result ℕ ClaimRefusal → (n : ℕ) → Part n → Part n → Type 0
PutPart items answer n x y = IsKept n x y × MatchResult answer
    (λ start. IsPut n (view_of x.end) start items (view_of y.end))
    (λ r. Refused n (view_of x.end) (length items) r (view_of y.end))

-- `try_take` gave this answer
abbrev pub TookPart : Result ℕ TakeRefusal → (n : ℕ) → Part n → Part n → Type 0
TookPart answer n x y = IsKept n x y × MatchResult answer
    (λ item. TookItems n (view_of x.end) (item ∷ []) (view_of y.end))
    (λ r. RefusedTake IsNone IsOne n (view_of x.end) r (view_of y.end))

-- `try_take_line` gave this answer: the line is at the beginning of the buffer, and the rest is unchanged
abbrev pub TookLinePart : List ℕ → List ℕ → Result ℕ TakeRefusal → (n : ℕ) → Part n → Part n → Type 0
TookLinePart old new answer n x y = IsKept n x y × MatchResult answer
    (λ k. (k ≤ n) × IsLine n (take k new) × IsKeptFrom k old new
    × TookItems n (view_of x.end) (take k new) (view_of y.end))
    (λ r. (new ≡ old) × RefusedTake (IsBegun n) (IsLine n) n (view_of x.end) r (view_of y.end))

-- so many items were taken one by one into the beginning of the buffer, until it was full or a taking was refused
abbrev pub TookSomePart : List ℕ → List ℕ → ℕ × Option TakeRefusal → (n : ℕ) → Part n → Part n → Type 0
TookSomePart old new answer n x y = IsKept n x y × (answer.0 ≤ length old) × IsKeptFrom answer.0 old new
    × TookSome n (view_of x.end) (take answer.0 new) (length old) answer.1 (view_of y.end)

-- `shut` gave this answer
abbrev pub ShutPart : Bool → (n : ℕ) → Part n → Part n → Type 0
ShutPart was_open n x y = IsKept n x y × ShutNow (view_of x.end) was_open (view_of y.end)

-- `split` made `born`, an end of the same queue, with a part of the share of x
abbrev pub DividedPart : (n : ℕ) → Part n → Part n → Part n → Type 0
DividedPart n x y born = IsSamePart n x y × (arc_value born.queue ≡ arc_value x.queue)
    × WasDivided x.share y.share born.share
    × SplitBy (view_of x.end) (view_of y.end) × IsNewEnd (view_of x.end) (view_of y.end) (view_of born.end)

-- `join` took in the end `other`, with its parts of the share
abbrev pub JoinedPart : (n : ℕ) → Part n → Part n → Part n → Type 0
JoinedPart n x y other = IsSamePart n x y × JoinedBy (view_of x.end) (view_of other.end) (view_of y.end)
    × WasJoined x.share y.share other.share

-- the library's own record of the look
abbrev pub found_by : SynthQueueLook → QueueLook
found_by a = record { tail = a.tail; head = a.head; shut = a.shut; raised = a.raised }

-- `look` found this
pub record LookedAtPart (found : QueueLook) (n : ℕ) (x y : Part n) : Type 0 where
  pub same : IsKept n x y
  pub effect : SameLines (view_of x.end) (view_of y.end)
  pub claims : KeepsClaims (view_of x.end) (view_of y.end)
  pub result : LookAgrees n found (view_of y.end).seen.object
  pub trace : HasLooked n (view_of x.end) found (view_of y.end)

-- the queue is closed; the `c.left` items left are at the beginning of the buffer, whose rest is unchanged
abbrev pub ClosedInto : List ℕ → List ℕ → SynthClosed → (n : ℕ) → ClaimQueue n → QueueEnd n → Type 0
ClosedInto old new c n queue end = (c.first ≡ first_of queue) × (c.left ≤ n) × IsKeptFrom c.left old new
    × ClosedNow (view_of end) c.first c.put c.taken (map Some (take c.left new))

-- the end has all parts, and closed its queue
abbrev pub ClosedPart : List ℕ → List ℕ → SynthClosed → (n : ℕ) → Part n → Type 0
ClosedPart old new c n x = (x.share.parts ≡ the_whole) × ClosedInto old new c n (arc_value x.queue) x.end

-- the end closed its queue; or the end and the buffer are unchanged
abbrev pub EndedPart : List ℕ → List ℕ → (n : ℕ) → Result SynthClosed (Part n) → Part n → Type 0
EndedPart old new n (Ok c) x = ClosedPart old new c n x
EndedPart old new n (Err y) x = (y ≡ x) × (new ≡ old)

-- The contents of a handle, and the effects that all kinds of calls have on it.
pub use Rattle.std.specs.Prelude.{◌≡◌, ◌⊎◌, ℤ, true, Result, Ok, Err, Option, None, Some}
pub use Rattle.bindings.specs.Kinds.{Payload, HeldBatch, HeldQueue, HeldChain, HeldHand, HeldSeat, HeldIn, HeldOut}
pub use Rattle.bindings.specs.Kinds.{batch_in, queue_in, chain_in, hand_in, seat_in, line_in_in, line_out_in, Batch}
pub use Rattle.bindings.specs.Kinds.{Queue, Chain, Hand, Seat, LineIn, LineOut}
pub use Rattle.bindings.specs.Codes.{Done, NoMemory, EmptyHandle, FullHandle, OtherObject, BadNumber, Open, IsCodeAlone}
pub use Rattle.bindings.specs.Shares.{Share, Fit, Exceed}
pub use Rattle.bindings.specs.Hiding.{is_some}
pub use Rattle.bindings.specs.declared.handle.Handle.{Handle}

-- the contents of the handle, None if it is empty
abbrev pub held_by : Handle → Option Payload
held_by h = h.hidden.value

-- the contents, if they are of this kind
abbrev pub of_kind : {X : Type 0} → (Payload → Option X) → Option Payload → Option X
of_kind kind None = None
of_kind kind (Some p) = kind p

-- the end of this kind that is held, None if the handle is empty or holds another kind
abbrev pub end_in : {X : Type 0} → (Payload → Option X) → Handle → Option X
end_in kind h = of_kind kind (held_by h)

-- the end of a batch queue that is held; below, of a claim queue, of a chain, of a table of thread elements, of meters
abbrev pub batch_of : Handle → Option HeldBatch
batch_of = end_in batch_in

abbrev pub queue_of : Handle → Option HeldQueue
queue_of = end_in queue_in

abbrev pub chain_of : Handle → Option HeldChain
chain_of = end_in chain_in

abbrev pub hand_of : Handle → Option HeldHand
hand_of = end_in hand_in

abbrev pub seat_of : Handle → Option HeldSeat
seat_of = end_in seat_in

-- the end of a line that pushes and is held; below, the one that pops
abbrev pub line_in_of : Handle → Option HeldIn
line_in_of = end_in line_in_in

abbrev pub line_out_of : Handle → Option HeldOut
line_out_of = end_in line_out_in

-- the handle holds what it held
abbrev pub AsItWas : Handle → Handle → Type 0
AsItWas old new = held_by new ≡ held_by old

-- If a handle holds no end of the call's kind (an empty one holds none), the call is refused and the handle unchanged
abbrev pub NoneIn : {X : Type 0} → (Handle → Option X) → Handle → Handle → Type 0 → Type 0
NoneIn of old new refused = of old ≡ None → refused × AsItWas old new

-- P holds of the end that the handle held, if it held one
abbrev pub HoldsThen : {X : Type 0} → Option X → (X → Type 0) → Type 0
HoldsThen {X} old P = (x : X) → old ≡ Some x → P x

-- the handle holds an end, and P holds of it
abbrev pub HoldsSome : {X : Type 0} → Option X → (X → Type 0) → Type 0
HoldsSome {X} now P = (y : X) × (now ≡ Some y) × P y

-- if the handle held an end, P relates the end to what the handle holds now
abbrev pub LeadsTo : {X : Type 0} → (Handle → Option X) → Handle → Handle → (X → Option X → Type 0) → Type 0
LeadsTo of old new P = HoldsThen (of old) (λ x. P x (of new))

-- if the handle held an end, the handle holds an end now, and P relates the two
abbrev pub TurnsThen : {X : Type 0} → (Handle → Option X) → Handle → Handle → (X → X → Type 0) → Type 0
TurnsThen of old new P = HoldsThen (of old) (λ x. HoldsSome (of new) (P x))

-- The effect of a call on the end x that writes a value, by its code. If a number of the call is out of range, the code
-- is BadNumber, and the value is the old one
abbrev pub Writes : {A X : Type 0} → Type 0 → Type 0 → (A → X → X → Type 0) → A → A → ℤ → X → Option X → Type 0
Writes {A} {X} Valid OutOfRange Did old value code x new =
    ((code ≡ BadNumber) × OutOfRange × (new ≡ Some x) × (value ≡ old))
    ⊎ ((code ≡ Done) × Valid × (y : X) × (new ≡ Some y) × Did value x y)

-- the effect of `free`, by its code
abbrev pub FreedHandle : {X : Type 0} → (Handle → Option X) → Handle → Handle → ℤ → Type 0
FreedHandle of old new code =
    ((code ≡ EmptyHandle) × (of old ≡ None) × AsItWas old new)
    ⊎ ((code ≡ Done) × (is_some (of old) ≡ true) × (held_by new ≡ None))

-- if both handles hold an end and the ends have one mark, they are ends of one object
abbrev pub MarksTell : {X Z : Type 0} → (X → Z → Type 0) → (X → Z → Type 0) → Option X → Option Z → Type 0
MarksTell HaveOneMark AreOfOne (Some x) (Some z) = HaveOneMark x z → AreOfOne x z
MarksTell HaveOneMark AreOfOne _ _ = Unit {0}

-- the effect of putting a new end into a handle, by the code: no memory, or the handle holds the end
abbrev pub Filled : {X : Type 0} → (X → Payload) → Option X → Handle → Handle → ℤ → Type 0
Filled {X} wrap made old new code =
    ((code ≡ NoMemory) × AsItWas old new)
    ⊎ ((code ≡ Done) × (y : X) × (made ≡ Some y) × (held_by new ≡ Some (wrap y)))

-- The effect of `new`, by its code: `Valid` states that the numbers of the call are in range
abbrev pub MadeHandle : {X : Type 0} → (X → Payload) → Type 0 → (X → Type 0) → Handle → Handle → ℤ → Type 0
MadeHandle {X} wrap Valid IsNew old new code =
    ((code ≡ FullHandle) × (is_some (held_by old) ≡ true) × AsItWas old new)
    ⊎ ((code ≡ BadNumber) × (held_by old ≡ None) × AsItWas old new × (Valid → ⊥))
    ⊎ ((code ≡ NoMemory) × (held_by old ≡ None) × AsItWas old new × Valid)
    ⊎ ((code ≡ Done) × (held_by old ≡ None) × Valid × (y : X) × (held_by new ≡ Some (wrap y)) × IsNew y)

-- The effect of `split` on the end x, by its code. NoMemory is reported only if the end can be split
abbrev pub IsSplitCall : {X : Type 0} → (Handle → Option X) → (X → Type 0) → (X → ℤ → Type 0) → (X → X → X → Type 0)
    → X → Handle → Handle → Handle → ℤ → Type 0
IsSplitCall {X} of MaySplit MayNotSplit SplitBy x old new made code =
    (MayNotSplit x code × AsItWas old new × (held_by made ≡ None))
    ⊎ ((code ≡ NoMemory) × MaySplit x × AsItWas old new × (held_by made ≡ None))
    ⊎ ((code ≡ Done) × MaySplit x × (y z : X) × (of new ≡ Some y) × (of made ≡ Some z) × SplitBy x y z)

-- the effect of `split`, by its code
abbrev pub SplitHandle : {X : Type 0} → (Handle → Option X) → (X → Type 0) → (X → ℤ → Type 0) → (X → X → X → Type 0)
    → Handle → Handle → Handle → Handle → ℤ → Type 0
SplitHandle {X} of MaySplit MayNotSplit SplitBy old new other made code =
    ((code ≡ EmptyHandle) × (of old ≡ None) × AsItWas old new × AsItWas other made)
    ⊎ ((code ≡ FullHandle) × (is_some (of old) ≡ true) × AsItWas old new × (is_some (held_by other) ≡ true)
    × AsItWas other made)
    ⊎ ((held_by other ≡ None) × (x : X) × (of old ≡ Some x)
    × IsSplitCall of MaySplit MayNotSplit SplitBy x old new made code)

-- by their marks and parts, both can be ends of one object
abbrev pub MayJoin : {X : Type 0} → (X → Share) → (X → X → Type 0) → X → X → Type 0
MayJoin share HaveOneMark x z = HaveOneMark x z × Fit (share x) (share z)

-- the marks differ, or the ends together have more parts than one object has
abbrev pub MayNotJoin : {X : Type 0} → (X → Share) → (X → X → Type 0) → X → X → Type 0
MayNotJoin share HaveOneMark x z = (HaveOneMark x z → ⊥) ⊎ Exceed (share x) (share z)

-- the effect of `join`, by its code
abbrev pub JoinedHandle : {X : Type 0} → (Handle → Option X) → (X → Share) → (X → X → Type 0)
    → (X → X → X → Type 0) → Handle → Handle → Handle → Handle → ℤ → Type 0
JoinedHandle {X} of share HaveOneMark Joined old new other left code =
    ((code ≡ EmptyHandle) × ((of old ≡ None) ⊎ (of other ≡ None)) × AsItWas old new × AsItWas other left)
    ⊎ ((code ≡ OtherObject) × (x z : X) × (of old ≡ Some x) × (of other ≡ Some z) × AsItWas old new × AsItWas other left
    × MayNotJoin share HaveOneMark x z)
    ⊎ ((code ≡ Done) × (x y z : X) × (of old ≡ Some x) × (of other ≡ Some z) × (of new ≡ Some y) × (held_by left ≡ None)
    × MayJoin share HaveOneMark x z × Joined x y z)

-- the report of a close: Done, and the handle is empty; or Open, and the handle holds the end that was returned
abbrev pub ReportsEnding : {C T X : Type 0} → (X → Payload) → (C → T → Type 0) → Result C X → Option Payload → T → T → ℤ
    → Type 0
ReportsEnding wrap Reports (Ok closed) new old reported code = (code ≡ Done) × (new ≡ None) × Reports closed reported
ReportsEnding wrap Reports (Err y) new old reported code = (code ≡ Open) × (new ≡ Some (wrap y)) × (reported ≡ old)

-- an object was to be closed, and the outcome is reported
pub record WasEnded {C T X : Type 0} (wrap : X → Payload) (Ended : Result C X → Type 0) (Reports : C → T → Type 0)
    (new : Option Payload) (old reported : T) (code : ℤ) : Type 0 where
  pub outcome : Result C X
  pub ended : Ended outcome
  pub reports : ReportsEnding wrap Reports outcome new old reported code

-- the library's call gave an answer, which is reported, and the handle holds the end y that `Did` relates to x
pub record Answered {A X : Type 0} (Did : A → X → X → Type 0) (Reports : A → Type 0) (x : X) (new : Option X)
    : Type 0 where
  pub y : X
  pub full : new ≡ Some y
  pub answer : A
  pub answered : Did answer x y
  pub reports : Reports answer

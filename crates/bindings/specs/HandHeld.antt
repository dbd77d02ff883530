-- The effects of the calls of a thread table on a hand. Each definition states what the library's call states.
use Rattle.std.specs.Prelude.{◌≡◌, ◌≢◌, ◌⊎◌, ◌≤◌, ◌<◌, ℕ, ℤ, true, false, Some, None, Result, Ok, Err}
use Rattle.std.specs.Arc.{arc_value}
use Rattle.thread_table.specs.Answers.{is_in, DoneAnswer, PutsOn, TakesOff, ReadPc}
pub use Rattle.thread_table.specs.Rules.{newcomer, has, serves, running}
pub use Rattle.thread_table.specs.Handles.{view_of, call_of, first_of, IsSameHand}
use Rattle.table_theory.specs.Sharing.{the_whole}
use Rattle.thread_table.specs.Closings.{ClosedNow}
use Rattle.thread_table.specs.declared.close.Places.{Places}
use Rattle.thread_table.specs.declared.programs.Spent.{Spent}
use Rattle.thread_table.specs.Handles as hands
use Rattle.thread_table.specs.Endings as endings
use Rattle.bindings.specs.Shares.{AllOf, HasTwo, HasNoTwo, WasDivided, WasJoined}
use Rattle.bindings.specs.Codes.{BadNumber, Busy, NotServed}
pub use Rattle.bindings.specs.Kinds.{HeldHand}

-- the same hand of the same table
abbrev pub IsSameHeld : HeldHand → HeldHand → Type 0
IsSameHeld x y = (arc_value y.table ≡ arc_value x.table) × IsSameHand x.hand y.hand

-- the same hand of the same table, with an unchanged share
abbrev pub IsKept : HeldHand → HeldHand → Type 0
IsKept x y = IsSameHeld x y × (y.share ≡ x.share)

-- both are hands of one table
abbrev pub AreOfOneTable : HeldHand → HeldHand → Type 0
AreOfOneTable x y = hands.AreOfOneTable x.hand y.hand

-- the only hand of a new table with this mark, whose element queues have this first position
abbrev pub IsNewHand : ℕ → ℕ → HeldHand → Type 0
IsNewHand first mark x = (first_of (arc_value x.table) ≡ first)
    × (view_of x.hand ≡ newcomer (record { first = first })) × AllOf mark x.share

-- the hand serves each processor of the mask
abbrev pub ServesAll : ℕ → HeldHand → Type 0
ServesAll mask x = (p : ℕ) → p < 8 → is_in mask p ≡ true → serves (view_of x.hand) p ≡ true

-- the hand doesn't serve some processor of the mask
abbrev pub LacksOne : ℕ → HeldHand → Type 0
LacksOne mask x = (p : ℕ) × (p < 8) × (is_in mask p ≡ true) × (serves (view_of x.hand) p ≡ false)

-- no element of the hand is on a processor of the mask
abbrev pub HasNoneOn : ℕ → HeldHand → Type 0
HasNoneOn mask x = (p : ℕ) → p < 8 → is_in mask p ≡ true → running (view_of x.hand) p ≡ None

-- an element of the hand is on a processor of the mask
abbrev pub HasOneOn : ℕ → HeldHand → Type 0
HasOneOn mask x = (p : ℕ) × (p < 8) × (is_in mask p ≡ true) × (running (view_of x.hand) p ≢ None)

-- the hand doesn't hold the element, and has it on no processor (0 to 7) that the hand serves
abbrev pub HasNot : ℕ → HeldHand → Type 0
HasNot element x = (has (view_of x.hand) element ≡ false)
    × ((p : ℕ) → p < 8 → serves (view_of x.hand) p ≡ true → running (view_of x.hand) p ≢ Some element)

-- the hand can give away a part of its share and the processors of the mask, on which it has no element
abbrev pub MaySplit : ℕ → HeldHand → Type 0
MaySplit mask x = (mask < 256) × ServesAll mask x × HasNoneOn mask x × HasTwo x.share

-- the reason why the hand can't be split so, by the code: the first of these reasons that holds
abbrev pub MayNotSplit : ℕ → HeldHand → ℤ → Type 0
MayNotSplit mask x code =
    ((code ≡ BadNumber) × (256 ≤ mask))
    ⊎ ((code ≡ NotServed) × (mask < 256) × LacksOne mask x)
    ⊎ ((code ≡ Busy) × (mask < 256) × ServesAll mask x × HasOneOn mask x)
    ⊎ ((mask < 256) × ServesAll mask x × HasNoneOn mask x × HasNoTwo x.share code)

-- `split` made `born`, a hand of the same table, with the processors of the mask and a part of the share of x
abbrev pub SplitBy : ℕ → HeldHand → HeldHand → HeldHand → Type 0
SplitBy mask x y born = IsSameHeld x y × (arc_value born.table ≡ arc_value x.table)
    × WasDivided x.share y.share born.share
    × endings.SplitBy mask (view_of x.hand) (view_of y.hand)
    × endings.IsNewEnd mask (view_of x.hand) (view_of y.hand) (view_of born.hand)

-- `join` took in the hand `other`, with its parts of the share
abbrev pub Joined : HeldHand → HeldHand → HeldHand → Type 0
Joined x y other = IsSameHeld x y × WasJoined x.share y.share other.share
    × endings.JoinedBy (view_of x.hand) (view_of other.hand) (view_of y.hand)

-- `on` put the element on the processor
abbrev pub WasPutOn : ℕ → ℕ → HeldHand → HeldHand → Type 0
WasPutOn p element x y = IsKept x y × PutsOn (call_of x.hand) p element (view_of x.hand) (view_of y.hand)

-- `off` took the element off the processor
abbrev pub WasTakenOff : ℕ → ℕ → HeldHand → HeldHand → Type 0
WasTakenOff p element x y = IsKept x y × TakesOff (call_of x.hand) p element (view_of x.hand) (view_of y.hand)

-- `pc` gave this number of steps
abbrev pub WasCounted : ℕ → ℕ → HeldHand → HeldHand → Type 0
WasCounted element steps x y = IsKept x y × ReadPc element (view_of x.hand) steps (view_of y.hand)

-- `step_done` gave this answer
abbrev pub WasDone : ℕ → Result ℕ Spent → HeldHand → HeldHand → Type 0
WasDone element answer x y = IsKept x y
    × DoneAnswer (call_of x.hand) (view_of x.hand) element answer (view_of y.hand)

-- the hand has all parts, and closed the table as the library's `close` states; or the hand is unchanged
abbrev pub Ended : Result Places HeldHand → HeldHand → Type 0
Ended (Ok c) x = (x.share.parts ≡ the_whole)
    × ClosedNow (call_of x.hand) (view_of x.hand) c.places c.pcs c.pending c.stops
Ended (Err y) x = y ≡ x

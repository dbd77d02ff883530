-- The effects of the calls of a chain on an end of it. Each definition states what the library's call states.
use Rattle.std.specs.Prelude.{◌≡◌, ℕ, Bool, true, false, [], ◌∷◌, Result, Ok, Err}
use Rattle.std.specs.Arc.{arc_value}
use Rattle.proc_chain.specs.Rules.{suits, makes, view_from}
pub use Rattle.proc_chain.specs.Handles.{IsSameEnd, me_of, view_of}
use Rattle.proc_chain.specs.Notes.{PutNote, SameNotes}
use Rattle.proc_chain.specs.Answers.{ChainedNow, NotChained}
use Rattle.proc_chain.specs.Turns.{HasServed}
use Rattle.proc_chain.specs.Servings.{KeptNow}
use Rattle.table_theory.specs.Sharing.{the_whole}
use Rattle.proc_chain.specs.declared.running.Turn.{Turn}
pub use Rattle.proc_chain.specs.declared.close.ChainClosed.{ChainClosed}
pub use Rattle.proc_chain.specs.declared.chaining.ChainRefusal.{ChainRefusal}
use Rattle.proc_chain.specs.declared.chaining.Chained.TheVariants as chained
use Rattle.proc_chain.specs.declared.held.ServedKept.TheVariants as served
use Rattle.proc_chain.specs.Closings as closings
use Rattle.proc_chain.specs.Endings as endings
use Rattle.proc_chain.specs.Handles as chains
use Rattle.bindings.specs.Shares.{AllOf, WasDivided, WasJoined}
use Rattle.bindings.specs.Inboxes.{HasLast, FitsAny}
pub use Rattle.bindings.specs.Kinds.{HeldChain}
pub use Rattle.bindings.specs.declared.chain.held.Noted.{Noted}
pub use Rattle.bindings.specs.declared.chain.inbox.Inbox.{Inbox}
pub use Rattle.bindings.specs.declared.chain.held.Pulled.{Pulled}
use Rattle.bindings.specs.declared.chain.held.Noted.TheVariants as noted
use Rattle.bindings.specs.declared.chain.held.Pulled.TheVariants as pulled

-- the end runs notes
abbrev pub has_turn : HeldChain → Bool
has_turn x = chains.turn_of x.end

-- the same end of the same chain
abbrev pub IsSameHeld : HeldChain → HeldChain → Type 0
IsSameHeld x y = (arc_value y.chain ≡ arc_value x.chain) × IsSameEnd x.end y.end

-- the same end of the same chain, with an unchanged share
abbrev pub IsKept : HeldChain → HeldChain → Type 0
IsKept x y = IsSameHeld x y × (y.share ≡ x.share)

-- both are ends of the same chain
abbrev pub AreOfOneChain : HeldChain → HeldChain → Type 0
AreOfOneChain x y = y.end.seat.table_id ≡ x.end.seat.table_id

-- the only end of a new chain with this first position and this mark; the end runs no notes
abbrev pub IsNewChain : ℕ → ℕ → HeldChain → Type 0
IsNewChain first mark x = (chains.first_of (arc_value x.chain) ≡ first) × (view_of x.end ≡ view_from first)
    × (has_turn x ≡ false) × AllOf mark x.share

-- `split` made `born`, an end of the same chain, with a part of the share of x; `born` runs no notes
abbrev pub SplitBy : HeldChain → HeldChain → HeldChain → Type 0
SplitBy x y born = IsSameHeld x y × (has_turn y ≡ has_turn x) × (has_turn born ≡ false)
    × (arc_value born.chain ≡ arc_value x.chain)
    × WasDivided x.share y.share born.share
    × endings.SplitBy (view_of x.end) (view_of y.end)
    × endings.IsNewEnd (view_of x.end) (view_of y.end) (view_of born.end)

-- `join` joined the two ends: `other` took x in if it ran notes, else x took `other` in; y has the parts of both
abbrev pub Joined : HeldChain → HeldChain → HeldChain → Type 0
Joined x y other = (arc_value y.chain ≡ arc_value x.chain)
    × endings.Joined (has_turn other) (me_of x.end) (me_of other.end) (me_of y.end)
    × WasJoined x.share y.share other.share

-- `try_chain` gave this answer: this end now runs notes, or the note was left to the end that does, or it was refused
abbrev pub WasChained : ℕ → Result Noted ChainRefusal → HeldChain → HeldChain → Type 0
WasChained note (Ok noted.Run) x y = IsKept x y × (has_turn x ≡ false) × (has_turn y ≡ true)
    × PutNote note (view_of x.end) (view_of y.end)
    × ((turn : Turn) × ChainedNow (view_of x.end) note (chained.Run turn) (view_of y.end))
WasChained note (Ok noted.Left) x y = IsKept x y × (has_turn y ≡ has_turn x)
    × PutNote note (view_of x.end) (view_of y.end) × ChainedNow (view_of x.end) note chained.Left (view_of y.end)
WasChained note (Err refusal) x y = IsKept x y × (has_turn y ≡ has_turn x)
    × SameNotes (view_of x.end) (view_of y.end) × NotChained (view_of x.end) refusal (view_of y.end)

-- An end that runs notes pulled the next note, and only that one. Or no note was found, and the end still runs notes.
-- Or no note was left, and the end runs none from now on
abbrev pub WasPulled : Pulled → HeldChain → HeldChain → Type 0
WasPulled (pulled.Note note) x y = IsKept x y × (has_turn y ≡ true)
    × HasServed (view_of x.end) (note ∷ []) (view_of y.end) × KeptNow (me_of x.end) 1 (served.More 1) (me_of y.end)
WasPulled pulled.Again x y = IsKept x y × (has_turn y ≡ true)
    × KeptNow (me_of x.end) 1 (served.More 0) (me_of y.end)
WasPulled pulled.Done x y = IsKept x y × (has_turn y ≡ false)
    × KeptNow (me_of x.end) 1 (served.Done 0) (me_of y.end)

-- the end has all parts, all notes were run, and the chain is closed as `close` states; or the end is unchanged
abbrev pub Ended : Result (ChainClosed Inbox) HeldChain → HeldChain → Type 0
Ended (Ok c) x = (x.share.parts ≡ the_whole) × (c.taken ≡ c.put) × ((inbox : Inbox) × closings.ClosedNow
    (makes HasLast (chains.pact_of (arc_value x.chain))) (suits FitsAny (chains.pact_of (arc_value x.chain)))
    (view_of x.end) (chains.first_of (arc_value x.chain)) c.put c.taken [] inbox)
Ended (Err y) x = y ≡ x

-- The quaject that the chain for C runs: an inbox with the note that was pulled last.
use Rattle.std.specs.Prelude.{◌≡◌, ℕ, true, false, List, [], ◌∷◌}
use Rattle.proc_chain.specs.Handles.{me_of, opening_of, turn_of, view_of}
use Rattle.proc_chain.specs.Own.{queue_of}
use Rattle.proc_chain.specs.Shown.{notes_of}
use Rattle.proc_chain.specs.declared.ends.ChainEnd.{ChainEnd}
use Rattle.proc_chain.specs.declared.ends.ProcChain.{ProcChain}
use Rattle.proc_chain.specs.declared.quaject.Quaject.{Ghosts}
use Rattle.bindings.specs.declared.chain.inbox.Inbox.{Inbox}

-- the last number of the list, or `first` if the list is empty
abbrev pub last_or : ℕ → List ℕ → ℕ
last_or first [] = first
last_or first (x ∷ xs) = last_or x xs

-- these notes were pulled, and the inbox has the last of them, or the note of `first` if there were none
abbrev pub HasLast : Inbox → Inbox → List ℕ → Type 0
HasLast first inbox notes = inbox.note ≡ last_or first.note notes

-- every inbox fits every world
abbrev pub FitsAny : Unit {0} → Inbox → Type 0
FitsAny world inbox = Unit {0}

-- an inbox that has no note yet: its note is 0
abbrev pub no_note : Inbox
no_note = record { note = 0 }

-- The end is one of this chain, which began without a note. If the end runs notes, it holds the inbox with the last of
-- the notes taken, or 0 if none was. Else the end holds nothing
abbrev pub IsHeldEnd : {g : Ghosts Inbox (Unit {0})} → ProcChain Inbox (Unit {0}) → ChainEnd Inbox (Unit {0}) g → Type 0
IsHeldEnd chain end = (end.seat.table_id ≡ chain.table.shared.table_id) × (opening_of chain ≡ no_note)
    × (turn_of end ≡ true
    → (me_of end).1 ≡ (0, record { note = last_or 0 (notes_of (queue_of (view_of end))) }) ∷ [])
    × (turn_of end ≡ false → (me_of end).1 ≡ [])

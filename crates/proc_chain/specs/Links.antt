-- The common parts of several answers of a chain, as data: tries that were lost, a note that was chained, and a turn
-- that was served to its end.
use Rattle.std.specs.Prelude.{◌≡◌, ◌+◌, ◌<◌, ◌≤◌, ℕ, List, [], ◌∷◌, ◌++◌, length, Some}
use Rattle.std.specs.List.{AllByRecursion, flat_map}
use Rattle.table_theory.specs.Batches.{IsPast}
use Rattle.table_theory.specs.declared.queues.Batch.{Batch}
use Rattle.table_theory.specs.declared.positions.TheConstants.{POSITIONS}
use Rattle.table_theory.specs.declared.views.AbsState.{AbsState}
use Rattle.table_theory.specs.Ledgers.{Step, load, change}
use Rattle.table_theory.specs.Positioned.{fresh}
use Rattle.proc_chain.specs.declared.rule.ChainOps.{ChainOps}
use Rattle.proc_chain.specs.declared.rule.GatedQueue.{GatedQueue}
use Rattle.proc_chain.specs.declared.layout.TheConstants.{PLACES, IDLE, MORE}
use Rattle.proc_chain.specs.declared.serve.TheConstants.{MOST_RUN}
use Rattle.proc_chain.specs.Layout.{head_word, tail_word, place_word, gate_word}
use Rattle.proc_chain.specs.Changes.{IsPlace, with_note, with_raise, with_gate}
use Rattle.proc_chain.specs.Servings.{Serving, Leaving, IsUse, serving, leaving, all_uses, after_all, notes_run}

-- a position is left at this head, and there is room for one more note with this tail
abbrev pub HasRoom : ℕ → ℕ → Type 0
HasRoom head tail = (head + 1 < POSITIONS) × (head < tail + PLACES)

-- a position is left at this head, but there is no room with this tail
abbrev pub IsFull : ℕ → ℕ → Type 0
IsFull head tail = (head + 1 < POSITIONS) × (tail + PLACES ≤ head)

-- no position is left at this head
abbrev pub IsSpent : ℕ → Type 0
IsSpent head = POSITIONS ≤ head + 1

-- a lost try: the head and the tail that were loaded, and the head that the compare-and-swap found, each at its moment
pub record LostTry : Type 0 where
  pub head : ℕ
  pub at_head : AbsState GatedQueue
  pub tail : ℕ
  pub at_tail : AbsState GatedQueue
  pub found : ℕ
  pub at_exchange : AbsState GatedQueue

-- there was room, but the compare-and-swap found another head, past the one loaded
abbrev pub IsLost : LostTry → Type 0
IsLost t = HasRoom t.head t.tail × (t.head < t.found)

-- the entries of lost tries, one after the other
abbrev pub tried : List LostTry → List (Step GatedQueue)
tried [] = []
tried (t ∷ tries) = load head_word t.head t.at_head ∷ load tail_word t.tail t.at_tail
    ∷ load head_word t.found t.at_exchange ∷ tried tries

-- a note that was chained: the numbers found in the head, the tail, the place and the gate, each at its moment
pub record Link : Type 0 where
  pub head : ℕ
  pub at_head : AbsState GatedQueue
  pub tail : ℕ
  pub at_tail : AbsState GatedQueue
  pub at_claim : AbsState GatedQueue
  pub was : ℕ
  pub at_raise : AbsState GatedQueue
  pub gate : ℕ
  pub at_gate : AbsState GatedQueue

-- the entries of a link: the head and the tail were loaded, a place claimed, the note raised, and the gate set to More
abbrev pub linked : ℕ → Link → List (Step GatedQueue)
linked note l = load head_word l.head l.at_head ∷ load tail_word l.tail l.at_tail
    ∷ change head_word l.head l.at_claim (with_note l.at_claim.object note)
    ∷ change (place_word l.head) l.was l.at_raise (with_raise l.at_raise.object l.head note)
    ∷ change gate_word l.gate l.at_gate (with_gate l.at_gate.object MORE) ∷ []

-- there was room; the place was claimed for this note, at or past the end of each of these runs
pub record IsLink (runs : List Batch) (note : ℕ) (l : Link) : Type 0 where
  pub room : HasRoom l.head l.tail
  pub past : IsPast runs l.head
  pub place : IsPlace l.at_raise.object.queue l.head (fresh note)

-- the gate was found Idle, so the end got the Turn
abbrev pub FoundIdle : Link → Type 0
FoundIdle l = l.gate ≡ IDLE

-- a turn that was served to its end: servings that used up the greatest limit, a last serving, and how the end left
pub record Service : Type 0 where
  pub used_up : List Serving
  pub last : Serving
  pub left : Leaving

abbrev pub servings : Service → List Serving
servings s = s.used_up ++ s.last ∷ []

-- the entries of the service
abbrev pub served : Service → List (Step GatedQueue)
served s = flat_map serving (servings s) ++ leaving (Some s.left)

-- the notes that the service ran, in order
abbrev pub notes_in : Service → List ℕ
notes_in s = notes_run (all_uses (servings s))

-- how the numbers of the service compare
pub record IsService (s : Service) : Type 0 where
  pub full : AllByRecursion (λ t. length t.uses ≡ MOST_RUN) s.used_up
  pub less : length s.last.uses < MOST_RUN
  pub uses : AllByRecursion IsUse (all_uses (servings s))

-- the end's record after the service
abbrev pub with_service : ChainOps → Service → ChainOps
with_service d s = after_all d (all_uses (servings s)) (Some s.left)

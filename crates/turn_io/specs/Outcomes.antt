-- The effect of one step of a thread at one end, by the answer to the step.
use Rattle.std.specs.Prelude.{◌≡◌, ℕ, Bool, List, [], length, Some, Result, Ok, Err}
use Rattle.std.specs.List.{slice_get}
use Rattle.atomic_table.specs.Table.{Me}
use Rattle.claim_queue.specs.declared.ends.QueueEnd.{QueueEnd}
use Rattle.claim_queue.specs.declared.claim.ClaimRefusal.{ClaimRefusal}
use Rattle.claim_queue.specs.declared.take.TakeRefusal.{TakeRefusal}
use Rattle.claim_queue.specs.Answers as claims
use Rattle.claim_queue.specs.Closings.{ShutNow}
use Rattle.claim_queue.specs.Handles.{view_of}
use Rattle.claim_queue.specs.Puts.{IsPut}
use Rattle.claim_queue.specs.Takings.{IsLine, IsBegun, TookItems, RefusedTake}
use Rattle.proc_chain.specs.declared.quaject.Quaject.{Ghosts}
use Rattle.proc_chain.specs.declared.chaining.ChainRefusal.{ChainRefusal}
use Rattle.proc_chain.specs.declared.ends.ChainEnd.{ChainEnd}
use Rattle.proc_chain.specs.declared.ends.ProcChain.{ProcChain}
use Rattle.proc_chain.specs.Own.{View}
use Rattle.proc_chain.specs.Answers.{NotChained}
use Rattle.proc_chain.specs.Handles as chain_ends
use Rattle.proc_chain.specs.Rules.{suits, makes}
use Rattle.quajects.specs.Notings.{IsRun, IsLeft}
use Rattle.turn_io.specs.declared.poking.Poked.{Poked}
use Rattle.turn_io.specs.declared.poking.Poked.TheVariants.{Ran, Left}
use Rattle.turn_io.specs.EndLists.{OnEnd}

module _ {n : ℕ} where
  -- the line was put by one claim and all its raises; or the claim was refused
  abbrev pub Said : {A : Type 0} → List ℕ → Result A ClaimRefusal → QueueEnd n → QueueEnd n → Type 0
  Said line (Ok done) old new = (start : ℕ) × IsPut n (view_of old) start line (view_of new)
  Said line (Err refusal) old new = claims.Refused n (view_of old) (length line) refusal (view_of new)

  -- the line was taken, by one taking; or there is none, and the taking was refused
  abbrev pub Heard : {A : Type 0} → List ℕ → Result A TakeRefusal → QueueEnd n → QueueEnd n → Type 0
  Heard line (Ok done) old new = IsLine n line × TookItems n (view_of old) line (view_of new)
  Heard line (Err refusal) old new =
      (line ≡ []) × RefusedTake (IsBegun n) (IsLine n) n (view_of old) refusal (view_of new)

  -- the queue is shut, and the answer is whether it was open
  abbrev pub HasShut : Bool → QueueEnd n → QueueEnd n → Type 0
  HasShut was_open old new = ShutNow (view_of old) was_open (view_of new)

-- By one try the note was chained, and the Turn that the try gave was served to its end, with this many notes run. Or
-- the note was chained and left to another end, or the try was refused
abbrev pub ReportedOnce : {Q : Type 0} → (Q → List ℕ → Type 0) → (Q → Type 0) → Me Q View → ℕ
    → Result Poked ChainRefusal
    → Me Q View → Type 0
ReportedOnce made fits me note (Ok (Ran notes)) me' = IsRun made fits me [] note notes me'
ReportedOnce made fits me note (Ok Left) me' = IsLeft me [] note me'
ReportedOnce made fits me note (Err refusal) me' = NotChained me.0 refusal me'.0 × (me'.1 ≡ me.1)

module _ {Q W : Type 0} {g : Ghosts Q W} where
  -- the end of this chain made one try to chain the note, with this answer
  abbrev pub HasPoked : ProcChain Q W → ℕ → Result Poked ChainRefusal → ChainEnd Q W g → ChainEnd Q W g → Type 0
  HasPoked chain note answer old new =
      ReportedOnce (makes g.made_by (chain_ends.pact_of chain)) (suits g.fits (chain_ends.pact_of chain))
      (chain_ends.me_of old) note answer (chain_ends.me_of new)

  -- the end of the chain with this index made one try to chain the note, and the other ends did nothing
  pub record PokedAt (list : List (ProcChain Q W)) (index note : ℕ) (answer : Result Poked ChainRefusal)
      (old new : List (ChainEnd Q W g)) : Type 0 where
    pub chain : ProcChain Q W
    pub its : slice_get list index ≡ Some chain
    pub on : OnEnd index (HasPoked chain note answer) old new

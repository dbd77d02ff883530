-- The effects of the calls for C on the handles of chains. An empty handle holds None.
use Rattle.std.specs.Prelude.{◌≡◌, ℕ, ℤ, true, false, Result, Ok, Err, Option, Some}
use Rattle.bindings.specs.Codes.{Again, Done, Left, Note, NotRunning, Run, Running, code_of_chain, head_of_chain}
use Rattle.bindings.specs.Codes.{tail_of_chain, IsAnswer, IsCodeAlone, SynthAnswer}
use Rattle.bindings.specs.ChainHeld.{ChainClosed, ChainRefusal, Ended, WasChained, WasPulled, has_turn, Inbox}
use Rattle.bindings.specs.ChainHeld.{HeldChain, Noted, Pulled}
use Rattle.bindings.specs.Handles.{Answered, WasEnded, Payload, Chain}
use Rattle.bindings.specs.declared.chain.SynthChained.{SynthChained}
use Rattle.bindings.specs.declared.chain.held.Noted.TheVariants as noted
use Rattle.bindings.specs.declared.chain.held.Pulled.TheVariants as pulled

-- the report of a try to chain a note: Run, Left, or the code and the positions of the refusal
abbrev pub ReportsNoted : Result Noted ChainRefusal → SynthAnswer → Type 0
ReportsNoted (Ok noted.Run) reported = IsCodeAlone Run reported
ReportsNoted (Ok noted.Left) reported = IsCodeAlone Left reported
ReportsNoted (Err r) reported = IsAnswer (code_of_chain r) (head_of_chain r) (tail_of_chain r) reported

-- the library's `try_chain` was called, and its answer is reported
abbrev pub IsChainCall : HeldChain → ℕ → Option HeldChain → SynthAnswer → Type 0
IsChainCall x note new reported = Answered (WasChained note) (λ answer. ReportsNoted answer reported) x new

-- the report of a pull: Note and the note, or Again or Done and the old note
abbrev pub ReportsPulled : Pulled → ℕ → ℕ → ℤ → Type 0
ReportsPulled (pulled.Note note) old new code = (code ≡ Note) × (new ≡ note)
ReportsPulled pulled.Again old new code = (code ≡ Again) × (new ≡ old)
ReportsPulled pulled.Done old new code = (code ≡ Done) × (new ≡ old)

-- an end that runs notes pulled one, and the answer is reported; an end that runs none is unchanged
pub data IsPullCall (x : HeldChain) (old_note note : ℕ) (new : Option HeldChain) (code : ℤ) : Type 0 where
  runs_none : has_turn x ≡ false → code ≡ NotRunning → note ≡ old_note → new ≡ Some x
      → IsPullCall x old_note note new code
  runs_notes : has_turn x ≡ true → (y : HeldChain) (answer : Pulled) → new ≡ Some y → WasPulled answer x y
      → ReportsPulled answer old_note note code → IsPullCall x old_note note new code

-- the report of a closed chain: how many notes were put, and how many were run
abbrev pub ReportsClosed : ChainClosed Inbox → SynthChained → Type 0
ReportsClosed c reported = (reported.put ≡ c.put) × (reported.run ≡ c.taken)

-- if the end runs notes, the chain stays open and the end is unchanged; else the outcome of the close is reported
pub data WasClosed (x : HeldChain) (new : Option Payload) (old reported : SynthChained) (code : ℤ) : Type 0 where
  runs_notes : has_turn x ≡ true → code ≡ Running → reported ≡ old → new ≡ Some (Chain x)
      → WasClosed x new old reported code
  runs_none : has_turn x ≡ false → WasEnded Chain (λ outcome. Ended outcome x) ReportsClosed new old reported code
      → WasClosed x new old reported code

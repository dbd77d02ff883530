-- The answer of the replay of a list of events, and its printed text.
use Rattle.std.specs.Prelude.{◌≡◌, ℕ, List, ◌++◌, map, take, Option, Result, Ok, Err, IsOk, IsSomeAnd}
use Rattle.std.specs.List.{slice_get}
use Rattle.std.specs.Io.KnownBytes.{Appends}
use Rattle.event_theory.specs.declared.event.Event.{Event}
use Rattle.event_theory.specs.States.{State, first_state, step}
use Rattle.event_theory.specs.Schedules.{Reaches}
use Rattle.event_theory.specs.declared.status.Status.{Status}
use Rattle.event_theory.specs.Statuses.{status_of}
use Rattle.boot_script.specs.declared.fault.ScriptFault.{ScriptFault}
use Rattle.boot_script.specs.declared.outcome.Replayed.{Replayed}
use Rattle.boot_script.specs.declared.outcome.Replayed.TheVariants.{AllAllowed, Refused}
use Rattle.boot_script.specs.declared.outcome.ReplayFault.{ReplayFault}
use Rattle.boot_script.specs.declared.outcome.ReplayFault.TheVariants.{Script, Memory, Read, Write}
use Rattle.boot_script.specs.Printed.{status_text, refused_text}

-- the events without the numbers of their lines
abbrev pub alone : List (ℕ × Event) → List Event
alone events = map (λ numbered. numbered.1) events

-- from `old` to `new` all events are allowed, or all before the first refused one, which is on this line
abbrev pub Replays : Replayed → List (ℕ × Event) → State → State → Type 0
Replays AllAllowed events old new = Reaches old (alone events) new
Replays (Refused line refusal) events old new =
    (count : ℕ) × Reaches old (alone (take count events)) new
    × IsSomeAnd (slice_get events count) (λ numbered. (numbered.0 ≡ line) × (step numbered.1 new ≡ Err refusal))

-- a run of the events from `old` gives this answer, and ends in a state with this status
abbrev pub Ends : Replayed → Status → List (ℕ × Event) → State → Type 0
Ends replayed status events old =
    (new : State) × Replays replayed events old new × (status ≡ status_of new)

-- the printed text: the status, and then the line of the refused event, if there is one
abbrev pub replay_text : Replayed → Status → List ℕ
replay_text AllAllowed status = status_text status
replay_text (Refused line refusal) status = status_text status ++ refused_text line refusal

-- the text has no fault, and its events on a fresh core have this answer; exactly the printed text of the answer and
-- of their status is appended
abbrev pub IsReplay :
    Result (ℕ × List (ℕ × Event)) ScriptFault → Replayed → Option (List ℕ) → Option (List ℕ) → Type 0
IsReplay (Err fault) replayed old new = ⊥
IsReplay (Ok said) replayed old new =
    (status : Status) × Ends replayed status said.1 (first_state said.0) × Appends old new (replay_text replayed status)

-- `Script` has the first fault of the text; `Memory` and `Write` are returned only if the text has no fault; `Read` may
-- be returned for any text
abbrev pub IsReplayFault : Result (ℕ × List (ℕ × Event)) ScriptFault → ReplayFault → Type 0
IsReplayFault said (Script fault) = said ≡ Err fault
IsReplayFault said Memory = IsOk said
IsReplayFault said Read = Unit {0}
IsReplayFault said Write = IsOk said

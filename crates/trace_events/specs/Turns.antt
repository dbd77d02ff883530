-- The events of the turns of a processor. Turns in a row with nothing at hand are one event, with their number.
use Rattle.std.specs.Prelude.{ℕ, suc, ◌+◌, ◌==◌, ◌&&◌, List, [], ◌∷◌, ◌++◌, length, codes}
use Rattle.std.specs.Prelude.{if◌then◌else◌, cond, Option, Some, None}
use Rattle.std.specs.List.{prefix_len}
use Rattle.boot_data.specs.declared.boot_plan.BootPlan.{BootPlan}
use Rattle.json.specs.Json.{Json}
use Rattle.boot_log.specs.declared.entry.Entry.{Entry}
use Rattle.boot_log.specs.Idling.{is_idle}
use Rattle.boot_log.specs.Kept.{end_of, part_of}
use Rattle.boot_log.specs.Values.{line_part}
use Rattle.trace_events.specs.declared.tracks.ThreadTurn.{ThreadTurn}
use Rattle.trace_events.specs.Events.{missed_json, turn_json}
use Rattle.trace_events.specs.Objects.{numbered}
use Rattle.trace_events.specs.Tracks.{thread_turn_of}
use Rattle.trace_events.specs.TurnArgs.{turn_args}
use Rattle.trace_events.specs.TurnNames.{turn_name}

-- the track of a processor
abbrev pub processor_track : ℕ → ℕ
processor_track processor = processor + 1

-- the track of a thread, after those of the processors
abbrev pub thread_track : ℕ → ℕ
thread_track thread = thread + 11

-- a turn, put before the runs of the turns after it: in front of the first run, if that is idle as the turn is
abbrev pub joined : Entry → List (List Entry) → List (List Entry)
joined entry [] = (entry ∷ []) ∷ []
joined entry ([] ∷ runs) = (entry ∷ []) ∷ runs
joined entry ((next ∷ run) ∷ runs) =
    if is_idle entry && is_idle next
    then (entry ∷ next ∷ run) ∷ runs
    else (entry ∷ []) ∷ (next ∷ run) ∷ runs

-- the turns by runs: each run is one turn, or all idle turns in a row
abbrev pub runs_of : List Entry → List (List Entry)
runs_of [] = []
runs_of (entry ∷ entries) = joined entry (runs_of entries)

-- how many turns the first run has
abbrev pub run_length : List Entry → ℕ
run_length [] = 0
run_length (entry ∷ entries) = suc (cond (is_idle entry) (prefix_len is_idle entries) 0)

-- a turn on the track of its thread, if it has one
abbrev pub on_thread : Option ThreadTurn → (ThreadTurn → Json) → List Json
on_thread None event = []
on_thread (Some turn) event = event turn ∷ []

-- A turn with this number, which began at this time: on the track of its processor, and on that of the element that was
-- at hand, where it begins as `begins` says
abbrev pub turn_events : BootPlan → List ℕ → (ThreadTurn → ℕ) → ℕ → ℕ → ℕ → Entry → List Json
turn_events plan bytes begins processor number from entry =
    let event : ℕ → ℕ → Json = λ track start.
    turn_json (turn_name entry.did) track start entry.at
    (turn_args plan processor (part_of bytes (line_part entry.did)) entry) in
    event (processor_track processor) from
    ∷ on_thread (thread_turn_of processor number from entry) (λ turn. event (thread_track turn.thread) (begins turn))

-- idle turns in a row: how many there are, on the track of their processor
abbrev pub idle_event : ℕ → ℕ → ℕ → ℕ → Json
idle_event processor from until turns =
    turn_json (codes "idle") (processor_track processor) from until
    (numbered (codes "processor") processor ∷ numbered (codes "turns") turns ∷ [])

-- the turns that were missed after the last one that was kept, at whose end their number is shown
abbrev pub missed_events : ℕ → ℕ → ℕ → List Json
missed_events processor at missed =
    if missed == 0 then [] else missed_json (processor_track processor) at processor missed ∷ []

-- a run, whose first turn has this number
abbrev pub run_events : BootPlan → List ℕ → (ThreadTurn → ℕ) → ℕ → ℕ → ℕ → List Entry → List Json
run_events plan bytes begins processor number from [] = []
run_events plan bytes begins processor number from (entry ∷ entries) =
    if is_idle entry
    then idle_event processor from (end_of from (entry ∷ entries)) (length (entry ∷ entries)) ∷ []
    else turn_events plan bytes begins processor number from entry

-- runs, one after the other: each starts when the one before it has ended, with the number after its last turn
abbrev pub runs_events : BootPlan → List ℕ → (ThreadTurn → ℕ) → ℕ → ℕ → ℕ → List (List Entry) → List Json
runs_events plan bytes begins processor number from [] = []
runs_events plan bytes begins processor number from (run ∷ runs) =
    run_events plan bytes begins processor number from run
    ++ runs_events plan bytes begins processor (number + length run) (end_of from run) runs

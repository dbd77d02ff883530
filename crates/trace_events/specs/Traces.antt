-- The trace of a boot: the names of its tracks, and the turns of each processor.
use Rattle.std.specs.Prelude.{ℕ, ◌+◌, ◌-◌, max, List, [], ◌∷◌, ◌++◌, codes}
use Rattle.std.specs.Fmt.{decimal}
use Rattle.boot_data.specs.declared.boot_plan.BootPlan.{BootPlan}
use Rattle.boot_data.specs.declared.plan.PlannedThread.{PlannedThread}
use Rattle.boot_script.specs.Reports.{heard_text}
use Rattle.json.specs.Json.{Json}
use Rattle.boot_log.specs.declared.line_turn.LineTurn.{LineTurn}
use Rattle.boot_log.specs.declared.passing.Passing.{Passing}
use Rattle.boot_log.specs.Kept.{Kept, end_of}
use Rattle.boot_log.specs.Lines.{passings}
use Rattle.trace_events.specs.declared.tracks.ThreadTurn.{ThreadTurn}
use Rattle.trace_events.specs.Events.{line_end_json, line_start_json, metadata_json}
use Rattle.trace_events.specs.Tracks.{all_thread_turns, slice_start, turn_of_line}
use Rattle.trace_events.specs.Turns.{missed_events, processor_track, runs_events, runs_of, thread_track}

-- the events of things, which are numbered from this number on
abbrev pub numbered_events : {A : Type 0} → (ℕ → A → List Json) → ℕ → List A → List Json
numbered_events events number [] = []
numbered_events events number (x ∷ xs) = events number x ++ numbered_events events (number + 1) xs

-- the name of the one process
abbrev pub process_json : Json
process_json = metadata_json (codes "process_name") 0 (codes "synthesis")

-- the name of a processor's track
abbrev pub processor_events : ℕ → List Json
processor_events processor =
    metadata_json (codes "thread_name") (processor_track processor) (codes "processor " ++ decimal processor) ∷ []

-- the name of a thread's track
abbrev pub thread_events : ℕ → PlannedThread → List Json
thread_events number thread =
    metadata_json (codes "thread_name") (thread_track number) (heard_text thread.name) ∷ []

-- the turns of a processor, of which the first one starts at this time, and how many turns were missed after them
abbrev pub log_events : BootPlan → ℕ → (ThreadTurn → ℕ) → ℕ → Kept → List Json
log_events plan from begins processor log =
    runs_events plan log.bytes begins processor 0 from (runs_of log.entries)
    ++ missed_events processor (end_of from log.entries) log.missed

-- the last nanosecond of a turn on the track of its thread, or its start there if it has none
abbrev pub last_of : (ThreadTurn → ℕ) → LineTurn → ℕ
last_of begins turn = max (begins (turn_of_line turn)) (turn.ended - 1)

-- A line that passed, with this number: from the turn that said it to the turn that heard it, on the tracks of their
-- threads. It starts at the start of the one there, and arrives at the end of the other
abbrev pub passing_events : (ThreadTurn → ℕ) → ℕ → Passing → List Json
passing_events begins number passing =
    line_start_json number (thread_track passing.said.thread) (begins (turn_of_line passing.said))
    ∷ line_end_json number (thread_track passing.heard.thread) (last_of begins passing.heard) ∷ []

-- The events of a boot after the name of its process: the names of all tracks, all turns of all processors, and all
-- lines that passed
abbrev pub boot_events : BootPlan → ℕ → List Kept → List Json
boot_events plan from logs =
    let begins : ThreadTurn → ℕ = slice_start (all_thread_turns from 0 logs) in
    numbered_events (λ processor log. processor_events processor) 0 logs
    ++ numbered_events thread_events 0 plan.threads ++ numbered_events (log_events plan from begins) 0 logs
    ++ numbered_events (passing_events begins) 0 (passings plan from logs)

-- the events of a boot
abbrev pub trace_events : BootPlan → ℕ → List Kept → List Json
trace_events plan from logs = process_json ∷ boot_events plan from logs

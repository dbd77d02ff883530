-- The page of a boot that was recorded.
use Rattle.std.specs.Prelude.{◌≡◌, ℕ, Bool, true, false, List, [], length, map, min, Option, Some}
use Rattle.std.specs.List.{All}
use Rattle.std.specs.Io.KnownBytes.{Appends}
use Rattle.boot_data.specs.declared.boot_plan.BootPlan.{BootPlan}
use Rattle.boot_data.specs.BootPlans.{plan_of}
use Rattle.boot_objects.specs.declared.closing.all.TornDown.{TornDown}
use Rattle.boot_log.specs.declared.recorder.Recorder.{Recorder}
use Rattle.boot_log.specs.Fronts.{IsRecordOf}
use Rattle.boot_log.specs.Kept.{Kept, Room}
use Rattle.boot_log.specs.Recorders.{IsNewRecorder}
use Rattle.boot_picture.specs.Pictures.{ShowsTurns}
use Rattle.svg.specs.declared.shapes.Picture.{Picture}
use Rattle.svg.specs.Pictures.{picture_text}
use Rattle.synth_kernel.specs.declared.outcome.Ended.{Ended}
use Rattle.synth_kernel.specs.declared.printing.Booted.{Booted}
use Rattle.processor.specs.Entries.{LogEntry}
use Rattle.processor.specs.Points.{Calls}
use Rattle.synth_kernel.specs.Boots.{BootWithHooks, IsBoot, RunsOf}
use Rattle.boot_view.specs.declared.command.Command.{Command}
use Rattle.boot_view.specs.declared.command.View.{View}
use Rattle.boot_view.specs.declared.command.View.TheVariants.{InOrder, ByTime, Trace}
use Rattle.trace_events.specs.Documents.{trace_text}
use Rattle.trace_events.specs.Traces.{trace_events}

-- the room of a recorder for so many turns: 50,000 turns at most, lines of 1,000,000 bytes together, and 16 alarms
abbrev pub room_for : ℕ → Room
room_for turns = record { turns = min turns 50000; bytes = 1000000; alarms = 16 }

-- A boot of what was read, with a new recorder on each processor, came to an end, and these recorders came back. The
-- recorders read this clock, from this time on. `made` holds of them: no other boot had recorders. The report was
-- printed
pub record HasBooted {C : Type 0} (ran : RunsOf (Recorder C)) (shown : TornDown → Type 0) (T : Calls (Recorder C))
    (made : List (Recorder C) → Type 0) (clock : C) (from : ℕ) (command : Command) (read : Option (List ℕ))
    (report : List ℕ) (booted : Booted (Recorder C)) : Type 0 where
  pub recorders : List (Recorder C)
  pub all_made : made recorders
  pub many : length recorders ≡ command.processors
  pub new : All (IsNewRecorder clock from (room_for command.turns)) recorders
  pub boot : IsBoot (BootWithHooks ran shown T command.turns recorders booted.gates.items booted.closed) read
      booted.ended (Some []) (Some report)

-- The recorder has the front of all turns of a processor, and this room. The turns' times are what the clock said after
-- this time, and none is before it
pub record HasFrontOf {C : Type 0} (says : ℕ → ℕ → Type 0) (from : ℕ) (room : Room) (turns : List LogEntry)
    (recorder : Recorder C) : Type 0 where
  pub front : IsRecordOf says from turns recorder.log
  pub room_is : recorder.log.room ≡ room

-- what these recorders have kept
abbrev pub logs_in : {C : Type 0} → List (Recorder C) → List Kept
logs_in recorders = map (λ recorder. recorder.log) recorders

-- the page is the text of a picture that shows the turns of these logs, by the time or not
pub record IsPictureOf (by_time : Bool) (logs : List Kept) (page : List ℕ) : Type 0 where
  pub picture : Picture
  pub shows : ShowsTurns logs by_time picture
  pub page_is : page ≡ picture_text picture

-- the page is this view of the turns of these logs; a trace starts at this time, and has the plan's names
abbrev pub IsPageOf : View → BootPlan → ℕ → List Kept → List ℕ → Type 0
IsPageOf InOrder plan from logs page = IsPictureOf false logs page
IsPageOf ByTime plan from logs page = IsPictureOf true logs page
IsPageOf Trace plan from logs page = page ≡ trace_text (trace_events plan from logs)

-- A boot of what was read came to this end, and the page shows the turns that its recorders had when they came back,
-- with the names of the plan that was booted. `made` holds of all its recorders. They read this clock. It was read
-- before the boot, with an answer for which `said` holds: a trace starts then, and no turn's time is before it. What
-- came back was let go, as `gone` says
pub record IsViewed {C : Type 0} (ran : RunsOf (Recorder C)) (shown : TornDown → Type 0) (T : Calls (Recorder C))
    (made : List (Recorder C) → Type 0) (gone : Booted (Recorder C) → Type 0) (clock : C) (said : ℕ → Type 0)
    (command : Command) (read : Option (List ℕ)) (ended : Ended) (page : List ℕ) : Type 0 where
  pub from : ℕ
  pub from_said : said from
  pub booted : Booted (Recorder C)
  pub report : List ℕ
  pub came : HasBooted ran shown T made clock from command read report booted
  pub let_go : gone booted
  pub ended_is : ended ≡ booted.ended
  pub plan : BootPlan
  pub plan_is : plan_of plan ≡ plan_of came.boot.plan
  pub page_of : IsPageOf command.view plan from (logs_in booted.gates.items) page

-- a boot of what was read came to this end, and exactly its page is appended
abbrev pub IsPrinted : {C : Type 0} → RunsOf (Recorder C) → (TornDown → Type 0) → Calls (Recorder C)
    → (List (Recorder C) → Type 0) → (Booted (Recorder C) → Type 0) → C → (ℕ → Type 0) → Command → Option (List ℕ)
    → Ended → Option (List ℕ) → Option (List ℕ) → Type 0
IsPrinted ran shown T made gone clock said command read ended old new =
    (page : List ℕ) × IsViewed ran shown T made gone clock said command read ended page × Appends old new page

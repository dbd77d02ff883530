-- The plan that a boot script says: its lines are read one after the other, each with the names declared so far.
use Rattle.std.specs.Prelude.{ℕ, zero, suc, ◌+◌, Bool, true, false, List, [], ◌∷◌, ◌++◌, length, Option, Some, None}
use Rattle.std.specs.Prelude.{Result, Ok, Err}
use Rattle.std.specs.Prelude.{nat_le, nat_lt, if◌then◌else◌}
use Rattle.std.specs.List.{slice_get}
use Rattle.event_theory.specs.declared.alarm.Alarm.{Alarm}
use Rattle.boot_script.specs.declared.fault.ScriptRefusal.{ScriptRefusal}
use Rattle.boot_script.specs.declared.fault.ScriptRefusal.TheVariants.{TooMany, TextTooLong}
use Rattle.boot_script.specs.declared.fault.ScriptFault.{ScriptFault}
use Rattle.boot_script.specs.declared.boot_lines.Line.{Line}
use Rattle.boot_script.specs.declared.boot_lines.Line.TheVariants as line
use Rattle.boot_data.specs.declared.kind.Kind.TheVariants as kind
use Rattle.boot_script.specs.declared.declared_names.Named.{Named}
use Rattle.boot_data.specs.declared.plan.PlannedQueue.{PlannedQueue}
use Rattle.boot_data.specs.declared.plan.PlannedTty.{PlannedTty}
use Rattle.boot_data.specs.declared.plan.PlannedMover.{PlannedMover}
use Rattle.boot_data.specs.declared.plan.PlannedThread.{PlannedThread}
use Rattle.boot_data.specs.declared.plan.Step.{Step}
use Rattle.boot_script.specs.declared.version.Version.{Version}
use Rattle.boot_script.specs.declared.version.Script.TheVariants.{Boot}
use Rattle.boot_data.specs.Plans.{Plan, steps_at}
use Rattle.boot_script.specs.BootLines.{boot_line}
use Rattle.boot_script.specs.BootNames.{count_of, room_of, with_name}
use Rattle.boot_script.specs.Scripts.{says_nothing, at_line, opening_of}
use Rattle.boot_script.specs.Words.{◌>>=◌}

-- The draft after some lines: the plan, the declared names, and the current thread, whose program gets the next step
pub record Draft : Type 0 where
  pub plan : Plan
  pub names : List Named
  pub going : Option ℕ

-- a plan with nothing in it
abbrev pub no_plan : Plan
no_plan = record { queues = []; ttys = []; movers = []; gauges = []; alarms = []; threads = [] }

-- the draft before the first line: an empty plan, no names, and no current thread
abbrev pub first_draft : Draft
first_draft = record { plan = no_plan; names = []; going = None }

-- whether there is a current thread
abbrev pub goes_on : Option ℕ → Bool
goes_on None = false
goes_on (Some thread) = true

-- the bytes that the device of a tty types so far; none if there is no tty
abbrev pub typed_in : Option PlannedTty → List ℕ
typed_in None = []
typed_in (Some tty) = tty.typed

-- the bytes that the device of the tty with this number types so far; none if there is no such tty
abbrev pub typed_at : List PlannedTty → ℕ → List ℕ
typed_at ttys tty = typed_in (slice_get ttys tty)

-- the list with the item at a place changed; past the end nothing changes
abbrev pub change_at : {A : Type 0} → (A → A) → List A → ℕ → List A
change_at change [] place = []
change_at change (x ∷ xs) zero = change x ∷ xs
change_at change (x ∷ xs) (suc place) = x ∷ change_at change xs place

-- a tty whose device types this text after its earlier texts
abbrev pub with_text : List ℕ → PlannedTty → PlannedTty
with_text text tty = record tty { typed = tty.typed ++ text }

-- a thread with one more step at the end of its program
abbrev pub with_step : Step → PlannedThread → PlannedThread
with_step step thread = record thread { steps = thread.steps ++ step ∷ [] }

-- a device types at most 1,024 bytes
abbrev pub text_room : ℕ → Result (Unit {0}) ScriptRefusal
text_room count = if nat_le count 1024 then Ok tt else Err TextTooLong

-- one more alarm may be set: there are fewer than 16
abbrev pub alarm_room : List Alarm → Result (Unit {0}) ScriptRefusal
alarm_room alarms = if nat_lt (length alarms) 16 then Ok tt else Err TooMany

-- one more step may be added: the program has fewer than 64
abbrev pub step_room : List Step → Result (Unit {0}) ScriptRefusal
step_room steps = if nat_lt (length steps) 64 then Ok tt else Err TooMany

-- one more step in the program of the current thread; without a current thread nothing changes
abbrev pub add_step : Step → Option ℕ → Draft → Result Draft ScriptRefusal
add_step step None d = Ok d
add_step step (Some thread) d = do
  room ← step_room (steps_at d.plan.threads thread)
  Ok (record d { plan = record d.plan { threads = change_at (with_step step) d.plan.threads thread } })

-- the draft with this line added; it is refused if there is no room for the line
unfoldable pub added : Version → Line → Draft → Result Draft ScriptRefusal
added version (line.Queue queue) d = do
  room ← room_of version kind.Queue d.names
  Ok (record d {
    plan = record d.plan { queues = d.plan.queues ++ queue ∷ [] };
    names = with_name kind.Queue queue.name d.names;
  })
added version (line.Tty name) d = do
  room ← room_of version kind.Tty d.names
  Ok (record d {
    plan = record d.plan { ttys = d.plan.ttys ++ record { name = name; typed = [] } ∷ [] };
    names = with_name kind.Tty name d.names;
  })
added version (line.Types tty text) d = do
  room ← text_room (length (typed_at d.plan.ttys tty) + length text)
  Ok (record d { plan = record d.plan { ttys = change_at (with_text text) d.plan.ttys tty } })
added version (line.Mover mover) d = do
  room ← room_of version kind.Mover d.names
  Ok (record d {
    plan = record d.plan { movers = d.plan.movers ++ mover ∷ [] };
    names = with_name kind.Mover mover.name d.names;
  })
added version (line.Gauge name) d = do
  room ← room_of version kind.Gauge d.names
  Ok (record d {
    plan = record d.plan { gauges = d.plan.gauges ++ name ∷ [] };
    names = with_name kind.Gauge name d.names;
  })
added version (line.Alarm alarm) d = do
  room ← alarm_room d.plan.alarms
  Ok (record d { plan = record d.plan { alarms = d.plan.alarms ++ alarm ∷ [] } })
added version (line.Thread name) d = do
  room ← room_of version kind.Thread d.names
  Ok (record d {
    plan = record d.plan { threads = d.plan.threads ++ record { name = name; steps = [] } ∷ [] };
    names = with_name kind.Thread name d.names;
    going = Some (count_of kind.Thread d.names);
  })
added version (line.More thread) d = Ok (record d { going = Some thread })
added version (line.Step step) d = add_step step d.going d

-- the draft with one more text line: the text line is read, and then added
unfoldable pub line_added : Version → List ℕ → Draft → Result Draft ScriptRefusal
line_added version line d = do
  said ← boot_line version d.names (goes_on d.going) line
  added version said d

-- the draft after these lines, if `d` is the draft before them; the first line has this number
unfoldable pub plan_from : Version → ℕ → List (List ℕ) → Draft → Result Draft ScriptFault
plan_from version number [] d = Ok d
plan_from version number (line ∷ lines) d =
    if says_nothing line then plan_from version (number + 1) lines d
    else at_line number (line_added version line d)
    >>= λ next. plan_from version (number + 1) lines next

-- the plan of a draft; a fault stays the fault
abbrev pub plan_only : Result Draft ScriptFault → Result Plan ScriptFault
plan_only (Ok d) = Ok d.plan
plan_only (Err fault) = Err fault

-- the plan that a text says
unfoldable pub text_plan : List ℕ → Result Plan ScriptFault
text_plan text = do
  opening ← opening_of Boot text
  plan_only (plan_from opening.0 2 opening.1 first_draft)

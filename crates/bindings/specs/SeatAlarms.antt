-- Alarms, as reported to C.
use Rattle.std.specs.Prelude.{◌≡◌, ◌≤◌, ◌<◌, ◌⊎◌, ℕ, List, length, drop, replicate}
use Rattle.event_theory.specs.declared.alarm.Alarm.{Alarm}
use Rattle.bindings.specs.declared.seat.alarm.SynthAlarm.{SynthAlarm}

-- an alarm as it is reported to C
abbrev pub c_alarm : Alarm → SynthAlarm
c_alarm alarm = record { due = alarm.due; element = alarm.element; signal = alarm.signal }

-- the alarm's element and signal are in range
abbrev pub IsAlarm : SynthAlarm → Type 0
IsAlarm reported = (reported.element < 64) × (reported.signal < 16)

-- the alarm's element or signal is out of range
abbrev pub IsNoAlarm : SynthAlarm → Type 0
IsNoAlarm reported = (64 ≤ reported.element) ⊎ (16 ≤ reported.signal)

-- after its first n places the buffer is unchanged, and its length is unchanged
abbrev pub IsRestKept : ℕ → List SynthAlarm → List SynthAlarm → Type 0
IsRestKept n old new = (drop n new ≡ drop n old) × (length new ≡ length old)

-- the entry at a place without an alarm
abbrev pub blank : SynthAlarm
blank = record { due = 0; element = 0; signal = 0 }

-- the list has 16 places, and those after the first n are blank
abbrev pub IsBlankFrom : ℕ → List SynthAlarm → Type 0
IsBlankFrom n reported = IsRestKept n (replicate 16 blank) reported

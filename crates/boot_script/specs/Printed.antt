-- The printed text of a status, of a refused event, and of faults.
use Rattle.std.specs.Prelude.{ℕ, ◌+◌, ◌/◌, ◌%◌, ◌==◌, ◌&&◌, Bool, true, false, not, List, [], ◌∷◌, ◌++◌, nat_lt}
use Rattle.std.specs.Prelude.{if◌then◌else◌, codes}
use Rattle.std.specs.Fmt.{decimal}
use Rattle.event_theory.specs.declared.refusal.Refusal.{Refusal}
use Rattle.event_theory.specs.declared.status.AlarmStatus.{AlarmStatus}
use Rattle.event_theory.specs.declared.status.ChainStatus.{ChainStatus}
use Rattle.event_theory.specs.declared.status.ElementStatus.{ElementStatus}
use Rattle.event_theory.specs.declared.status.Gate.{Gate}
use Rattle.event_theory.specs.declared.status.Gate.TheVariants.{Idle, Running, More}
use Rattle.event_theory.specs.declared.status.Place.{Place}
use Rattle.event_theory.specs.declared.status.Place.TheVariants.{Processor, Ready, Wait, Stopped, Free, Held}
use Rattle.event_theory.specs.declared.status.QueueStatus.{QueueStatus}
use Rattle.event_theory.specs.declared.status.Status.{Status}
use Rattle.event_theory.specs.RefusalNames.{refusal_name, refusal_number}
use Rattle.boot_script.specs.declared.fault.ScriptFault.{ScriptFault}
use Rattle.boot_script.specs.declared.outcome.ReplayFault.{ReplayFault}
use Rattle.boot_script.specs.declared.outcome.ReplayFault.TheVariants.{Script, Memory, Read, Write}
use Rattle.boot_script.specs.RefusalNames.{script_refusal_name, script_refusal_number}

-- a line ends with 0x0A
abbrev pub end_of_line : List ℕ
end_of_line = 10 ∷ []

-- a word that is printed only if the test holds
abbrev pub word_if : Bool → List ℕ → List ℕ
word_if test word = if test then word else []

-- the lines of things, which are numbered from this number on
abbrev pub numbered_lines : {A : Type 0} → (ℕ → A → List ℕ) → ℕ → List A → List ℕ
numbered_lines line number [] = []
numbered_lines line number (x ∷ xs) = line number x ++ numbered_lines line (number + 1) xs

-- the line of a queue with this number
unfoldable pub queue_line : ℕ → QueueStatus → List ℕ
queue_line number q =
    codes "queue q" ++ decimal number ++ codes " capacity " ++ decimal q.capacity
    ++ codes " runs " ++ decimal q.runs ++ codes " put " ++ decimal q.put ++ codes " taken " ++ decimal q.taken
    ++ codes " left " ++ decimal q.left ++ codes " raised " ++ decimal q.raised
    ++ word_if q.shut (codes " shut") ++ end_of_line

-- the word of a gate
abbrev pub gate_word : Gate → List ℕ
gate_word Idle = codes "idle"
gate_word Running = codes "running"
gate_word More = codes "more"

-- the line of a chain with this number
unfoldable pub chain_line : ℕ → ChainStatus → List ℕ
chain_line number chain =
    codes "chain k" ++ decimal number ++ codes " put " ++ decimal chain.put
    ++ codes " taken " ++ decimal chain.taken ++ codes " left " ++ decimal chain.left
    ++ codes " gate " ++ gate_word chain.gate ++ end_of_line

-- the words of a place
abbrev pub place_words : Place → List ℕ
place_words (Processor number) = codes "processor" ++ decimal number
place_words Ready = codes "ready"
place_words (Wait number) = codes "wait" ++ decimal number
place_words Stopped = codes "stopped"
place_words Free = codes "free"
place_words (Held number) = codes "held" ++ decimal number

-- the digit of a number below 16: `0` to `9`, `a` to `f`
abbrev pub hex_digit : ℕ → ℕ
hex_digit n = if nat_lt n 10 then 48 + n else 87 + n

-- the four digits of a number of 16 bits
unfoldable pub hex_digits : ℕ → List ℕ
hex_digits n = hex_digit (n / 4096) ∷ hex_digit (n / 256 % 16) ∷ hex_digit (n / 16 % 16) ∷ hex_digit (n % 16) ∷ []

-- whether an element is among the free elements
abbrev pub is_free : Place → Bool
is_free Free = true
is_free place = false

-- whether an element is in its first state: free, with no step done, no signal pending and the stop bit clear
abbrev pub is_first_state : ElementStatus → Bool
is_first_state element = is_free element.place && element.done == 0 && element.pending == 0 && not element.stop

-- the words of an element with this number
unfoldable pub element_words : ℕ → ElementStatus → List ℕ
element_words number element =
    codes "element e" ++ decimal number ++ codes " " ++ place_words element.place
    ++ codes " done " ++ decimal element.done ++ codes " pending " ++ hex_digits element.pending
    ++ word_if element.stop (codes " stop") ++ end_of_line

-- the line of an element with this number; an element in its first state has none
abbrev pub element_line : ℕ → ElementStatus → List ℕ
element_line number element = if is_first_state element then [] else element_words number element

-- the line of a gauge with this number; a gauge at 0 has none
unfoldable pub gauge_line : ℕ → ℕ → List ℕ
gauge_line number value =
    if value == 0 then [] else codes "gauge g" ++ decimal number ++ codes " " ++ decimal value ++ end_of_line

-- the line of the clock; a clock at 0 has none
unfoldable pub clock_line : ℕ → List ℕ
clock_line clock = if clock == 0 then [] else codes "clock " ++ decimal clock ++ end_of_line

-- the line of the alarms; there is none if no alarm was set
unfoldable pub alarm_line : AlarmStatus → List ℕ
alarm_line alarms =
    if alarms.set == 0 then []
    else codes "alarms set " ++ decimal alarms.set ++ codes " fired " ++ decimal alarms.fired
    ++ codes " cancelled " ++ decimal alarms.cancelled ++ end_of_line

-- the line of a wait queue with this number; a wait queue without a notify has none
unfoldable pub notified_line : ℕ → ℕ → List ℕ
notified_line number count =
    if count == 0 then [] else codes "notified w" ++ decimal number ++ codes " " ++ decimal count ++ end_of_line

-- the text of a status
unfoldable pub status_text : Status → List ℕ
status_text status =
    codes "events " ++ decimal status.events ++ end_of_line
    ++ numbered_lines queue_line 0 status.queues ++ numbered_lines chain_line 0 status.chains
    ++ numbered_lines element_line 0 status.elements ++ numbered_lines gauge_line 0 status.gauges
    ++ clock_line status.clock ++ alarm_line status.alarms ++ numbered_lines notified_line 0 status.notified

-- the line of an event that was refused
unfoldable pub refused_text : ℕ → Refusal → List ℕ
refused_text line refusal =
    codes "refused " ++ decimal line ++ codes " " ++ decimal (refusal_number refusal)
    ++ codes " " ++ refusal_name refusal ++ end_of_line

-- the text of a script's fault
abbrev pub fault_text : ScriptFault → List ℕ
fault_text fault =
    codes "line " ++ decimal fault.line ++ codes ": " ++ decimal (script_refusal_number fault.refusal)
    ++ codes " " ++ script_refusal_name fault.refusal

-- the text of a replay's fault
abbrev pub replay_fault_text : ReplayFault → List ℕ
replay_fault_text (Script fault) = fault_text fault
replay_fault_text Memory = codes "no memory"
replay_fault_text Read = codes "read fault"
replay_fault_text Write = codes "write fault"

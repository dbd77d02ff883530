-- The report, as it is printed.
use Rattle.std.specs.Prelude.{ℕ, ◌+◌, ◌/◌, ◌%◌, ◌==◌, ◌&&◌, Bool, not, List, [], ◌∷◌, ◌++◌, nat_lt, nat_le}
use Rattle.std.specs.Prelude.{if◌then◌else◌, codes}
use Rattle.std.specs.Fmt.{decimal}
use Rattle.std.specs.List.{flat_map}
use Rattle.boot_data.specs.declared.report.AlarmCounts.{AlarmCounts}
use Rattle.boot_data.specs.declared.report.GaugeLine.{GaugeLine}
use Rattle.boot_data.specs.declared.report.ItemCounts.{ItemCounts}
use Rattle.boot_data.specs.declared.report.MoverKind.{MoverKind}
use Rattle.boot_data.specs.declared.report.MoverKind.TheVariants.{Pump, Switch}
use Rattle.boot_data.specs.declared.report.MoverLine.{MoverLine}
use Rattle.boot_data.specs.declared.report.QueueKind.{QueueKind}
use Rattle.boot_data.specs.declared.report.QueueKind.TheVariants.{Queue, Pipe}
use Rattle.boot_data.specs.declared.report.QueueLine.{QueueLine}
use Rattle.boot_data.specs.declared.report.Report.{Report}
use Rattle.boot_data.specs.declared.report.ThreadLine.{ThreadLine}
use Rattle.boot_data.specs.declared.report.ThreadState.{ThreadState}
use Rattle.boot_data.specs.declared.report.ThreadState.TheVariants.{Ended, Ready, Wait, Stopped, Held}
use Rattle.boot_data.specs.declared.report.TtyLines.{TtyLines}
use Rattle.boot_data.specs.Hearing.{NamedLine}
use Rattle.boot_script.specs.Printed.{end_of_line, hex_digits}

-- a line's first word, and a name
unfoldable pub named : List ℕ → List ℕ → List ℕ
named word name = word ++ codes " " ++ name

-- the counts of a queue, which end its line
unfoldable pub counts_words : ItemCounts → List ℕ
counts_words items =
    codes " put " ++ decimal items.put ++ codes " taken " ++ decimal items.taken
    ++ codes " left " ++ decimal items.left ++ end_of_line

-- the word that declares a queue or a pipe
abbrev pub queue_word : QueueKind → List ℕ
queue_word Queue = codes "queue"
queue_word Pipe = codes "pipe"

-- the line of a queue or a pipe
unfoldable pub queue_line : QueueLine → List ℕ
queue_line queue = named (queue_word queue.kind) queue.name ++ counts_words queue.items

-- the line of one queue of a tty
unfoldable pub tty_queue : List ℕ → List ℕ → ItemCounts → List ℕ
tty_queue name queue items = named (codes "tty") name ++ codes " " ++ queue ++ counts_words items

-- the first line of a tty: the counts of its bytes and notes, and of the bytes that it holds
unfoldable pub tty_line : TtyLines → List ℕ
tty_line tty =
    named (codes "tty") tty.name ++ codes " typed " ++ decimal tty.typed ++ codes " overrun " ++ decimal tty.overrun
    ++ codes " notes " ++ decimal tty.notes ++ codes " held " ++ decimal tty.held ++ end_of_line

-- the four lines of a tty
unfoldable pub tty_lines : TtyLines → List ℕ
tty_lines tty =
    tty_line tty ++ tty_queue tty.name (codes "raw") tty.raw ++ tty_queue tty.name (codes "line") tty.line
    ++ tty_queue tty.name (codes "screen") tty.screen

-- the word that declares a pump or a switch
abbrev pub mover_word : MoverKind → List ℕ
mover_word Pump = codes "pump"
mover_word Switch = codes "switch"

-- the line of a pump or a switch
unfoldable pub mover_line : MoverLine → List ℕ
mover_line mover =
    named (mover_word mover.kind) mover.name ++ codes " notes " ++ decimal mover.notes
    ++ codes " taken " ++ decimal mover.taken ++ codes " put " ++ decimal mover.put
    ++ codes " held " ++ decimal mover.held ++ end_of_line

-- the line of a gauge
unfoldable pub gauge_line : GaugeLine → List ℕ
gauge_line gauge = named (codes "gauge") gauge.name ++ codes " " ++ decimal gauge.value ++ end_of_line

-- the line of the alarms; there is none if no alarm was set
unfoldable pub alarms_line : AlarmCounts → List ℕ
alarms_line alarms =
    if alarms.set == 0 then []
    else codes "alarms set " ++ decimal alarms.set ++ codes " fired " ++ decimal alarms.fired
    ++ codes " left " ++ decimal alarms.left ++ end_of_line

-- the word of a thread's state
abbrev pub state_word : ThreadState → List ℕ
state_word Ended = codes "ended"
state_word Ready = codes "ready"
state_word (Wait number) = codes "wait" ++ decimal number
state_word Stopped = codes "stopped"
state_word Held = codes "held"

-- the words of the signals that were delivered; there are none if no signal was
unfoldable pub signals_words : ℕ → List ℕ
signals_words signals = if signals == 0 then [] else codes " signals " ++ hex_digits signals

-- the line of a thread
unfoldable pub thread_line : ThreadLine → List ℕ
thread_line thread =
    named (codes "thread") thread.name ++ codes " " ++ state_word thread.state ++ codes " " ++ decimal thread.steps
    ++ signals_words thread.signals ++ end_of_line

-- whether a byte is written as itself in a text: 0x20 to 0x7E, except `\`
abbrev pub stands_for_itself : ℕ → Bool
stands_for_itself byte = nat_le 32 byte && nat_le byte 126 && not (byte == 92)

-- the digit of a number below 16: `0` to `9`, `A` to `F`
abbrev pub upper_digit : ℕ → ℕ
upper_digit n = if nat_lt n 10 then 48 + n else 55 + n

-- a byte as it is written: the byte itself, or `\` and two digits
unfoldable pub written_byte : ℕ → List ℕ
written_byte byte =
    if stands_for_itself byte then byte ∷ [] else 92 ∷ upper_digit (byte / 16) ∷ upper_digit (byte % 16) ∷ []

-- bytes as they are written
abbrev pub heard_text : List ℕ → List ℕ
heard_text bytes = flat_map written_byte bytes

-- the line of a heard line: the name of its thread, the number of its step, and its bytes
unfoldable pub heard_line : NamedLine → List ℕ
heard_line heard =
    named (codes "heard") heard.thread ++ codes " " ++ decimal heard.step ++ codes " " ++ heard_text heard.bytes
    ++ end_of_line

-- the line of the notes left in all chains
unfoldable pub chained_line : ℕ → List ℕ
chained_line notes = codes "chained " ++ decimal notes ++ end_of_line

-- the text of a report
unfoldable pub report_text : Report → List ℕ
report_text report =
    flat_map queue_line report.queues ++ flat_map tty_lines report.ttys ++ flat_map mover_line report.movers
    ++ flat_map gauge_line report.gauges ++ alarms_line report.alarms ++ flat_map thread_line report.threads
    ++ flat_map heard_line report.heard ++ chained_line report.chained

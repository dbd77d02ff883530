-- The spelling of each line of a boot script, unique except for the escapes of a text, and the texts of such lines.
use Rattle.std.specs.Prelude.{◌≡◌, ◌≢◌, ◌⊎◌, ℕ, ◌+◌, ◌*◌, ◌/◌, ◌%◌, ◌<◌, ◌≤◌, ◌&&◌, Bool, true, false, List, [], ◌∷◌}
use Rattle.std.specs.Prelude.{◌++◌, length, Option, Some, None, Ok, nat_lt, ◌==◌, if◌then◌else◌, codes}
use Rattle.std.specs.List.{AllByRecursion, join_with_byte}
use Rattle.std.specs.Fmt.{decimal}
use Rattle.event_theory.specs.Numbers.{u32_max, u64_max}
use Rattle.boot_script.specs.declared.boot_lines.Line.{Line}
use Rattle.boot_script.specs.declared.boot_lines.Line.TheVariants.{Queue, Tty, Types, Mover, Gauge, Alarm}
use Rattle.boot_script.specs.declared.boot_lines.Line.TheVariants.{Thread, More, Step}
use Rattle.boot_data.specs.declared.kind.Kind.{Kind}
use Rattle.boot_data.specs.declared.kind.Kind.TheVariants as kind
use Rattle.boot_script.specs.declared.declared_names.Named.{Named}
use Rattle.boot_data.specs.declared.plan.Mover as movers
use Rattle.boot_data.specs.declared.plan.Mover.TheVariants as mover
use Rattle.boot_data.specs.declared.plan.PipeWaits.{PipeWaits}
use Rattle.boot_data.specs.declared.plan.QueueIndex.{QueueIndex}
use Rattle.boot_data.specs.declared.plan.QueueIndex.TheVariants.{Small, Large}
use Rattle.boot_data.specs.declared.plan.Step as steps
use Rattle.boot_data.specs.declared.plan.Step.TheVariants as step
use Rattle.boot_data.specs.declared.plan.Way.{Way}
use Rattle.boot_script.specs.declared.version.Script.TheVariants.{Boot}
use Rattle.boot_script.specs.declared.version.Version.{Version}
use Rattle.boot_script.specs.BootNames.{is_name, same_kind, is_declared, count_of}
use Rattle.boot_script.specs.Grammar.{is_printable}
use Rattle.boot_data.specs.Plans.{Plan}
use Rattle.boot_script.specs.Plans.{Draft, first_draft, goes_on, added}
use Rattle.boot_script.specs.Scripts.{says_nothing}
use Rattle.boot_script.specs.Versions.{last_wait, is_later, version_line}
use Rattle.boot_script.specs.Words.{lines_of}

-- the digit of a number below 16: 0 to 9, A to F
abbrev pub digit_for : ℕ → ℕ
digit_for n = if nat_lt n 10 then n + 48 else n + 55

-- `\` and the two digits of a byte
abbrev pub escape : ℕ → List ℕ
escape byte = 92 ∷ digit_for (byte / 16) ∷ digit_for (byte % 16) ∷ []

-- the spellings of a byte: the byte itself if it is printable and not `\`, or, for a byte below 256, its escape
abbrev pub SpellsByte : ℕ → List ℕ → Type 0
SpellsByte byte written =
    ((is_printable byte ≡ true) × (byte ≢ 92) × (written ≡ byte ∷ [])) ⊎ ((byte < 256) × (written ≡ escape byte))

-- a text spells the bytes, one after the other
abbrev pub IsText : List ℕ → List ℕ → Type 0
IsText [] text = text ≡ []
IsText (byte ∷ bytes) text =
    (written : List ℕ) × (rest : List ℕ) × SpellsByte byte written × (text ≡ written ++ rest) × IsText bytes rest

-- the names follow the earlier ones in order: each has the form of a name, is new, and has the next number of its kind
abbrev pub FollowInOrder : List Named → List Named → Type 0
FollowInOrder earlier [] = Unit {0}
FollowInOrder earlier (named ∷ names) =
    (is_name named.name ≡ true) × (is_declared earlier named.name ≡ false)
    × (named.number ≡ count_of named.kind earlier) × FollowInOrder (earlier ++ named ∷ []) names

-- each has the form of a name, no name occurs twice, and the names of each kind are numbered from 0
abbrev pub AreInOrder : List Named → Type 0
AreInOrder names = FollowInOrder [] names

-- the name of this kind that has this number; it is empty if there is none
abbrev pub name_of_number : Kind → List Named → ℕ → List ℕ
name_of_number kind [] number = []
name_of_number kind (named ∷ names) number =
    if same_kind named.kind kind && (named.number == number) then named.name else name_of_number kind names number

-- a part of a tty: its line queue has the even number, its screen queue the odd one
abbrev pub part_name : ℕ → List ℕ
part_name queue = if (queue % 2) == 0 then codes ".line" else codes ".screen"

-- the word for a queue: the name of a queue or pipe, or the name of a tty and its part
abbrev pub queue_word : List Named → QueueIndex → List ℕ
queue_word names (Small queue) = name_of_number kind.Queue names queue
queue_word names (Large queue) = name_of_number kind.Tty names (queue / 2) ++ part_name queue

-- the words of ways: for each way its key, and the name of its queue or pipe
abbrev pub way_words : List Named → List Way → List (List ℕ)
way_words names [] = []
way_words names (way ∷ ways) = (way.key ∷ []) ∷ name_of_number kind.Queue names way.to ∷ way_words names ways

-- the words of a queue or pipe
abbrev pub queue_words : List ℕ → Option PipeWaits → List (List ℕ)
queue_words name None = codes "queue" ∷ name ∷ []
queue_words name (Some waits) = codes "pipe" ∷ name ∷ decimal waits.readers ∷ decimal waits.writers ∷ []

-- the words of a step, without a text
abbrev pub step_words : List Named → steps.Step → List (List ℕ)
step_words names (step.Say queue text) = codes "say" ∷ queue_word names queue ∷ []
step_words names (step.Hear queue) = codes "hear" ∷ queue_word names queue ∷ []
step_words names (step.Wait wait) = codes "wait" ∷ decimal wait ∷ []
step_words names (step.Wake wait) = codes "wake" ∷ decimal wait ∷ []
step_words names (step.Signal thread signal) =
    codes "signal" ∷ name_of_number kind.Thread names thread ∷ decimal signal ∷ []
step_words names (step.Stop thread) = codes "stop" ∷ name_of_number kind.Thread names thread ∷ []
step_words names (step.Start thread) = codes "start" ∷ name_of_number kind.Thread names thread ∷ []
step_words names (step.Tick gauge amount) =
    codes "tick" ∷ name_of_number kind.Gauge names gauge ∷ decimal amount ∷ []
step_words names (step.Poke mover) = codes "poke" ∷ name_of_number kind.Mover names mover ∷ []
step_words names step.Pass = codes "pass" ∷ []
step_words names (step.Close queue) = codes "close" ∷ name_of_number kind.Queue names queue ∷ []

-- the words of a pump or switch
abbrev pub mover_words : List Named → List ℕ → movers.Mover → List (List ℕ)
mover_words names name (mover.Pump from to) =
    codes "pump" ∷ name ∷ name_of_number kind.Queue names from ∷ name_of_number kind.Queue names to ∷ []
mover_words names name (mover.Switch from other ways) =
    codes "switch" ∷ name ∷ name_of_number kind.Queue names from ∷ name_of_number kind.Queue names other
    ∷ way_words names ways

-- the words of a line, without a text
abbrev pub line_words : List Named → Line → List (List ℕ)
line_words names (Queue queue) = queue_words queue.name queue.waits
line_words names (Tty name) = codes "tty" ∷ name ∷ []
line_words names (Types tty text) = codes "type" ∷ name_of_number kind.Tty names tty ∷ []
line_words names (Mover planned) = mover_words names planned.name planned.mover
line_words names (Gauge name) = codes "gauge" ∷ name ∷ []
line_words names (Alarm alarm) =
    codes "alarm" ∷ decimal alarm.due ∷ name_of_number kind.Thread names alarm.element ∷ decimal alarm.signal ∷ []
line_words names (Thread name) = codes "thread" ∷ name ∷ []
line_words names (More thread) = codes "more" ∷ name_of_number kind.Thread names thread ∷ []
line_words names (Step one) = step_words names one

-- a line of words and a text; the space before an empty text may be missing
abbrev pub EndsInText : List (List ℕ) → List ℕ → List ℕ → Type 0
EndsInText words bytes line =
    ((text : List ℕ) × IsText bytes text × (line ≡ join_with_byte 32 (words ++ text ∷ [])))
    ⊎ ((bytes ≡ []) × (line ≡ join_with_byte 32 words))

-- the line is a spelling of `said`, if these names were declared
abbrev pub IsSpelling : List Named → Line → List ℕ → Type 0
IsSpelling names (Types tty text) line = EndsInText (line_words names (Types tty text)) text line
IsSpelling names (Step (step.Say queue text)) line =
    EndsInText (line_words names (Step (step.Say queue text))) text line
IsSpelling names said line = line ≡ join_with_byte 32 (line_words names said)

-- a word that has the form of a name, and was not declared before
abbrev pub IsNew : List Named → List ℕ → Type 0
IsNew names name = (is_name name ≡ true) × (is_declared names name ≡ false)

-- the wait queues of a pipe are among the wait queues of the version; a plain queue has none
abbrev pub FitsWaits : Version → Option PipeWaits → Type 0
FitsWaits version None = Unit {0}
FitsWaits version (Some waits) = (waits.readers ≤ last_wait version) × (waits.writers ≤ last_wait version)

-- the queue was declared; the line queue of a tty can only be heard
abbrev pub FitsQueue : Bool → List Named → QueueIndex → Type 0
FitsQueue heard names (Small queue) = queue < count_of kind.Queue names
FitsQueue heard names (Large queue) =
    (queue < count_of kind.Tty names * 2) × ((heard ≡ true) ⊎ (queue % 2 ≡ 1))

-- each key is printable, not a space, and differs from the earlier keys; each way leads to a declared queue or pipe
abbrev pub FitWays : List Named → List ℕ → List Way → Type 0
FitWays names keys [] = Unit {0}
FitWays names keys (way ∷ ways) =
    (33 ≤ way.key) × (way.key ≤ 126) × AllByRecursion (λ key. way.key ≢ key) keys
    × (way.to < count_of kind.Queue names) × FitWays names (way.key ∷ keys) ways

-- a pump or switch between declared queues or pipes; a switch has 1 to 4 ways, which satisfy `FitWays`
abbrev pub FitsMover : List Named → movers.Mover → Type 0
FitsMover names (mover.Pump from to) = (from < count_of kind.Queue names) × (to < count_of kind.Queue names)
FitsMover names (mover.Switch from other ways) =
    (from < count_of kind.Queue names) × (other < count_of kind.Queue names)
    × FitWays names [] ways × (1 ≤ length ways) × (length ways ≤ 4)

-- numbers and texts of a step are in range, and whatever it names was declared; `close` needs a version after the first
abbrev pub FitsStep : Version → List Named → steps.Step → Type 0
FitsStep version names (step.Say queue text) = FitsQueue false names queue × (length text ≤ 63)
FitsStep version names (step.Hear queue) = FitsQueue true names queue
FitsStep version names (step.Wait wait) = wait ≤ last_wait version
FitsStep version names (step.Wake wait) = wait ≤ last_wait version
FitsStep version names (step.Signal thread signal) = (thread < count_of kind.Thread names) × (signal ≤ 15)
FitsStep version names (step.Stop thread) = thread < count_of kind.Thread names
FitsStep version names (step.Start thread) = thread < count_of kind.Thread names
FitsStep version names (step.Tick gauge amount) =
    (gauge < count_of kind.Gauge names) × (amount ≤ u64_max)
FitsStep version names (step.Poke mover) = mover < count_of kind.Mover names
FitsStep version names step.Pass = Unit {0}
FitsStep version names (step.Close queue) = (is_later version ≡ true) × (queue < count_of kind.Queue names)

-- each part of a line is in its range, new names are new, and other names were declared; a step needs a current thread
abbrev pub FitsLine : Version → List Named → Bool → Line → Type 0
FitsLine version names going (Queue queue) = IsNew names queue.name × FitsWaits version queue.waits
FitsLine version names going (Tty name) = IsNew names name
FitsLine version names going (Types tty text) = (tty < count_of kind.Tty names) × (length text ≤ 1024)
FitsLine version names going (Mover planned) = IsNew names planned.name × FitsMover names planned.mover
FitsLine version names going (Gauge name) = IsNew names name
FitsLine version names going (Alarm alarm) =
    (alarm.due ≤ u32_max) × (alarm.element < count_of kind.Thread names) × (alarm.signal ≤ 15)
FitsLine version names going (Thread name) = IsNew names name
FitsLine version names going (More thread) = thread < count_of kind.Thread names
FitsLine version names going (Step one) = (going ≡ true) × FitsStep version names one

-- each line is silent or spells what is added next; the lines lead from the draft `d` to the draft `last`
abbrev pub SpellFrom : Version → List (List ℕ) → Draft → Draft → Type 0
SpellFrom version [] d last = d ≡ last
SpellFrom version (line ∷ lines) d last =
    ((says_nothing line ≡ true) × SpellFrom version lines d last)
    ⊎ ((said : Line) × (next : Draft) × FitsLine version d.names (goes_on d.going) said
    × IsSpelling d.names said line × (added version said d ≡ Ok next) × SpellFrom version lines next last)

-- the text, of at most 65,536 bytes, is the first line of a version, and then lines that spell the plan
abbrev pub SpellsPlan : List ℕ → Plan → Type 0
SpellsPlan text plan =
    (version : Version) × (lines : List (List ℕ)) × (last : Draft) × (length text ≤ 65536)
    × (lines_of text ≡ version_line Boot version ∷ lines) × SpellFrom version lines first_draft last
    × (last.plan ≡ plan)

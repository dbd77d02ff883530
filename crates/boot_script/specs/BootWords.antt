-- The words of a boot script: the first word of each line that says something.
use Rattle.std.specs.Prelude.{ℕ, Bool, true, false, ◌&&◌, ◌||◌, not, List, [], ◌∷◌, Result, Ok, Err, if◌then◌else◌}
use Rattle.std.specs.Prelude.{codes}
use Rattle.std.specs.Str.{bytes_eq}
use Rattle.boot_script.specs.declared.boot_words.BootWord.{BootWord}
use Rattle.boot_script.specs.declared.boot_words.BootWord.TheVariants.{Queue, Pipe, Tty, Types, Pump, Switch, Gauge}
use Rattle.boot_script.specs.declared.boot_words.BootWord.TheVariants.{Alarm, Thread, More, Say, Hear, Wait, Wake}
use Rattle.boot_script.specs.declared.boot_words.BootWord.TheVariants.{Signal, Stop, Start, Tick, Poke, Pass, Close}
use Rattle.boot_script.specs.declared.fault.ScriptRefusal.{ScriptRefusal}
use Rattle.boot_script.specs.declared.fault.ScriptRefusal.TheVariants.{UnknownWord}
use Rattle.boot_script.specs.declared.version.Version.{Version}
use Rattle.boot_script.specs.Words.{◌>>=◌}
use Rattle.boot_script.specs.Versions.{is_later}

-- how a word is written
abbrev pub boot_word : BootWord → List ℕ
boot_word Queue = codes "queue"
boot_word Pipe = codes "pipe"
boot_word Tty = codes "tty"
boot_word Types = codes "type"
boot_word Pump = codes "pump"
boot_word Switch = codes "switch"
boot_word Gauge = codes "gauge"
boot_word Alarm = codes "alarm"
boot_word Thread = codes "thread"
boot_word More = codes "more"
boot_word Say = codes "say"
boot_word Hear = codes "hear"
boot_word Wait = codes "wait"
boot_word Wake = codes "wake"
boot_word Signal = codes "signal"
boot_word Stop = codes "stop"
boot_word Start = codes "start"
boot_word Tick = codes "tick"
boot_word Poke = codes "poke"
boot_word Pass = codes "pass"
boot_word Close = codes "close"

-- all words
unfoldable pub boot_words : List BootWord
boot_words =
    Say ∷ Hear ∷ Pass ∷ Queue ∷ Pipe ∷ Tty ∷ Types ∷ Pump ∷ Switch ∷ Gauge ∷ Alarm ∷ Thread ∷ More ∷ Wait ∷ Wake ∷
    Signal ∷ Stop ∷ Start ∷ Tick ∷ Poke ∷ Close ∷ []

-- the first word in the list that is written like this
unfoldable pub word_named : List ℕ → List BootWord → Result BootWord ScriptRefusal
word_named written [] = Err UnknownWord
word_named written (word ∷ words) = if bytes_eq written (boot_word word) then Ok word else word_named written words

-- whether a word is a step; the other words are declarations
abbrev pub is_step : BootWord → Bool
is_step Queue = false
is_step Pipe = false
is_step Tty = false
is_step Types = false
is_step Pump = false
is_step Switch = false
is_step Gauge = false
is_step Alarm = false
is_step Thread = false
is_step More = false
is_step word = true

-- The words of a version: `close` is a word from the second version on. A step is a word only if there is a current
-- thread (`going`), as no step comes before the first thread
abbrev pub has_word : Version → Bool → BootWord → Bool
has_word version going Close = is_later version && going
has_word version going word = going || not (is_step word)

-- a word, if the version has it
abbrev pub if_had : Version → Bool → BootWord → Result BootWord ScriptRefusal
if_had version going word = if has_word version going word then Ok word else Err UnknownWord

-- the word of a version that is written like this
unfoldable pub boot_word_of : Version → Bool → List ℕ → Result BootWord ScriptRefusal
boot_word_of version going written = word_named written boot_words >>= λ word. if_had version going word

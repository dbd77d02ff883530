-- The reading of a line of a boot script: its `Line`, or why it is refused. The checks have the order of the refusals.
use Rattle.std.specs.Prelude.{◌≡◌, ℕ, ◌<◌, slice_index_or, Bool, true, false, ◌||◌, ◌==◌, List, [], ◌∷◌, Some}
use Rattle.std.specs.Prelude.{None, Result, Ok, Err, if◌then◌else◌}
use Rattle.std.specs.List.{list_all}
use Rattle.event_theory.specs.Numbers.{u32_max, u64_max}
use Rattle.boot_script.specs.declared.fault.ScriptRefusal.{ScriptRefusal}
use Rattle.boot_script.specs.declared.fault.ScriptRefusal.TheVariants.{BadName, NameTwice, NotAscii}
use Rattle.boot_script.specs.declared.boot_words.BootWord.{BootWord}
use Rattle.boot_script.specs.declared.boot_words.BootWord.TheVariants as word
use Rattle.boot_script.specs.declared.boot_lines.Line.{Line}
use Rattle.boot_script.specs.declared.boot_lines.Line.TheVariants.{Queue, Tty, Types, Mover, Gauge, Alarm, Thread}
use Rattle.boot_script.specs.declared.boot_lines.Line.TheVariants.{More, Step}
use Rattle.boot_data.specs.declared.kind.Kind.TheVariants as kind
use Rattle.boot_script.specs.declared.declared_names.Named.{Named}
use Rattle.boot_data.specs.declared.plan.Mover.TheVariants.{Pump, Switch}
use Rattle.boot_data.specs.declared.plan.Step.TheVariants as step
use Rattle.boot_data.specs.declared.plan.Way.{Way}
use Rattle.boot_script.specs.declared.version.Version.{Version}
use Rattle.boot_script.specs.BootWords.{boot_word_of}
use Rattle.boot_script.specs.BootNames.{number_named, new_name, queue_named}
use Rattle.boot_script.specs.Grammar.{at_most_of, is_printable, no_words, one_word, two_words, three_words}
use Rattle.boot_script.specs.Names.{signal_of}
use Rattle.boot_script.specs.Texts.{text_of}
use Rattle.boot_script.specs.Versions.{last_wait}
use Rattle.boot_script.specs.Words.{◌>>=◌, words_of, word_at, words_from, number_of}

-- whether a key is among these
abbrev pub is_key : List ℕ → ℕ → Bool
is_key [] key = false
is_key (k ∷ keys) key = (key == k) || is_key keys key

-- a byte is marked exactly if it is one of the keys
abbrev pub AreSeen : List Bool → List ℕ → Type 0
AreSeen seen keys = (key : ℕ) → key < 256 → slice_index_or seen key false ≡ is_key keys key

-- a key is a word of one byte, and differs from the keys of the earlier ways
abbrev pub key_of : List ℕ → List ℕ → Result ℕ ScriptRefusal
key_of keys (key ∷ []) = if is_key keys key then Err NameTwice else Ok key
key_of keys word = Err BadName

-- a way of a switch: its key, and the queue or pipe to which its lines go
abbrev pub way_of : List Named → List ℕ → List ℕ → List ℕ → Result Way ScriptRefusal
way_of names keys key to = do
  k ← key_of keys key
  t ← number_named kind.Queue names to
  Ok (record { key = k; to = t })

-- the ways that the words say, two words for each way; `keys` are the keys of the earlier ways
unfoldable pub ways_from : List Named → List ℕ → List (List ℕ) → Result (List Way) ScriptRefusal
ways_from names keys [] = Ok []
ways_from names keys (key ∷ []) = way_of names keys key [] >>= λ way. Ok (way ∷ [])
ways_from names keys (key ∷ to ∷ words) =
    way_of names keys key to
    >>= λ way. ways_from names (way.key ∷ keys) words
    >>= λ ways. Ok (way ∷ ways)

-- the ways of a switch, at least 1 and at most 4; all of them are read before they are counted
abbrev pub ways_of : List Named → List (List ℕ) → Result (List Way) ScriptRefusal
ways_of names [] = Err BadName
ways_of names (word ∷ words) = do
  ways ← ways_from names [] (word ∷ words)
  end ← at_most_of 4 ways
  Ok ways

-- the words of a `switch` line: a name, the source queue, the queue for lines of no way, and the ways
unfoldable pub switch_words : List Named → List (List ℕ) → Result Line ScriptRefusal
switch_words names words = do
  name ← new_name names (word_at 0 words)
  from ← number_named kind.Queue names (word_at 1 words)
  other ← number_named kind.Queue names (word_at 2 words)
  ways ← ways_of names (words_from 3 words)
  Ok (Mover (record { name = name; mover = Switch from other ways }))

-- the words of a `type` line: a tty, and the text that its device types, at most 1,024 bytes
unfoldable pub type_words : List Named → List (List ℕ) → Result Line ScriptRefusal
type_words names words = do
  tty ← number_named kind.Tty names (word_at 0 words)
  text ← text_of 1024 (words_from 1 words)
  Ok (Types tty text)

-- the words of a `say` line: a queue, and the text of a line, at most 63 bytes
unfoldable pub say_words : List Named → List (List ℕ) → Result Line ScriptRefusal
say_words names words = do
  queue ← queue_named false names (word_at 0 words)
  text ← text_of 63 (words_from 1 words)
  Ok (Step (step.Say queue text))

-- the line that a first word and the words after it say
unfoldable pub line_of : Version → List Named → BootWord → List (List ℕ) → Result Line ScriptRefusal
line_of version names word.Queue words =
    one_word (new_name names) (λ name. Queue (record { name = name; waits = None })) words
line_of version names word.Pipe words =
    three_words (new_name names) (number_of (last_wait version)) (number_of (last_wait version))
    (λ name readers writers.
    Queue (record { name = name; waits = Some (record { readers = readers; writers = writers }) })) words
line_of version names word.Tty words = one_word (new_name names) Tty words
line_of version names word.Types words = type_words names words
line_of version names word.Pump words =
    three_words (new_name names) (number_named kind.Queue names) (number_named kind.Queue names)
    (λ name from to. Mover (record { name = name; mover = Pump from to })) words
line_of version names word.Switch words = switch_words names words
line_of version names word.Gauge words = one_word (new_name names) Gauge words
line_of version names word.Alarm words =
    three_words (number_of u32_max) (number_named kind.Thread names) signal_of
    (λ due thread signal. Alarm (record { due = due; element = thread; signal = signal })) words
line_of version names word.Thread words = one_word (new_name names) Thread words
line_of version names word.More words = one_word (number_named kind.Thread names) More words
line_of version names word.Say words = say_words names words
line_of version names word.Hear words = one_word (queue_named true names) (λ queue. Step (step.Hear queue)) words
line_of version names word.Wait words =
    one_word (number_of (last_wait version)) (λ wait. Step (step.Wait wait)) words
line_of version names word.Wake words =
    one_word (number_of (last_wait version)) (λ wait. Step (step.Wake wait)) words
line_of version names word.Signal words =
    two_words (number_named kind.Thread names) signal_of (λ thread signal. Step (step.Signal thread signal)) words
line_of version names word.Stop words =
    one_word (number_named kind.Thread names) (λ thread. Step (step.Stop thread)) words
line_of version names word.Start words =
    one_word (number_named kind.Thread names) (λ thread. Step (step.Start thread)) words
line_of version names word.Tick words =
    two_words (number_named kind.Gauge names) (number_of u64_max)
    (λ gauge amount. Step (step.Tick gauge amount)) words
line_of version names word.Poke words =
    one_word (number_named kind.Mover names) (λ mover. Step (step.Poke mover)) words
line_of version names word.Pass words = no_words (Step step.Pass) words
line_of version names word.Close words =
    one_word (number_named kind.Queue names) (λ queue. Step (step.Close queue)) words

-- the line that the words say; `going` is whether there is a current thread, whose program gets the next step
abbrev pub words_line : Version → List Named → Bool → List (List ℕ) → Result Line ScriptRefusal
words_line version names going words = do
  word ← boot_word_of version going (word_at 0 words)
  line_of version names word (words_from 1 words)

-- the line that a text line says; each byte of the text line has to be printable
unfoldable pub boot_line : Version → List Named → Bool → List ℕ → Result Line ScriptRefusal
boot_line version names going line =
    if list_all is_printable line then words_line version names going (words_of line) else Err NotAscii

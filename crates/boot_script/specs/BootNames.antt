-- The names that a boot script has declared so far: the kind of each, and its number among the names of its kind.
use Rattle.std.specs.Prelude.{ℕ, ◌&&◌, ◌||◌, Bool, true, false, List, [], ◌∷◌, ◌++◌, length, Result, Ok, Err, nat_le}
use Rattle.std.specs.Prelude.{nat_lt, if◌then◌else◌, codes}
use Rattle.std.specs.List.{count_by, list_all, join_with_byte}
use Rattle.std.specs.Str.{bytes_eq}
use Rattle.boot_script.specs.declared.fault.ScriptRefusal.{ScriptRefusal}
use Rattle.boot_script.specs.declared.fault.ScriptRefusal.TheVariants.{BadName, NameTwice, NameUnknown, TooMany}
use Rattle.boot_data.specs.declared.kind.Kind.{Kind}
use Rattle.boot_data.specs.declared.kind.Kind.TheVariants.{Queue, Tty, Mover, Gauge, Thread}
use Rattle.boot_script.specs.declared.declared_names.Named.{Named}
use Rattle.boot_data.specs.declared.plan.QueueIndex.{QueueIndex}
use Rattle.boot_data.specs.declared.plan.QueueIndex.TheVariants.{Small, Large}
use Rattle.boot_script.specs.declared.version.Version.{Version}
use Rattle.boot_script.specs.declared.version.Version.TheVariants.{Three}
use Rattle.boot_data.specs.QueueLists.{line_queue, screen_queue}
use Rattle.boot_script.specs.Words.{◌>>=◌, pieces, first_word, later_words}

-- a to z
abbrev pub is_letter : ℕ → Bool
is_letter byte = nat_le 97 byte && nat_le byte 122

-- a to z and 0 to 9
abbrev pub is_name_byte : ℕ → Bool
is_name_byte byte = is_letter byte || (nat_le 48 byte && nat_le byte 57)

-- 1 to 8 bytes of a to z and 0 to 9, the first a letter
abbrev pub is_name : List ℕ → Bool
is_name [] = false
is_name (first ∷ bytes) = is_letter first && list_all is_name_byte bytes && nat_le (length bytes) 7

-- the name that a word is, if the word has the form of a name
abbrev pub name_of : List ℕ → Result (List ℕ) ScriptRefusal
name_of word = if is_name word then Ok word else Err BadName

-- whether two kinds are equal
abbrev pub same_kind : Kind → Kind → Bool
same_kind Queue Queue = true
same_kind Tty Tty = true
same_kind Mover Mover = true
same_kind Gauge Gauge = true
same_kind Thread Thread = true
same_kind kind other = false

-- the number of a declared name, if the name is of this kind
abbrev pub if_kind : Kind → Named → Result ℕ ScriptRefusal
if_kind kind named = if same_kind named.kind kind then Ok named.number else Err NameUnknown

-- the number of the first entry with this name, if that entry is of this kind
unfoldable pub find : Kind → List Named → List ℕ → Result ℕ ScriptRefusal
find kind [] name = Err NameUnknown
find kind (named ∷ names) name = if bytes_eq name named.name then if_kind kind named else find kind names name

-- the number of the name that the word is, which has to be declared for this kind
abbrev pub number_named : Kind → List Named → List ℕ → Result ℕ ScriptRefusal
number_named kind names word = name_of word >>= λ name. find kind names name

-- whether a name was declared
unfoldable pub is_declared : List Named → List ℕ → Bool
is_declared [] name = false
is_declared (named ∷ names) name = bytes_eq name named.name || is_declared names name

-- a name, if it was not declared before
abbrev pub if_new : List Named → List ℕ → Result (List ℕ) ScriptRefusal
if_new names name = if is_declared names name then Err NameTwice else Ok name

-- the name that the word is, which must not be declared before
abbrev pub new_name : List Named → List ℕ → Result (List ℕ) ScriptRefusal
new_name names word = name_of word >>= λ name. if_new names name

-- how many names of a kind were declared
abbrev pub count_of : Kind → List Named → ℕ
count_of kind names = count_by (λ named. same_kind named.kind kind) names

-- how many names of a kind a script of the version may declare
abbrev pub most_of : Version → Kind → ℕ
most_of version Queue = 8
most_of version Tty = 2
most_of version Mover = 4
most_of version Gauge = 8
most_of Three Thread = 64
most_of version Thread = 16

-- one more name of this kind may be declared
abbrev pub room_of : Version → Kind → List Named → Result (Unit {0}) ScriptRefusal
room_of version kind names = if nat_lt (count_of kind names) (most_of version kind) then Ok tt else Err TooMany

-- the names with one more, which has the next number of its kind
abbrev pub with_name : Kind → List ℕ → List Named → List Named
with_name kind name names = names ++ record { name = name; kind = kind; number = count_of kind names } ∷ []

-- the part of a tty that a word names: its screen queue, or, if a line is heard, its line queue
abbrev pub part_of : Bool → ℕ → List ℕ → Result QueueIndex ScriptRefusal
part_of heard tty part =
    if bytes_eq part (codes "screen") then Ok (Large (screen_queue tty))
    else if heard && bytes_eq part (codes "line") then Ok (Large (line_queue tty))
    else Err NameUnknown

-- a part of the tty that has this name
abbrev pub tty_part : Bool → List Named → List ℕ → List ℕ → Result QueueIndex ScriptRefusal
tty_part heard names name part = find Tty names name >>= λ tty. part_of heard tty part

-- a name alone names a queue or pipe; a name, a full stop and the word of a part name that part of a tty
abbrev pub queue_or_part : Bool → List Named → List ℕ → List (List ℕ) → Result QueueIndex ScriptRefusal
queue_or_part heard names name [] = find Queue names name >>= λ queue. Ok (Small queue)
queue_or_part heard names name (part ∷ parts) = tty_part heard names name (join_with_byte 46 (part ∷ parts))

-- the queue that a word of a step names; the word is cut at its first full stop
abbrev pub queue_named : Bool → List Named → List ℕ → Result QueueIndex ScriptRefusal
queue_named heard names word = do
  name ← name_of (first_word (pieces 46 word))
  queue_or_part heard names name (later_words (pieces 46 word))

-- The reading of a line of a list of events: its event or its refusal. The checks have the order of the refusals.
use Rattle.std.specs.Prelude.{ℕ, ◌&&◌, Bool, List, [], ◌∷◌, length, Result, Ok, Err, nat_le, if◌then◌else◌}
use Rattle.std.specs.List.{list_all}
use Rattle.event_theory.specs.declared.event.Event.{Event}
use Rattle.event_theory.specs.declared.event.Event.TheVariants.{Queue, Chain, Claim, Raise, Take, On, Off, Stop, Park}
use Rattle.event_theory.specs.declared.event.Event.TheVariants.{Start, Signal, Deliver, Done, Notify, NotifyWait}
use Rattle.event_theory.specs.declared.event.Event.TheVariants.{Round, Leave, Tick, Advance, Set, Fire, Cancel, Join}
use Rattle.event_theory.specs.declared.event.Event.TheVariants.{Shut, WaitAt}
use Rattle.event_theory.specs.Numbers.{u32_max, u64_max}
use Rattle.boot_script.specs.declared.commands.Command.{Command}
use Rattle.boot_script.specs.declared.commands.Command.TheVariants as command
use Rattle.boot_script.specs.declared.fault.ScriptRefusal.{ScriptRefusal}
use Rattle.boot_script.specs.declared.fault.ScriptRefusal.TheVariants.{UnknownWord, TooMany, NotAscii}
use Rattle.boot_script.specs.declared.names.Listener.{Listener}
use Rattle.boot_script.specs.declared.names.Listener.TheVariants as listener
use Rattle.boot_script.specs.declared.version.Version.{Version}
use Rattle.boot_script.specs.Words.{◌>>=◌, words_of, word_at, words_from, number_of}
use Rattle.boot_script.specs.Names.{call_of, processor_of, element_of, gauge_of, signal_of, slot_of}
use Rattle.boot_script.specs.Names.{byte_queue_of, chain_of, wait_of, queue_of, listener_of}
use Rattle.boot_script.specs.Commands.{command_of}

-- how a word is read
abbrev pub Reader : Type 0 → Type 0
Reader A = List ℕ → Result A ScriptRefusal

-- no word is left
abbrev pub no_more_of : List (List ℕ) → Result (Unit {0}) ScriptRefusal
no_more_of [] = Ok tt
no_more_of (word ∷ words) = Err UnknownWord

-- a value that is read from no words; a word that is left is refused
unfoldable pub no_words : {R : Type 0} → R → List (List ℕ) → Result R ScriptRefusal
no_words value words = do
  end ← no_more_of words
  Ok value

-- a value that is read from exactly one word
unfoldable pub one_word : {A R : Type 0} → Reader A → (A → R) → List (List ℕ) → Result R ScriptRefusal
one_word first value words = do
  a ← first (word_at 0 words)
  end ← no_more_of (words_from 1 words)
  Ok (value a)

-- a value that is read from exactly two words
unfoldable pub two_words :
    {A B R : Type 0} → Reader A → Reader B → (A → B → R) → List (List ℕ) → Result R ScriptRefusal
two_words first second value words = do
  a ← first (word_at 0 words)
  b ← second (word_at 1 words)
  end ← no_more_of (words_from 2 words)
  Ok (value a b)

-- a value that is read from exactly three words
unfoldable pub three_words :
    {A B C R : Type 0} → Reader A → Reader B → Reader C → (A → B → C → R) → List (List ℕ)
    → Result R ScriptRefusal
three_words first second third value words = do
  a ← first (word_at 0 words)
  b ← second (word_at 1 words)
  c ← third (word_at 2 words)
  end ← no_more_of (words_from 3 words)
  Ok (value a b c)

-- a value that is read from exactly four words
unfoldable pub four_words :
    {A B C D R : Type 0} → Reader A → Reader B → Reader C → Reader D → (A → B → C → D → R) → List (List ℕ)
    → Result R ScriptRefusal
four_words first second third fourth value words = do
  a ← first (word_at 0 words)
  b ← second (word_at 1 words)
  c ← third (word_at 2 words)
  d ← fourth (word_at 3 words)
  end ← no_more_of (words_from 4 words)
  Ok (value a b c d)

-- each word is a number
abbrev pub numbers_of : ℕ → List (List ℕ) → Result (List ℕ) ScriptRefusal
numbers_of most [] = Ok []
numbers_of most (word ∷ words) = number_of most word >>= λ n. numbers_of most words >>= λ ns. Ok (n ∷ ns)

-- there are at most `most` items
abbrev pub at_most_of : {A : Type 0} → ℕ → List A → Result (Unit {0}) ScriptRefusal
at_most_of most items = if nat_le (length items) most then Ok tt else Err TooMany

-- the items of a claim, at most 256; all of them are read before they are counted
abbrev pub items_of : List (List ℕ) → Result (List ℕ) ScriptRefusal
items_of words = do
  items ← numbers_of u64_max words
  end ← at_most_of 256 items
  Ok items

-- the words of a `claim` line: a call, a queue and items
unfoldable pub claim_words : Version → List (List ℕ) → Result Event ScriptRefusal
claim_words version words = do
  call ← call_of (word_at 0 words)
  queue ← queue_of version (word_at 1 words)
  items ← items_of (words_from 2 words)
  Ok (Claim call queue items)

-- the event of a notify: of a chain, or of a wait queue
abbrev pub notify_event : ℕ → Listener → Event
notify_event call (listener.Chain chain) = Notify call chain
notify_event call (listener.Wait wait) = NotifyWait call wait

-- the event that a command and the words after it say
unfoldable pub event_of : Version → Command → List (List ℕ) → Result Event ScriptRefusal
event_of version command.Queue words = one_word (number_of 65535) Queue words
event_of version command.Chain words = no_words Chain words
event_of version command.Claim words = claim_words version words
event_of version command.Raise words =
    four_words call_of (queue_of version) (number_of u32_max) (number_of u32_max) Raise words
event_of version command.Take words = three_words call_of (queue_of version) (number_of u32_max) Take words
event_of version command.On words = three_words call_of (processor_of version) (element_of version) On words
event_of version command.Off words = two_words call_of (processor_of version) Off words
event_of version command.Stop words = two_words call_of (element_of version) Stop words
event_of version command.Park words = two_words call_of (element_of version) Park words
event_of version command.Start words = two_words call_of (element_of version) Start words
event_of version command.Signal words = three_words call_of (element_of version) signal_of Signal words
event_of version command.Deliver words = two_words call_of (element_of version) Deliver words
event_of version command.Done words = two_words call_of (element_of version) Done words
event_of version command.Notify words = two_words call_of (listener_of version) notify_event words
event_of version command.Round words = two_words call_of chain_of Round words
event_of version command.Leave words = two_words call_of chain_of Leave words
event_of version command.Tick words = three_words call_of gauge_of (number_of u64_max) Tick words
event_of version command.Advance words = one_word call_of Advance words
event_of version command.Set words = four_words call_of (number_of u32_max) (element_of version) signal_of Set words
event_of version command.Fire words = two_words call_of slot_of Fire words
event_of version command.Cancel words = two_words call_of slot_of Cancel words
event_of version command.Join words = two_words call_of call_of Join words
event_of version command.Shut words = two_words call_of byte_queue_of Shut words
event_of version command.WaitAt words =
    four_words call_of (wait_of version) (element_of version) (number_of u32_max) WaitAt words

-- 0x20 to 0x7E
abbrev pub is_printable : ℕ → Bool
is_printable byte = nat_le 32 byte && nat_le byte 126

-- the event that the words of a line say: a command, and the words after it
abbrev pub words_event : Version → List (List ℕ) → Result Event ScriptRefusal
words_event version words = do
  command ← command_of version (word_at 0 words)
  event_of version command (words_from 1 words)

-- the event that a line says; each byte of the line has to be printable
unfoldable pub line_event : Version → List ℕ → Result Event ScriptRefusal
line_event version line = if list_all is_printable line then words_event version (words_of line) else Err NotAscii

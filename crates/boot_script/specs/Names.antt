-- The names in a line of a list of events.
use Rattle.std.specs.Prelude.{ℕ, List, [], ◌∷◌, Result, Ok, Err, ◌==◌, if◌then◌else◌, codes}
use Rattle.std.specs.Str.{bytes_eq}
use Rattle.event_theory.specs.declared.names.QueueName.{QueueName}
use Rattle.event_theory.specs.declared.names.QueueName.TheVariants.{Bytes, Notes, Wait, Ready, Free}
use Rattle.boot_script.specs.declared.fault.ScriptRefusal.{ScriptRefusal}
use Rattle.boot_script.specs.declared.fault.ScriptRefusal.TheVariants.{BadName}
use Rattle.boot_script.specs.declared.names.Listener.{Listener}
use Rattle.boot_script.specs.declared.names.Listener.TheVariants as listeners
use Rattle.boot_script.specs.declared.version.Version.{Version}
use Rattle.boot_script.specs.Words.{◌>>=◌, number_of}
use Rattle.boot_script.specs.Versions.{last_element, last_processor, last_wait, is_later}

-- a number that is part of a name; each refusal of it becomes BadName
abbrev pub in_a_name : Result ℕ ScriptRefusal → Result ℕ ScriptRefusal
in_a_name (Ok n) = Ok n
in_a_name (Err e) = Err BadName

-- the number, at most `most`, of a word that is this letter and a number
abbrev pub numbered_name : ℕ → ℕ → List ℕ → Result ℕ ScriptRefusal
numbered_name letter most [] = Err BadName
numbered_name letter most (first ∷ digits) =
    if first == letter then in_a_name (number_of most digits) else Err BadName

-- a call is a `c` and its number
abbrev pub call_of : List ℕ → Result ℕ ScriptRefusal
call_of word = numbered_name 99 63 word

-- a processor is a `p` and its number
abbrev pub processor_of : Version → List ℕ → Result ℕ ScriptRefusal
processor_of version word = numbered_name 112 (last_processor version) word

-- an element is an `e` and its number
abbrev pub element_of : Version → List ℕ → Result ℕ ScriptRefusal
element_of version word = numbered_name 101 (last_element version) word

-- a gauge is a `g` and its number
abbrev pub gauge_of : List ℕ → Result ℕ ScriptRefusal
gauge_of word = numbered_name 103 7 word

-- a signal is its number
abbrev pub signal_of : List ℕ → Result ℕ ScriptRefusal
signal_of word = number_of 15 word

-- a slot of an alarm is its number
abbrev pub slot_of : List ℕ → Result ℕ ScriptRefusal
slot_of word = number_of 15 word

-- a byte queue is a `q` and its number
abbrev pub byte_queue_of : List ℕ → Result ℕ ScriptRefusal
byte_queue_of word = numbered_name 113 7 word

-- a chain is a `k` and its number
abbrev pub chain_of : List ℕ → Result ℕ ScriptRefusal
chain_of word = numbered_name 107 7 word

-- a wait queue is a `w` and its number
abbrev pub wait_of : Version → List ℕ → Result ℕ ScriptRefusal
wait_of version word = numbered_name 119 (last_wait version) word

-- the first reading, or the second one if the first is refused
infixr 5 ◌or◌
abbrev pub ◌or◌ : {A E : Type 0} → Result A E → Result A E → Result A E
(Ok x) or second = Ok x
(Err e) or second = second

-- the value of a name that is exactly this word
abbrev pub the_word : {A : Type 0} → List ℕ → A → List ℕ → Result A ScriptRefusal
the_word named x word = if bytes_eq word named then Ok x else Err BadName

-- a queue is `ready`, `free`, a byte queue, the notes of a chain or a wait queue
unfoldable pub queue_of : Version → List ℕ → Result QueueName ScriptRefusal
queue_of version word =
    the_word (codes "ready") Ready word
    or the_word (codes "free") Free word
    or (byte_queue_of word >>= λ queue. Ok (Bytes queue))
    or (chain_of word >>= λ chain. Ok (Notes chain))
    or (wait_of version word >>= λ wait. Ok (Wait wait))

-- a notify goes to a chain, or, from the second version on, to a wait queue
unfoldable pub listener_of : Version → List ℕ → Result Listener ScriptRefusal
listener_of version word =
    (chain_of word >>= λ chain. Ok (listeners.Chain chain))
    or (if is_later version then wait_of version word >>= (λ wait. Ok (listeners.Wait wait)) else Err BadName)

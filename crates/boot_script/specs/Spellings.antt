-- The unique spelling of each event, and the texts of such spellings.
use Rattle.std.specs.Prelude.{◌≡◌, ◌⊎◌, ℕ, ◌+◌, ◌≤◌, true, List, [], ◌∷◌, length, map, codes}
use Rattle.std.specs.List.{AllByRecursion, join_with_byte}
use Rattle.std.specs.Fmt.{decimal}
use Rattle.event_theory.specs.declared.event.Event.{Event}
use Rattle.event_theory.specs.declared.event.Event.TheVariants.{Queue, Chain, Claim, Raise, Take, On, Off, Stop, Park}
use Rattle.event_theory.specs.declared.event.Event.TheVariants.{Start, Signal, Deliver, Done, Notify, NotifyWait}
use Rattle.event_theory.specs.declared.event.Event.TheVariants.{Round, Leave, Tick, Advance, Set, Fire, Cancel, Join}
use Rattle.event_theory.specs.declared.event.Event.TheVariants.{Shut, WaitAt}
use Rattle.event_theory.specs.declared.names.QueueName.{QueueName}
use Rattle.event_theory.specs.declared.names.QueueName.TheVariants as queues
use Rattle.event_theory.specs.Numbers.{u32_max, u64_max}
use Rattle.boot_script.specs.declared.version.Script.TheVariants.{Events}
use Rattle.boot_script.specs.declared.version.Version.{Version}
use Rattle.boot_script.specs.Words.{lines_of}
use Rattle.boot_script.specs.Versions.{elements_of, last_element, last_processor, last_wait, is_later, version_line}
use Rattle.boot_script.specs.Scripts.{says_nothing}

-- `c` and the call's number
abbrev pub call_name : ℕ → List ℕ
call_name call = 99 ∷ decimal call

-- `p` and the processor's number
abbrev pub processor_name : ℕ → List ℕ
processor_name processor = 112 ∷ decimal processor

-- `e` and the element's number
abbrev pub element_name : ℕ → List ℕ
element_name element = 101 ∷ decimal element

-- `g` and the gauge's number
abbrev pub gauge_name : ℕ → List ℕ
gauge_name gauge = 103 ∷ decimal gauge

-- `q` and the byte queue's number
abbrev pub byte_queue_name : ℕ → List ℕ
byte_queue_name queue = 113 ∷ decimal queue

-- `k` and the chain's number
abbrev pub chain_name : ℕ → List ℕ
chain_name chain = 107 ∷ decimal chain

-- `w` and the wait queue's number
abbrev pub wait_name : ℕ → List ℕ
wait_name wait = 119 ∷ decimal wait

-- the name of a queue
abbrev pub queue_name : QueueName → List ℕ
queue_name (queues.Bytes queue) = byte_queue_name queue
queue_name (queues.Notes chain) = chain_name chain
queue_name (queues.Wait wait) = wait_name wait
queue_name queues.Ready = codes "ready"
queue_name queues.Free = codes "free"

-- the words of an event
abbrev pub event_words : Event → List (List ℕ)
event_words (Queue capacity) = codes "queue" ∷ decimal capacity ∷ []
event_words Chain = codes "chain" ∷ []
event_words (Claim call queue items) = codes "claim" ∷ call_name call ∷ queue_name queue ∷ map decimal items
event_words (Raise call queue run index) =
    codes "raise" ∷ call_name call ∷ queue_name queue ∷ decimal run ∷ decimal index ∷ []
event_words (Take call queue count) = codes "take" ∷ call_name call ∷ queue_name queue ∷ decimal count ∷ []
event_words (On call processor element) =
    codes "on" ∷ call_name call ∷ processor_name processor ∷ element_name element ∷ []
event_words (Off call processor) = codes "off" ∷ call_name call ∷ processor_name processor ∷ []
event_words (Stop call element) = codes "stop" ∷ call_name call ∷ element_name element ∷ []
event_words (Park call element) = codes "park" ∷ call_name call ∷ element_name element ∷ []
event_words (Start call element) = codes "start" ∷ call_name call ∷ element_name element ∷ []
event_words (Signal call element signal) = codes "signal" ∷ call_name call ∷ element_name element ∷ decimal signal ∷ []
event_words (Deliver call element) = codes "deliver" ∷ call_name call ∷ element_name element ∷ []
event_words (Done call element) = codes "done" ∷ call_name call ∷ element_name element ∷ []
event_words (Notify call chain) = codes "notify" ∷ call_name call ∷ chain_name chain ∷ []
event_words (NotifyWait call wait) = codes "notify" ∷ call_name call ∷ wait_name wait ∷ []
event_words (Round call chain) = codes "round" ∷ call_name call ∷ chain_name chain ∷ []
event_words (Leave call chain) = codes "leave" ∷ call_name call ∷ chain_name chain ∷ []
event_words (Tick call gauge amount) = codes "tick" ∷ call_name call ∷ gauge_name gauge ∷ decimal amount ∷ []
event_words (Advance call) = codes "advance" ∷ call_name call ∷ []
event_words (Set call due element signal) =
    codes "set" ∷ call_name call ∷ decimal due ∷ element_name element ∷ decimal signal ∷ []
event_words (Fire call slot) = codes "fire" ∷ call_name call ∷ decimal slot ∷ []
event_words (Cancel call slot) = codes "cancel" ∷ call_name call ∷ decimal slot ∷ []
event_words (Join call other) = codes "join" ∷ call_name call ∷ call_name other ∷ []
event_words (Shut call queue) = codes "shut" ∷ call_name call ∷ byte_queue_name queue ∷ []
event_words (WaitAt call wait element ticket) =
    codes "waitat" ∷ call_name call ∷ wait_name wait ∷ element_name element ∷ decimal ticket ∷ []

-- the line that says an event
unfoldable pub spelling : Event → List ℕ
spelling event = join_with_byte 32 (event_words event)

-- the queue can be named in this version
abbrev pub FitsQueue : Version → QueueName → Type 0
FitsQueue version (queues.Bytes queue) = queue ≤ 7
FitsQueue version (queues.Notes chain) = chain ≤ 7
FitsQueue version (queues.Wait wait) = wait ≤ last_wait version
FitsQueue version queues.Ready = Unit {0}
FitsQueue version queues.Free = Unit {0}

-- a number of 64 bits
abbrev pub FitsItem : ℕ → Type 0
FitsItem item = item ≤ u64_max

-- each number of an event is in its range in this version, and so is the number of items of a claim
abbrev pub Fits : Version → Event → Type 0
Fits version (Queue capacity) = capacity ≤ 65535
Fits version Chain = Unit {0}
Fits version (Claim call queue items) =
    (call ≤ 63) × FitsQueue version queue × AllByRecursion FitsItem items × (length items ≤ 256)
Fits version (Raise call queue run index) =
    (call ≤ 63) × FitsQueue version queue × (run ≤ u32_max) × (index ≤ u32_max)
Fits version (Take call queue count) = (call ≤ 63) × FitsQueue version queue × (count ≤ u32_max)
Fits version (On call processor element) =
    (call ≤ 63) × (processor ≤ last_processor version) × (element ≤ last_element version)
Fits version (Off call processor) = (call ≤ 63) × (processor ≤ last_processor version)
Fits version (Stop call element) = (call ≤ 63) × (element ≤ last_element version)
Fits version (Park call element) = (call ≤ 63) × (element ≤ last_element version)
Fits version (Start call element) = (call ≤ 63) × (element ≤ last_element version)
Fits version (Signal call element signal) = (call ≤ 63) × (element ≤ last_element version) × (signal ≤ 15)
Fits version (Deliver call element) = (call ≤ 63) × (element ≤ last_element version)
Fits version (Done call element) = (call ≤ 63) × (element ≤ last_element version)
Fits version (Notify call chain) = (call ≤ 63) × (chain ≤ 7)
Fits version (NotifyWait call wait) = (is_later version ≡ true) × (call ≤ 63) × (wait ≤ last_wait version)
Fits version (Round call chain) = (call ≤ 63) × (chain ≤ 7)
Fits version (Leave call chain) = (call ≤ 63) × (chain ≤ 7)
Fits version (Tick call gauge amount) = (call ≤ 63) × (gauge ≤ 7) × (amount ≤ u64_max)
Fits version (Advance call) = call ≤ 63
Fits version (Set call due element signal) =
    (call ≤ 63) × (due ≤ u32_max) × (element ≤ last_element version) × (signal ≤ 15)
Fits version (Fire call slot) = (call ≤ 63) × (slot ≤ 15)
Fits version (Cancel call slot) = (call ≤ 63) × (slot ≤ 15)
Fits version (Join call other) = (call ≤ 63) × (other ≤ 63)
Fits version (Shut call queue) = (is_later version ≡ true) × (call ≤ 63) × (queue ≤ 7)
Fits version (WaitAt call wait element ticket) =
    (is_later version ≡ true) × (call ≤ 63) × (wait ≤ last_wait version) × (element ≤ last_element version)
    × (ticket ≤ u32_max)

-- each line is silent or spells the next event, and no event is left after them; the first line has this number
abbrev pub Spells : Version → ℕ → List (List ℕ) → List (ℕ × Event) → Type 0
Spells version number [] events = events ≡ []
Spells version number (line ∷ lines) events =
    ((says_nothing line ≡ true) × Spells version (number + 1) lines events)
    ⊎ ((event : Event) × (later : List (ℕ × Event)) × (events ≡ (number, event) ∷ later)
    × Fits version event × (line ≡ spelling event) × Spells version (number + 1) lines later)

-- the text, of at most 65,536 bytes, is the first line of a version with this many elements, and lines of the events
abbrev pub SpellsText : List ℕ → ℕ → List (ℕ × Event) → Type 0
SpellsText text elements events =
    (version : Version) × (lines : List (List ℕ)) × (elements ≡ elements_of version) × (length text ≤ 65536)
    × (lines_of text ≡ version_line Events version ∷ lines) × Spells version 2 lines events

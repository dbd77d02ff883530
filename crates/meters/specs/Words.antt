-- The words of the table: the gauges, the clock and the alarms.
use Rattle.std.specs.Prelude.{◌≡◌, ℕ, ◌<◌, List, length, filter_map, slice_index_or, Option, Some, None}
use Rattle.event_theory.specs.declared.alarm.Alarm.{Alarm}
use Rattle.meters.specs.declared.layout.TheConstants.{GAUGES, SLOTS, TICKS, ELEMENTS, SIGNALS}
use Rattle.meters.specs.declared.rule.Reading.{Reading}
use Rattle.meters.specs.Layout.{gauge_word, clock_word, slot_word, width, word_of}

-- the alarm's tick, element and signal are in range, so a word can encode them
pub record IsInRange (alarm : Alarm) : Type 0 where
  pub due : alarm.due < TICKS
  pub element : alarm.element < ELEMENTS
  pub signal : alarm.signal < SIGNALS

-- a word can encode the content of the slot
abbrev pub Fits : Option Alarm → Type 0
Fits None = Unit {0}
Fits (Some alarm) = IsInRange alarm

-- the alarms in the slots, in the order of the slots
abbrev pub standing : List (Option Alarm) → List Alarm
standing slots = filter_map (λ slot. slot) slots

-- the words of the slots show their contents
pub record SlotsShow (slots : List (Option Alarm)) (words : List ℕ) : Type 0 where
  pub sixteen : length slots ≡ SLOTS
  pub fit : (slot : ℕ) → slot < SLOTS → Fits (slice_index_or slots slot None)
  pub each : (slot : ℕ) → slot < SLOTS
      → slice_index_or words (slot_word slot) 0 ≡ word_of (slice_index_or slots slot None)

-- the words show the gauges, the clock and the slots
pub record WordsShow (m : Reading) (words : List ℕ) : Type 0 where
  pub wide : length words ≡ width
  pub eight : length m.gauges ≡ GAUGES
  pub gauges : (gauge : ℕ) → gauge < GAUGES
      → slice_index_or words (gauge_word gauge) 0 ≡ slice_index_or m.gauges gauge 0
  pub clock : slice_index_or words clock_word 0 ≡ m.clock
  pub bounded : m.clock < TICKS
  pub slots : SlotsShow m.slots words

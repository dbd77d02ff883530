-- The positions of the words of the meters' table: number of ends, gauges, clock and slots, side by side, so that each
-- word has a use; and the content of a slot's word. The law `layout_is` has the weights of the marks.
use Rattle.std.specs.Prelude.{ℕ, ◌+◌, ◌*◌, ◌/◌, ◌%◌, List, take, drop, Option, Some, None}
use Rattle.event_theory.specs.declared.alarm.Alarm.{Alarm}
use Rattle.meters.specs.declared.layout.TheConstants.{STANDS, SIGNAL, ELEMENT, TICKS, FIELD}

-- the number of the word that has the number of ends
abbrev pub ends_word : ℕ
ends_word = 0

-- the number of the word of this gauge
abbrev pub gauge_word : ℕ → ℕ
gauge_word gauge = 1 + gauge

-- the number of the word that has the clock
abbrev pub clock_word : ℕ
clock_word = 9

-- the number of the word of this slot
abbrev pub slot_word : ℕ → ℕ
slot_word slot = 10 + slot

-- how many words there are
abbrev pub width : ℕ
width = 26

-- the gauges' words
abbrev pub gauges_in : List ℕ → List ℕ
gauges_in words = take 8 (drop 1 words)

-- the word of a slot: 0, or bit 63 set, with the alarm's signal, element and tick
abbrev pub word_of : Option Alarm → ℕ
word_of None = 0
word_of (Some alarm) = STANDS + alarm.signal * SIGNAL + alarm.element * ELEMENT + alarm.due

-- the alarm that a word other than 0 encodes
abbrev pub alarm_in : ℕ → Alarm
alarm_in word = record {
  due = word % TICKS;
  element = word / ELEMENT % FIELD;
  signal = word / SIGNAL % FIELD;
}

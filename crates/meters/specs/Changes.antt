-- The changes of the meters, one event at a time. `Events` has the core's events that these are.
use Rattle.std.specs.Prelude.{◌≡◌, ℕ, ◌+◌, ◌%◌, ◌^◌, ◌<◌, ◌≤◌, [], ◌∷◌, ◌++◌, slice_index_or, slice_set}
use Rattle.std.specs.Prelude.{Option, Some, None}
use Rattle.std.specs.List.{repeat}
use Rattle.event_theory.specs.declared.alarm.Alarm.{Alarm}
use Rattle.event_theory.specs.Meters.{Meters}
use Rattle.event_theory.specs.Lawful.{IsLawfulMeters}
use Rattle.meters.specs.declared.layout.TheConstants.{GAUGES, SLOTS, LAST_TICK}
use Rattle.meters.specs.declared.rule.Reading.{Reading}

-- the core's meters that a reading has
abbrev pub meters_of : Reading → Meters
meters_of m = record {
  gauges = m.gauges;
  clock = m.clock;
  slots = m.slots;
  set = m.set;
  fired = m.fired;
  cancelled = m.cancelled;
}

-- the meters of the reading are lawful meters of the core
abbrev pub IsLawful : Reading → Type 0
IsLawful m = IsLawfulMeters (meters_of m)

-- the alarm in a slot, or none
abbrev pub in_slot : Reading → ℕ → Option Alarm
in_slot m slot = slice_index_or m.slots slot None

-- the meters with this clock, before any event
abbrev pub first_reading : ℕ → Reading
first_reading clock = record {
  gauges = repeat GAUGES (0 ∷ []);
  clock = clock;
  slots = repeat SLOTS (None ∷ []);
  set = [];
  fired = [];
  cancelled = [];
}

-- the meters after a tick of a gauge, which wraps at 2^64
abbrev pub with_tick : Reading → ℕ → ℕ → Reading
with_tick m gauge amount = record m {
  gauges = slice_set m.gauges gauge ((slice_index_or m.gauges gauge 0 + amount) % 2 ^ 64);
}

-- the meters after the clock was moved on by one tick
abbrev pub with_advance : Reading → Reading
with_advance m = record m { clock = m.clock + 1 }

-- the meters after the alarm was set in this slot
abbrev pub with_alarm : Reading → ℕ → Alarm → Reading
with_alarm m slot alarm = record m { slots = slice_set m.slots slot (Some alarm); set = m.set ++ alarm ∷ [] }

-- the meters after the alarm of this slot was taken out as fired
abbrev pub with_fired : Reading → ℕ → Alarm → Reading
with_fired m slot alarm = record m { slots = slice_set m.slots slot None; fired = m.fired ++ alarm ∷ [] }

-- the meters after the alarm of this slot was taken out as cancelled
abbrev pub with_cancelled : Reading → ℕ → Alarm → Reading
with_cancelled m slot alarm = record m { slots = slice_set m.slots slot None; cancelled = m.cancelled ++ alarm ∷ [] }

-- one event, whose condition holds in m, makes n of m
pub data Becomes (m n : Reading) : Type 0 where
  ticked : (gauge amount : ℕ) → gauge < GAUGES → n ≡ with_tick m gauge amount → Becomes m n
  advanced : m.clock < LAST_TICK → n ≡ with_advance m → Becomes m n
  was_set : (slot : ℕ) (alarm : Alarm) → slot < SLOTS → in_slot m slot ≡ None → n ≡ with_alarm m slot alarm
      → Becomes m n
  fired : (slot : ℕ) (alarm : Alarm) → slot < SLOTS → in_slot m slot ≡ Some alarm → alarm.due ≤ m.clock
      → n ≡ with_fired m slot alarm → Becomes m n
  cancelled : (slot : ℕ) (alarm : Alarm) → slot < SLOTS → in_slot m slot ≡ Some alarm → n ≡ with_cancelled m slot alarm
      → Becomes m n

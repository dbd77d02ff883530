-- How a log grows by a turn: by an entry if there is room, and else by one in the number of turns that were missed.
use Rattle.std.specs.Prelude.{◌≡◌, ◌≤◌, ◌+◌, ◌-◌, ◌^◌, ◌++◌, ◌∷◌, ◌&&◌, ℕ, Bool, true, false, [], length, min}
use Rattle.std.specs.Prelude.{nat_eq, nat_lt, nat_le}
use Rattle.boot_data.specs.Hearing.{bytes_of}
use Rattle.processor.specs.Entries.{LogEntry}
use Rattle.boot_log.specs.declared.entry.Entry.{Entry}
use Rattle.boot_log.specs.Kept.{Kept, part_after}
use Rattle.boot_log.specs.Values.{advance_of, did_of, fired_of}

-- there is room for one more entry, and for so many bytes and alarms
abbrev pub has_room : ℕ → ℕ → Kept → Bool
has_room bytes alarms log = nat_lt (length log.entries) log.room.turns
    && (nat_le bytes (log.room.bytes - length log.bytes) && nat_le alarms (log.room.alarms - length log.fired))

-- there is room for the turn: for its entry, its line and the alarms that it fired
abbrev pub has_room_for : LogEntry → Kept → Bool
has_room_for turn log = has_room (length turn.line) (length (fired_of turn.tended)) log

-- the turn is kept: there is room for it, and none before it was missed
abbrev pub is_kept : LogEntry → Kept → Bool
is_kept turn log = nat_eq log.missed 0 && has_room_for turn log

-- the entry of a turn that ended at this time: its line and its alarms are appended to those of the log
abbrev pub entry_at : ℕ → LogEntry → Kept → Entry
entry_at time turn log = record {
  at = time;
  tended = advance_of turn.tended;
  fired = part_after log.fired (fired_of turn.tended);
  did = did_of turn.outcome (part_after log.bytes turn.line);
}

-- the log with the entry of one more turn, which ended at this time, and with its line and its alarms
abbrev pub with_turn : ℕ → LogEntry → Kept → Kept
with_turn time turn log = record log {
  entries = log.entries ++ entry_at time turn log ∷ [];
  bytes = log.bytes ++ bytes_of turn.line;
  fired = log.fired ++ fired_of turn.tended;
}

-- the log with one more turn that was missed; the number stays at its largest value
abbrev pub with_miss : Kept → Kept
with_miss log = record log { missed = min (log.missed + 1) (2 ^ 64 - 1) }

-- A turn that is kept is appended with what the clock said, which is not before what it said last. Another turn is
-- missed, and the clock isn't read
abbrev pub GrowsIf : Bool → (ℕ → ℕ → Type 0) → LogEntry → ℕ → ℕ → Kept → Kept → Type 0
GrowsIf true says turn last time old new = says last time × (last ≤ time) × (new ≡ with_turn time turn old)
GrowsIf false says turn last time old new = (time ≡ last) × (new ≡ with_miss old)

-- the log grows by a turn, with a clock that says such times after another
abbrev pub Grows : (ℕ → ℕ → Type 0) → LogEntry → ℕ → ℕ → Kept → Kept → Type 0
Grows says turn last time old new = GrowsIf (is_kept turn old) says turn last time old new

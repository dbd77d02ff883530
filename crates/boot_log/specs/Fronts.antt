-- The turns that a log has, the front of a run, with their times.
use Rattle.std.specs.Prelude.{◌≡◌, ◌≤◌, ◌+◌, ℕ, List, [], ◌∷◌, false, length, take, slice_get, IfSome}
use Rattle.boot_data.specs.Hearing.{bytes_of}
use Rattle.processor.specs.Entries.{LogEntry}
use Rattle.boot_log.specs.declared.entry.Entry.{Entry}
use Rattle.boot_log.specs.Growing.{has_room_for}
use Rattle.boot_log.specs.Kept.{Kept, part_of}
use Rattle.boot_log.specs.Values.{advance_of, did_of, fired_of, line_part, step_line}

-- the entry has the result of the turn; its line and its alarms are the named parts of the log's bytes and alarms
pub record IsEntryOf (log : Kept) (turn : LogEntry) (entry : Entry) : Type 0 where
  pub tended : entry.tended ≡ advance_of turn.tended
  pub fired : part_of log.fired entry.fired ≡ fired_of turn.tended
  pub result : entry.did ≡ did_of turn.outcome (line_part entry.did)
  pub line : part_of log.bytes (line_part entry.did) ≡ bytes_of (step_line turn.outcome turn.line)

-- there is an entry for each turn, in the order of the turns, and no other entry
abbrev pub AreEntriesOf : Kept → List LogEntry → List Entry → Type 0
AreEntriesOf log [] [] = Unit {0}
AreEntriesOf log (turn ∷ turns) (entry ∷ entries) = IsEntryOf log turn entry × AreEntriesOf log turns entries
AreEntriesOf log turns entries = ⊥

-- The log has the entries of the first of these turns, and counts all later ones as missed. There was no room for the
-- first that was missed
pub record IsFrontOf (turns : List LogEntry) (log : Kept) : Type 0 where
  pub kept : AreEntriesOf log (take (length log.entries) turns) log.entries
  pub count : length turns ≡ length log.entries + log.missed
  pub full : IfSome (slice_get turns (length log.entries)) (λ turn. has_room_for turn log ≡ false)

-- the times of entries: each is what the clock said after the one before it, and none is before the one before it
abbrev pub AreTimes : (ℕ → ℕ → Type 0) → ℕ → List Entry → Type 0
AreTimes says last [] = Unit {0}
AreTimes says last (entry ∷ entries) = says last entry.at × (last ≤ entry.at) × AreTimes says entry.at entries

-- the log has the front of these turns, with times of a clock that had said this number before
pub record IsRecordOf (says : ℕ → ℕ → Type 0) (first : ℕ) (turns : List LogEntry) (log : Kept) : Type 0 where
  pub front : IsFrontOf turns log
  pub times : AreTimes says first log.entries

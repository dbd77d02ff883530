-- What is kept of a processor's turns, and how an entry names its line and its alarms.
use Rattle.std.specs.Borrow.{Bor}
use Rattle.std.specs.Prelude.{ℕ, List, [], ◌∷◌, length, take, drop, map}
use Rattle.event_theory.specs.declared.alarm.Alarm.{Alarm}
use Rattle.boot_log.specs.declared.entry.Entry.{Entry}
use Rattle.boot_log.specs.declared.entry.Part.{Part}

-- how many turns, bytes of lines and fired alarms there is room for
pub record Room : Type 0 where
  pub turns : ℕ
  pub bytes : ℕ
  pub alarms : ℕ

-- What is kept of a processor's turns: an entry for each, the bytes of all their lines and all alarms that they fired,
-- how many later turns were missed, and the room
pub record Kept : Type 0 where
  pub entries : List Entry
  pub bytes : List ℕ
  pub fired : List Alarm
  pub missed : ℕ
  pub room : Room

-- nothing is kept, and there is this room
abbrev pub nothing_kept : Room → Kept
nothing_kept room = record { entries = []; bytes = []; fired = []; missed = 0; room = room }

-- the part of a list: its items from the start on, as many as the part says
abbrev pub part_of : {A : Type 0} → List A → Part → List A
part_of items part = take part.len (drop part.start items)

-- the part that a list is when it is appended to another
abbrev pub part_after : {A B : Type 0} → List A → List B → Part
part_after items more = record { start = length items; len = length more }

-- what these logs have kept
abbrev pub kept_in : List (Bor Kept) → List Kept
kept_in logs = map (λ log. log.now) logs

-- when the last of these turns ended; this time, if there is none
abbrev pub end_of : ℕ → List Entry → ℕ
end_of from [] = from
end_of from (entry ∷ entries) = end_of entry.at entries

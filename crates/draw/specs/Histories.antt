-- The states that a list of events passes through.
use Rattle.std.specs.Prelude.{◌≡◌, ℕ, ◌≤◌, nat_le, if◌then◌else◌, List, [], ◌∷◌, ◌++◌, length, take, min, Option}
use Rattle.std.specs.Prelude.{Some, None, Result, Ok, Err}
use Rattle.std.specs.List.{remove}
use Rattle.event_theory.specs.declared.event.Event.{Event}
use Rattle.event_theory.specs.States.{State, step}
use Rattle.event_theory.specs.Schedules.{Reaches}
use Rattle.event_theory.specs.Statuses.{status_of}
use Rattle.event_theory.specs.declared.refusal.Refusal.{Refusal}
use Rattle.boot_script.specs.declared.outcome.Replayed.{Replayed}
use Rattle.boot_script.specs.declared.outcome.Replayed.TheVariants.{AllAllowed, Refused}
use Rattle.boot_script.specs.Replays.{alone, Replays}
use Rattle.draw.specs.declared.history.Row.{Row}
use Rattle.draw.specs.declared.history.History.{History}

-- the rows with one more at the end; if there are 200 rows or more, the first one is removed
abbrev pub kept : List Row → Row → List Row
kept all row = (if nat_le 200 (length all) then remove all 0 else all) ++ row ∷ []

-- the row records the line of an event, and the status of the state that the event led to
pub record RowShows (row : Row) (line : ℕ) (s : State) : Type 0 where
  pub line_is : row.line ≡ line
  pub numbers : row.status ≡ status_of s

-- the rows record, in order, the states that these events lead to, from `old` to `new`
abbrev pub RowsShow : List Row → List (ℕ × Event) → State → State → Type 0
RowsShow [] [] old new = new ≡ old
RowsShow [] (numbered ∷ events) old new = ⊥
RowsShow (row ∷ rows) [] old new = ⊥
RowsShow (row ∷ rows) (numbered ∷ events) old new =
    (next : State) × (step numbered.1 old ≡ Ok next) × RowShows row numbered.0 next × RowsShow rows events next new

-- the rows record the last of these events; the earlier events lead from `old` to `middle`
pub record LastRowsShow (rows : List Row) (events : List (ℕ × Event)) (old new : State) : Type 0 where
  pub earlier : List (ℕ × Event)
  pub later : List (ℕ × Event)
  pub parts : events ≡ earlier ++ later
  pub middle : State
  pub reached : Reaches old (alone earlier) middle
  pub reported : RowsShow rows later middle new

-- the list of events ends with this event, on this line, which is refused
abbrev pub IsRefused : Replayed → ℕ → Result State Refusal → Type 0
IsRefused AllAllowed line said = ⊥
IsRefused (Refused at refusal) line said = (at ≡ line) × (said ≡ Err refusal)

-- the event was applied, or it was refused and the list of events ends with it
abbrev pub IsNext : Option Replayed → ℕ → Event → State → State → Type 0
IsNext None line event old new = step event old ≡ Ok new
IsNext (Some end) line event old new = (new ≡ old) × IsRefused end line (step event old)

-- the history of events: the answer of their run, and rows of the last 200 allowed events, or of all if they are fewer
pub record IsHistory (past : History) (events : List (ℕ × Event)) (old : State) : Type 0 where
  pub new : State
  pub replayed : Replays past.replayed events old new
  pub within : past.allowed ≤ length events
  pub reported : LastRowsShow past.rows.items (take past.allowed events) old new
  pub as_many : length past.rows.items ≡ min 200 past.allowed

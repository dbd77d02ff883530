-- The conditions on every state that a schedule reaches.
use Rattle.std.specs.Prelude.{◌≡◌, ℕ, ◌+◌, ◌==◌, ◌<◌, ◌≤◌, Bool, true, false, not, ◌&&◌, ◌||◌}
use Rattle.std.specs.Prelude.{length, take, All, count_by, Option, Some, None}
use Rattle.std.specs.List.{list_all}
use Rattle.std.specs.Option.{is_some}
use Rattle.event_theory.specs.Runs.{flat, pairs, run_length}
use Rattle.event_theory.specs.Queues.{Queue, left, is_raised}
use Rattle.event_theory.specs.Chains.{Chain, is_forgotten}
use Rattle.event_theory.specs.Appearances.{appearances}
use Rattle.event_theory.specs.Elements.{Elements}
use Rattle.event_theory.specs.Meters.{Meters}
use Rattle.event_theory.specs.States.{State}
use Rattle.event_theory.specs.declared.status.Gate.{Gate}
use Rattle.event_theory.specs.declared.status.Gate.TheVariants.{Idle}
use Rattle.event_theory.specs.declared.alarm.Alarm.{Alarm}

-- each run has an item, the raised pairs are in the history, what was taken was raised, and what is left is within
-- the capacity
pub record IsLawfulQueue (q : Queue) : Type 0 where
  pub solid : (run : ℕ) → run < length q.history → 0 < run_length q.history run
  pub within : (run index : ℕ) → q.raised run index ≡ true → index < run_length q.history run
  pub taken_within : q.taken ≤ length (flat q.history)
  pub ready : list_all (is_raised q) (take q.taken (pairs q.history)) ≡ true
  pub fits : length (left q) ≤ q.capacity

abbrev pub is_idle : Gate → Bool
is_idle Idle = true
is_idle gate = false

-- The chain's notes are a lawful queue. There is a runner exactly if the gate isn't Idle. If the gate is Idle and the
-- first note left is raised, the call of its run owes a notify
pub record IsLawfulChain (c : Chain) : Type 0 where
  pub notes : IsLawfulQueue c.notes
  pub run : is_some c.runner ≡ not (is_idle c.gate)
  pub promised : (is_idle c.gate && is_forgotten c) ≡ false

-- The element queues are lawful. Each element appears exactly once, and nothing else does. An element in its stop cell
-- has its stop bit set
pub record IsLawfulElements (s : Elements) : Type 0 where
  pub rings : All IsLawfulQueue s.rings
  pub once : (element : ℕ) → element < length s.threads → appearances element s ≡ 1
  pub known : (element : ℕ) → length s.threads ≤ element → appearances element s ≡ 0
  pub stopped : list_all (λ thread. not thread.parked || thread.stop) s.threads ≡ true

abbrev pub is_alarm : Alarm → Alarm → Bool
is_alarm a b = a.due == b.due && a.element == b.element && a.signal == b.signal

abbrev pub stands : Alarm → Option Alarm → Bool
stands alarm None = false
stands alarm (Some other) = is_alarm alarm other

-- the alarms set are those fired, those cancelled and those in the slots, each once
abbrev pub IsLawfulMeters : Meters → Type 0
IsLawfulMeters m = (alarm : Alarm) →
    count_by (is_alarm alarm) m.set
    ≡ count_by (is_alarm alarm) m.fired + count_by (is_alarm alarm) m.cancelled + count_by (stands alarm) m.slots

pub record IsLawful (s : State) : Type 0 where
  pub queues : All IsLawfulQueue s.queues
  pub chains : All IsLawfulChain s.chains
  pub elements : IsLawfulElements s.elements
  pub meters : IsLawfulMeters s.meters

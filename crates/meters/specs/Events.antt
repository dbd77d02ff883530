-- The core's events of the meters, between two readings.
use Rattle.std.specs.Prelude.{◌≡◌, ℕ, ◌<◌, length, slice_set, Some, None, Ok}
use Rattle.std.specs.Prelude.{count_by}
use Rattle.event_theory.specs.declared.alarm.Alarm.{Alarm}
use Rattle.event_theory.specs.Meters.{Meters, tick, advance, set_alarm, fire, cancel}
use Rattle.event_theory.specs.Lawful.{stands}
use Rattle.meters.specs.declared.rule.Reading.{Reading}
use Rattle.meters.specs.Changes.{meters_of, in_slot}

-- the meters are alike, except that the same alarms may be in other slots
pub record AreAlike (m n : Meters) : Type 0 where
  pub gauges : n.gauges ≡ m.gauges
  pub clock : n.clock ≡ m.clock
  pub set : n.set ≡ m.set
  pub fired : n.fired ≡ m.fired
  pub cancelled : n.cancelled ≡ m.cancelled
  pub as_many : length n.slots ≡ length m.slots
  pub stand : (alarm : Alarm) → count_by (stands alarm) n.slots ≡ count_by (stands alarm) m.slots

-- The alarm is set in this slot, which was empty. The core's event sets it in the first empty slot: the meters are
-- alike.
pub record IsSet (slot : ℕ) (alarm : Alarm) (m n : Reading) : Type 0 where
  pub within : slot < length m.slots
  pub empty : in_slot m slot ≡ None
  pub slots : n.slots ≡ slice_set m.slots slot (Some alarm)
  pub core : Meters
  pub event : set_alarm alarm (meters_of m) ≡ Ok core
  pub alike : AreAlike core (meters_of n)

-- one event of the core makes n of m
pub data Happens (m n : Reading) : Type 0 where
  ticked : (gauge amount : ℕ) → tick gauge amount (meters_of m) ≡ Ok (meters_of n) → Happens m n
  advanced : advance (meters_of m) ≡ Ok (meters_of n) → Happens m n
  was_set : (slot : ℕ) (alarm : Alarm) → IsSet slot alarm m n → Happens m n
  fired : (slot : ℕ) → fire slot (meters_of m) ≡ Ok (meters_of n) → Happens m n
  cancelled : (slot : ℕ) → cancel slot (meters_of m) ≡ Ok (meters_of n) → Happens m n

-- events of the core, one after another, lead from m to the other reading
pub data Leads (m : Reading) : Reading → Type 0 where
  here : Leads m m
  further : (n o : Reading) → Leads m n → Happens n o → Leads m o

-- The gauges, the clock and the alarms that the machine stores.
use Rattle.std.specs.Prelude.{length, Result}
use Rattle.event_theory.specs.Meters.{Meters}
use Rattle.event_theory.specs.Results.{Changes}
use Rattle.event_theory.specs.declared.refusal.Refusal.{Refusal}
use Rattle.event_theory.specs.declared.status.AlarmStatus.{AlarmStatus}
use Rattle.quaject_core.specs.declared.metering.StoredMeters.{StoredMeters}

-- the meters that the stored meters represent
abbrev pub meters : StoredMeters → Meters
meters stored = record {
  gauges = stored.gauges;
  clock = stored.clock;
  slots = stored.slots;
  set = stored.set.items;
  fired = stored.fired.items;
  cancelled = stored.cancelled.items;
}

-- how many alarms were set, fired and cancelled
abbrev pub alarm_status : Meters → AlarmStatus
alarm_status m = record { set = length m.set; fired = length m.fired; cancelled = length m.cancelled }

-- the event was applied to the stored meters, or it was refused and nothing changed
abbrev pub Does : Result (Unit {0}) Refusal → (Meters → Result Meters Refusal) → StoredMeters → StoredMeters → Type 0
Does result event old new = Changes result (event (meters old)) (meters old) (meters new)

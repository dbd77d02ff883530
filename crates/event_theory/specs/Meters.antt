-- Gauges, the clock and alarms, and their events.
use Rattle.std.specs.Prelude.{ℕ, ◌+◌, ◌==◌, ◌%◌, nat_lt, Bool, true, false, List, [], ◌∷◌, ◌++◌, slice_set, position}
use Rattle.std.specs.Prelude.{Option, Some, None, Result, Ok}
use Rattle.std.specs.List.{repeat}
use Rattle.std.specs.Option.{ok_or}
use Rattle.event_theory.specs.Results.{◌>>=◌, refused_if, at, change_at}
use Rattle.event_theory.specs.declared.alarm.Alarm.{Alarm}
use Rattle.event_theory.specs.declared.refusal.Refusal.{Refusal}
use Rattle.event_theory.specs.declared.refusal.Refusal.TheVariants.{UnknownName, Full, NotRaised}
use Rattle.event_theory.specs.Numbers.{u32_max, u64_values}

-- the gauges, each modulo 2^64; the clock; the slots, each with its alarm, if any; the alarms that were set, fired
-- and cancelled, in their order
pub record Meters : Type 0 where
  pub gauges : List ℕ
  pub clock : ℕ
  pub slots : List (Option Alarm)
  pub set : List Alarm
  pub fired : List Alarm
  pub cancelled : List Alarm

abbrev pub first_meters : Meters
first_meters = record {
  gauges = repeat 8 (0 ∷ []);
  clock = 0;
  slots = repeat 16 (None ∷ []);
  set = [];
  fired = [];
  cancelled = [];
}

abbrev pub tick : ℕ → ℕ → Meters → Result Meters Refusal
tick gauge amount m =
    change_at gauge (λ value. Ok ((value + amount) % u64_values)) m.gauges
    >>= λ gauges. Ok (record m { gauges = gauges })

abbrev pub advance : Meters → Result Meters Refusal
advance m = refused_if (m.clock == u32_max) Full (Ok (record m { clock = m.clock + 1 }))

abbrev pub is_empty : Option Alarm → Bool
is_empty None = true
is_empty (Some alarm) = false

-- an alarm is set in the first empty slot
abbrev pub set_alarm : Alarm → Meters → Result Meters Refusal
set_alarm alarm m =
    ok_or (position is_empty m.slots) Full
    >>= λ slot. Ok (record m { slots = slice_set m.slots slot (Some alarm); set = m.set ++ alarm ∷ [] })

-- the alarm in a slot
abbrev pub standing : ℕ → Meters → Result Alarm Refusal
standing slot m = at slot m.slots >>= λ found. ok_or found UnknownName

-- an alarm that is due is taken out of its slot
abbrev pub fire : ℕ → Meters → Result Meters Refusal
fire slot m =
    standing slot m
    >>= λ alarm. refused_if (nat_lt m.clock alarm.due) NotRaised
    (Ok (record m { slots = slice_set m.slots slot None; fired = m.fired ++ alarm ∷ [] }))

abbrev pub cancel : ℕ → Meters → Result Meters Refusal
cancel slot m =
    standing slot m
    >>= λ alarm. Ok (record m { slots = slice_set m.slots slot None; cancelled = m.cancelled ++ alarm ∷ [] })

-- The alarms that an end of the meters set.
use Rattle.std.specs.Prelude.{◌≡◌, List, ◌++◌}
use Rattle.event_theory.specs.declared.alarm.Alarm.{Alarm}
use Rattle.meters.specs.Own.{SeatView, own_of}

-- the end set these alarms in their order, and did nothing else
abbrev pub DidSetAll : List Alarm → SeatView → SeatView → Type 0
DidSetAll alarms v w = own_of w ≡ record (own_of v) { set = v.own.set ++ alarms }

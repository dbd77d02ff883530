use Rattle.std.proofs.Common.{◌≡◌, ◌++◌, ◌+◌, take, length, vec_capacity}
use Rattle.boot_log.proofs.parts.append_alarms.Given as goal

-- The alarms that were there, and then the alarms so far. The room is the same.
abbrev pub invariant-loop-alarm : goal.invariant-loop-alarm
invariant-loop-alarm l = record {
  fired : l.fired.items ≡ l.initial.fired.items ++ take l.alarm-index l.alarms;
  len : length l.fired.items ≡ length l.initial.fired.items + l.alarm-index;
  room : vec_capacity l.fired ≡ vec_capacity l.initial.fired;
}

use Rattle.std.proofs.Common.{◌≡◌, ◌≤◌, vec_len, vec_capacity}
use Rattle.std.specs.List.{All}
use Rattle.boot_log.specs.Recorders.{IsNewRecorder}
use Rattle.boot_log.proofs.boot_clock.BootClock.recorders.Given as goal

abbrev pub invariant-loop-made : goal.invariant-loop-made
invariant-loop-made g l = record {
  room : l.fn.number ≤ vec_capacity l.all;
  many : vec_len l.all ≡ l.made;
  empty : All (IsNewRecorder l.fn.self.clock l.fn.from (record { turns = l.fn.turns; bytes = l.fn.bytes; alarms = 16 }))
      l.all.items;
}

use Rattle.boot_threads.proofs.Common.{take, IsSameSeat}
use Rattle.meters.specs.Handles.{view_of}
use Rattle.boot_threads.specs.Alarms.{DidSetAll}
use Rattle.boot_threads.proofs.alarms.set_alarms.Given as goal

abbrev pub invariant-loop-alarm : goal.invariant-loop-alarm
invariant-loop-alarm g l = record {
  same : IsSameSeat l.initial.seat l.seat;
  set : DidSetAll (take l.alarm-index l.alarms) (view_of l.initial.seat) (view_of l.seat);
}

use Rattle.boot_threads.proofs.Common.{◌≡◌, ◌+◌, ◌≤◌, take, map, length, vec_len, vec_capacity, into_iter_len, AreServing, input_of}
use Rattle.boot_threads.proofs.setting_up.add_devices.Given as goal

abbrev pub invariant-loop-device : goal.invariant-loop-device
invariant-loop-device g l = record {
  works_room : vec_len l.works + into_iter_len l.device-iterator ≤ vec_capacity l.works;
  lines_room : vec_len l.lines + into_iter_len l.device-iterator ≤ vec_capacity l.lines;
  number : l.t ≡ length l.yielded;
  rest : l.t + into_iter_len l.device-iterator ≡ length l.ttys;
  served : AreServing (take l.t l.ttys) l.yielded l.fn.works.items l.works.items;
  inputs : l.lines.items ≡ map input_of l.yielded;
}

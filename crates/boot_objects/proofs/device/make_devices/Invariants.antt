use Rattle.boot_objects.proofs.Common.{◌≤◌, vec_capacity, MadeDevices}
use Rattle.boot_objects.proofs.device.make_devices.Given as goal

abbrev pub invariant-loop-tty : goal.invariant-loop-tty
invariant-loop-tty l = record {
  room : l.many ≤ vec_capacity l.devices;
  made : MadeDevices l.plan l.queues l.chains l.tty l.initial.small.items l.small.items l.initial.ends.items l.ends.items l.devices.items;
}

use Rattle.boot_objects.proofs.Common.{◌≤◌, vec_capacity, MadeQuajects}
use Rattle.boot_objects.proofs.quaject_list.make_quajects.Given as goal

abbrev pub invariant-loop-number : goal.invariant-loop-number
invariant-loop-number l = record {
  room : l.many ≤ vec_capacity l.quajects;
  made : MadeQuajects l.queues l.plan l.number l.initial.small.items l.small.items l.initial.large.items l.large.items l.quajects.items;
}

use Rattle.boot_objects.proofs.Common.{◌≡◌, ◌≤◌, ◌++◌, length, vec_len, vec_capacity, into_iter_items, into_iter_len, homes_in, small_ports, large_ports, QueuesGained}
use Rattle.turn_io.specs.QueueEnds.{AreQueueEndsOf, AreSameQueueEnds}
use Rattle.boot_objects.proofs.closing.homing.bring_all_home.Given as goal

abbrev pub invariant-loop-home : goal.invariant-loop-home
invariant-loop-home l = record {
  gained : QueuesGained (small_ports l.yielded) (large_ports l.yielded) l.initial.ends l.ends;
  same : AreSameQueueEnds l.initial.ends l.ends;
  fit : AreQueueEndsOf l.fn.queues l.ends;
  parts : l.yielded ++ into_iter_items l.home-iterator ≡ l.fn.homes.items;
  left : into_iter_len l.home-iterator ≡ length (into_iter_items l.home-iterator);
  counts : homes_in l.counts.items ≡ l.yielded;
  number : vec_len l.counts ≡ length l.yielded;
  room : length l.fn.homes.items ≤ vec_capacity l.counts;
}

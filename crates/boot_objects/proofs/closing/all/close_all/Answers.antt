use Rattle.boot_objects.proofs.Common.{arith, sym, subst, refl, rules, Home, homes_in, small_ports, large_ports, QueuesGained}
use Rattle.turn_io.specs.declared.queue_ends.QueueEnds.{QueueEnds}
use Rattle.boot_objects.proofs.PortGains.{gained_raised, all_up}
use Rattle.boot_objects.proofs.Whole.{only_hand, only_seat, only_chains, small_whole, large_whole, homes_up, all_tell}
use Rattle.boot_objects.proofs.closing.all.close_all.Goals as goal

pub close_chains-counts-requires-clause-whole : goal.close_chains-counts-requires-clause-whole
close_chains-counts-requires-clause-whole c = only_chains c.args.shared c.args.parts c.requires.wholes c.requires.parts.chains.tables

pub close_queues-requires : goal.close_queues-requires
close_queues-requires c = let all = c.close_chains-counts.ensures in let new = c.close_chains-counts.new.ends.small.items in (
  omega arith,
  (
    omega arith,
    (
      omega arith,
      (
        all.ends.small,
        (
          small_whole c.args.shared c.args.parts c.requires.wholes (homes_in c.close_chains-counts.result.items) c.args.parts.queues.small.items new all.homes all.ends.small refl all.gained.small_gained,
          (c.requires.room.small.0, let room = c.requires.room.small.1 in omega arith),
        ),
      ),
    ),
  ),
)

pub close_queues-requires-2 : goal.close_queues-requires-2
close_queues-requires-2 c = let all = c.close_chains-counts.ensures in let new = c.close_chains-counts.new.ends.large.items in (
  omega arith,
  (
    omega arith,
    (
      omega arith,
      (
        all.ends.large,
        (
          large_whole c.args.shared c.args.parts c.requires.wholes (homes_in c.close_chains-counts.result.items) c.args.parts.queues.large.items new all.homes all.ends.large refl all.gained.large_gained,
          (c.requires.room.large.0, let room = c.requires.room.large.1 in omega arith),
        ),
      ),
    ),
  ),
)

pub close_threads-requires-clause-whole : goal.close_threads-requires-clause-whole
close_threads-requires-clause-whole c = only_hand c.args.shared c.args.parts c.requires.wholes

pub close_meters-requires-clause-whole : goal.close_meters-requires-clause-whole
close_meters-requires-clause-whole c = only_seat c.args.shared c.args.parts c.requires.wholes

pub returns : goal.returns
returns c = let all = c.close_chains-counts.ensures in let homes = homes_in c.close_chains-counts.result.items in
    let up = homes_up c.args.shared.chains.items c.args.parts.chains.items homes all.homes in
    let had = subst (λ (z : QueueEnds). QueuesGained (small_ports homes) (large_ports homes) c.args.parts.queues z) (sym c.of-last_ends.ensures) all.gained in
    record {
      its = c.requires.parts;
      last = c.of-last.ensures;
      homes = all.homes;
      few = all.few;
      counts = all_tell c.close_chains-counts.result.items;
      small = record {
        gained = had.small_gained;
        raised = λ h. gained_raised (small_ports homes) c.args.parts.queues.small.items c.of-last_ends.result.value.small.items had.small_gained h (all_up (λ (home : Home). home.small) homes up.0);
        each = search rules;
      };
      large = record {
        gained = had.large_gained;
        raised = λ h. gained_raised (large_ports homes) c.args.parts.queues.large.items c.of-last_ends.result.value.large.items had.large_gained h (all_up (λ (home : Home). home.large) homes up.1);
        each = search rules;
      };
      threads = c.close_threads.ensures.closed;
      put = c.close_threads.ensures.put;
      meters = c.close_meters.ensures;
      rest = (refl, refl, refl);
    }

-- The first station of a boot, which prepared the threads.
use Rattle.std.specs.Prelude.{◌≡◌, ◌≤◌, length}
use Rattle.std.specs.List.{AllByRecursion}
use Rattle.boot_data.specs.Hearing.{Key}
use Rattle.boot_data.specs.declared.boot_plan.BootPlan.{BootPlan}
use Rattle.turn_dispatch.specs.Tallies.{no_events}
use Rattle.meters.specs.Own.{nothing_did}
use Rattle.thread_table.specs.Handles.{view_of}
use Rattle.thread_table.specs.Schedules.{elements_after, ring_at}
use Rattle.processor.specs.declared.station.Parts.{Parts}
use Rattle.processor.specs.Accounts.{Account, nothing, account}
use Rattle.processor.specs.Programs.{program}
use Rattle.processor.specs.Stations.{no_signals}

-- the retired element had done all steps of its program
abbrev pub HasDoneAll : BootPlan → Key → Type 0
HasDoneAll plan retired = length (program plan retired.0) ≤ retired.1

-- the account of a preparation: the takings and retirements of this account, the plan's alarms set, and nothing else
abbrev pub preparing : BootPlan → Account → Account
preparing plan did = record nothing {
  hand = record no_events { taken = did.hand.taken; retired = did.hand.retired };
  meters = record nothing_did { set = plan.alarms };
}

-- The first station saw that the free elements with which the table began were all taken, and took 64. It made no step,
-- raised and delivered no signal, put and took no line and no note, and shut nothing. The elements that it retired had
-- no step left. At the meters it set the plan's alarms, and did nothing else
pub record IsPrepared (plan : BootPlan) (first : Parts) : Type 0 where
  pub taken : 64 ≤ (ring_at (elements_after (view_of first.hand).seen.object) 1).taken
  pub did : account first ≡ preparing plan (account first)
  pub retired : AllByRecursion (HasDoneAll plan) (account first).hand.retired
  pub took : length (account first).hand.taken ≡ 64
  pub signals : first.signals ≡ no_signals

-- The plan that is read from a boot script.
use Rattle.boot_data.specs.declared.boot_plan.BootPlan.{BootPlan}
use Rattle.boot_data.specs.Plans.{Plan}

-- the lists of a plan
abbrev pub plan_of : BootPlan → Plan
plan_of plan = record {
  queues = plan.queues;
  ttys = plan.ttys;
  movers = plan.movers;
  gauges = plan.gauges;
  alarms = plan.alarms;
  threads = plan.threads;
}

-- Room for the lines of a report.
use Rattle.std.specs.Prelude.{◌≡◌, [], length, vec_capacity}
use Rattle.boot_data.specs.declared.boot_plan.BootPlan.{BootPlan}
use Rattle.processor.specs.Programs.{hear_count}
use Rattle.boot_report.specs.declared.lines.Lines.{Lines}

-- the lists of lines and of names are empty, and have room for one of each thing of the plan and for no more
pub record HasRoom (plan : BootPlan) (lines : Lines) : Type 0 where
  pub queues : (lines.queues.items ≡ []) × (vec_capacity lines.queues ≡ length plan.queues)
  pub ttys : (lines.ttys.items ≡ []) × (vec_capacity lines.ttys ≡ length plan.ttys)
  pub movers : (lines.movers.items ≡ []) × (vec_capacity lines.movers ≡ length plan.movers)
  pub gauges : (lines.gauges.items ≡ []) × (vec_capacity lines.gauges ≡ length plan.gauges)
  pub threads : (lines.threads.items ≡ []) × (vec_capacity lines.threads ≡ length plan.threads)
  pub names : (lines.names.items ≡ []) × (vec_capacity lines.names ≡ length plan.threads)

-- the lists have room, and the list of places is empty and has room for one place for each step of the plan that hears,
-- and for no more
pub record HasAllRoom (plan : BootPlan) (lines : Lines) : Type 0 where
  pub has_room : HasRoom plan lines
  pub places : (lines.places.items ≡ []) × (vec_capacity lines.places ≡ hear_count plan)

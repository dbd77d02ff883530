-- How many things a plan has.
use Rattle.boot_report.proofs.Common.{◌≤◌, length, BootPlan}
use Rattle.std.proofs.Math.Bridge.{le_prop}
use Rattle.std.proofs.Math.Logic.{∥∥₁_elim}
use Rattle.boot_data.specs.BootPlans.{plan_of}
use Rattle.boot_data.specs.PlanLimits.{IsPlan}

module _ (plan : BootPlan) where
  pub few_movers : length plan.movers ≤ 4
  few_movers = ∥∥₁_elim plan.within le_prop (λ (h : IsPlan (plan_of plan)). h.movers)

  pub few_gauges : length plan.gauges ≤ 8
  few_gauges = ∥∥₁_elim plan.within le_prop (λ (h : IsPlan (plan_of plan)). h.gauges)

  pub few_threads : length plan.threads ≤ 64
  few_threads = ∥∥₁_elim plan.within le_prop (λ (h : IsPlan (plan_of plan)). h.threads)

-- A plan has few enough threads.
use Rattle.trace_events.proofs.Common.{◌≤◌, length, BootPlan}
use Rattle.std.proofs.Math.Bridge.{le_prop}
use Rattle.std.proofs.Math.Logic.{∥∥₁_elim}
use Rattle.boot_data.specs.BootPlans.{plan_of}
use Rattle.boot_data.specs.PlanLimits.{IsPlan}

pub few_threads : (plan : BootPlan) → length plan.threads ≤ 64
few_threads plan = ∥∥₁_elim plan.within le_prop (λ (h : IsPlan (plan_of plan)). h.threads)

-- How many lines the threads of a plan can hear.
use Rattle.processor.proofs.Common.{◌≤◌, List, [], ◌∷◌, length, arith, le_prop, ∥∥₁_elim, sum_by-cons, sum_by, AllByRecursion, BootPlan, PlannedThread, Plan, IsPlan, IsProgramOf, many_of, plan_of, is_hear, hears_in, hear_count, ◌*◌, count_by-le-length}

hears_in_few : (plan : Plan) (threads : List PlannedThread) → AllByRecursion (IsProgramOf (many_of plan)) threads → sum_by hears_in threads ≤ 64 * length threads
hears_in_few plan [] h = omega arith
hears_in_few plan (t ∷ ts) h =
    let step = count_by-le-length is_hear t.steps in
    let rest = hears_in_few plan ts h.1 in
    omega (arith, sum_by-cons hears_in t ts, step, rest, h.0.0)

-- a plan has few enough steps that hear
pub few_hears : (plan : BootPlan) → hear_count plan ≤ 4096
few_hears plan = ∥∥₁_elim plan.within le_prop (λ (h : IsPlan (plan_of plan)). omega (arith, h.threads, hears_in_few (plan_of plan) plan.threads h.programs))

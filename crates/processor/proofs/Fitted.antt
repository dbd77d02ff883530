-- The objects that the steps of a plan name are among the shared objects.
use Rattle.processor.proofs.Common.{◌≡◌, ℕ, zero, suc, ◌≤◌, List, [], ◌∷◌, length, Some, arith, le_prop, ∥∥₁_elim, AllByRecursion, BootPlan, PlannedThread, QueueIndex, Small, Large, Step, plan_of, Plan, steps_at, IsPlan, IsProgramOf, many_of, Shared, program, step_of, IsStepOf, Fits}
use Rattle.boot_data.specs.declared.plan.Step.TheVariants as steps
use Rattle.event_theory.proofs.Lists.Placed.{all_at}

its_steps : (plan : Plan) (threads : List PlannedThread) (e : ℕ) → AllByRecursion (IsProgramOf (many_of plan)) threads
    → (length (steps_at threads e) ≤ 64) × AllByRecursion (IsStepOf (many_of plan)) (steps_at threads e)
its_steps plan [] e all = (omega arith, tt)
its_steps plan (t ∷ ts) zero all = all.0
its_steps plan (t ∷ ts) (suc e) all = its_steps plan ts e all.1

pub few_steps : (plan : BootPlan) (e : ℕ) → length (program plan e) ≤ 64
few_steps plan e = ∥∥₁_elim plan.within le_prop (λ (h : IsPlan (plan_of plan)). (its_steps (plan_of plan) plan.threads e h.programs).0)

is_step : (plan : BootPlan) (e n : ℕ) (step : Step) → step_of plan e n ≡ Some step → IsPlan (plan_of plan) → IsStepOf (many_of (plan_of plan)) step
is_step plan e n step is h = all_at (IsStepOf (many_of (plan_of plan))) (program plan e) n step (its_steps (plan_of plan) plan.threads e h.programs).1 is

say_fits : (shared : Shared) (e n : ℕ) (queue : QueueIndex) (text : List ℕ) → step_of shared.plan e n ≡ Some (steps.Say queue text)
    → Fits shared.queues (length shared.chains.items) (steps.Say queue text)
say_fits shared e n (Small queue) text is = ∥∥₁_elim shared.plan.within le_prop (λ (h : IsPlan (plan_of shared.plan)).
    let s = is_step shared.plan e n (steps.Say (Small queue) text) is h in omega (arith, shared.objects.0, s))
say_fits shared e n (Large queue) text is = ∥∥₁_elim shared.plan.within le_prop (λ (h : IsPlan (plan_of shared.plan)).
    let s = is_step shared.plan e n (steps.Say (Large queue) text) is h in omega (arith, shared.objects.1, s.0))

hear_fits : (shared : Shared) (e n : ℕ) (queue : QueueIndex) → step_of shared.plan e n ≡ Some (steps.Hear queue)
    → Fits shared.queues (length shared.chains.items) (steps.Hear queue)
hear_fits shared e n (Small queue) is = ∥∥₁_elim shared.plan.within le_prop (λ (h : IsPlan (plan_of shared.plan)).
    let s = is_step shared.plan e n (steps.Hear (Small queue)) is h in omega (arith, shared.objects.0, s))
hear_fits shared e n (Large queue) is = ∥∥₁_elim shared.plan.within le_prop (λ (h : IsPlan (plan_of shared.plan)).
    let s = is_step shared.plan e n (steps.Hear (Large queue)) is h in omega (arith, shared.objects.1, s))

pub fits : (shared : Shared) (e n : ℕ) (step : Step) → step_of shared.plan e n ≡ Some step → Fits shared.queues (length shared.chains.items) step
fits shared e n (steps.Say queue text) is = say_fits shared e n queue text is
fits shared e n (steps.Hear queue) is = hear_fits shared e n queue is
fits shared e n (steps.Wait wait) is = tt
fits shared e n (steps.Wake wait) is = tt
fits shared e n (steps.Signal thread signal) is = tt
fits shared e n (steps.Stop thread) is = tt
fits shared e n (steps.Start thread) is = tt
fits shared e n (steps.Tick gauge amount) is = tt
fits shared e n (steps.Poke mover) is = ∥∥₁_elim shared.plan.within le_prop (λ (h : IsPlan (plan_of shared.plan)).
    let s = is_step shared.plan e n (steps.Poke mover) is h in omega (arith, shared.objects.2, s))
fits shared e n steps.Pass is = tt
fits shared e n (steps.Close queue) is = ∥∥₁_elim shared.plan.within le_prop (λ (h : IsPlan (plan_of shared.plan)).
    let s = is_step shared.plan e n (steps.Close queue) is h in omega (arith, shared.objects.0, s))

-- What a plan names is there, and its quajects are few.
use Rattle.boot_objects.proofs.Common.{◌≡◌, ℕ, zero, suc, ◌+◌, ◌≤◌, List, [], ◌∷◌, length, refl, sym, ap, subst, ◌∙◌, arith, Some, slice_get, ∥∥₁_elim, Mover, PlannedMover, ◌≢◌, AllByRecursion, ∥∥₁_map, ℕ_set, IsThere}
use Rattle.std.proofs.Math.Bridge.{le_prop}
use Rattle.boot_data.specs.declared.boot_plan.BootPlan.{BootPlan}
use Rattle.boot_data.specs.declared.plan.Mover.TheVariants as mover
use Rattle.boot_data.specs.declared.plan.Way.{Way}
use Rattle.boot_data.specs.BootPlans.{plan_of}
use Rattle.boot_data.specs.PlanLimits.{IsPlan, IsMoverOf, IsWayOf, AreApart, many_of}
use Rattle.event_theory.proofs.Lists.Placed.{all_at}

-- a way has none of the keys that are before it
following : (keys : List ℕ) (ways : List Way) → AreApart keys ways → (i : ℕ) (a : Way) → slice_get ways i ≡ Some a → AllByRecursion (λ key. a.key ≢ key) keys
following keys [] h i a e = cc
following keys (w ∷ ways) h zero a e = let same : w ≡ a = cc in subst (λ (z : Way). AllByRecursion (λ key. z.key ≢ key) keys) same h.0
following keys (w ∷ ways) h (suc i) a e = (following (w.key ∷ keys) ways h.1 i a e).1

apart_at : (keys : List ℕ) (ways : List Way) → AreApart keys ways → (i j : ℕ) (a b : Way) → slice_get ways i ≡ Some a → slice_get ways j ≡ Some b → a.key ≡ b.key → i ≡ j
apart_at keys [] h i j a b e f same = cc
apart_at keys (w ∷ ways) h zero zero a b e f same = refl
apart_at keys (w ∷ ways) h zero (suc j) a b e f same = let is : w ≡ a = cc in absurd ((following (w.key ∷ keys) ways h.1 j b f).0 (sym same ∙ ap (λ (z : Way). z.key) (sym is)))
apart_at keys (w ∷ ways) h (suc i) zero a b e f same = let is : w ≡ b = cc in absurd ((following (w.key ∷ keys) ways h.1 i a e).0 (same ∙ ap (λ (z : Way). z.key) (sym is)))
apart_at keys (w ∷ ways) h (suc i) (suc j) a b e f same = ap suc (apart_at (w.key ∷ keys) ways h.1 i j a b e f same)

there_of : (plan : BootPlan) (count : ℕ) (m : Mover) → length plan.queues ≤ count → ∥ IsMoverOf (many_of (plan_of plan)) m ∥₁ → IsThere count m
there_of plan count (mover.Pump from to) l h =
    (∥∥₁_elim h le_prop (λ (t : IsMoverOf (many_of (plan_of plan)) (mover.Pump from to)). let x = t.0 in omega (arith, x, l)), ∥∥₁_elim h le_prop (λ (t : IsMoverOf (many_of (plan_of plan)) (mover.Pump from to)). let x = t.1 in omega (arith, x, l)))
there_of plan count (mover.Switch from other ways) l h = (
  ∥∥₁_elim h le_prop (λ (t : IsMoverOf (many_of (plan_of plan)) (mover.Switch from other ways)). let x = t.0 in omega (arith, x, l)),
  ∥∥₁_elim h le_prop (λ (t : IsMoverOf (many_of (plan_of plan)) (mover.Switch from other ways)). let x = t.1 in omega (arith, x, l)),
  record {
    there = λ i way at. ∥∥₁_elim h le_prop (λ (t : IsMoverOf (many_of (plan_of plan)) (mover.Switch from other ways)). let x = all_at (IsWayOf (many_of (plan_of plan))) ways i way t.2 at in omega (arith, x, l));
    apart = λ i j a b at at' same. ∥∥₁_elim h (ℕ_set i j) (λ (t : IsMoverOf (many_of (plan_of plan)) (mover.Switch from other ways)). apart_at [] ways t.4 i j a b at at' same);
  },
)

pub there : (plan : BootPlan) (count : ℕ) → length plan.queues ≤ count → (i : ℕ) (planned : PlannedMover) → slice_get plan.movers i ≡ Some planned → IsThere count planned.mover
there plan count l i planned at = there_of plan count planned.mover l
    (∥∥₁_map plan.within (λ (h : IsPlan (plan_of plan)). all_at (λ p. IsMoverOf (many_of (plan_of plan)) p.mover) plan.movers i planned h.moved at))

pub few_movers : (plan : BootPlan) → length plan.movers + length plan.ttys ≤ 6
few_movers plan = ∥∥₁_elim plan.within le_prop (λ (h : IsPlan (plan_of plan)). let m = h.movers in let t = h.ttys in omega (arith, m, t))

pub few_queues : (plan : BootPlan) → length plan.queues + length plan.ttys ≤ 10
few_queues plan = ∥∥₁_elim plan.within le_prop (λ (h : IsPlan (plan_of plan)). let q = h.queues in let t = h.ttys in omega (arith, q, t))

pub few_ttys : (plan : BootPlan) → length plan.ttys ≤ 2
few_ttys plan = ∥∥₁_elim plan.within le_prop (λ (h : IsPlan (plan_of plan)). h.ttys)

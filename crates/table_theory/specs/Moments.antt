-- What a call did, and how its object was meanwhile, for the call's caller. A call that led an end from one view to
-- another has a moment for each of the steps that the end made.
use Rattle.std.specs.Prelude.{◌≡◌, ◌⊎◌, ◌+◌, ◌<◌, ◌≤◌, ℕ, List, [], ◌∷◌, ◌++◌, length}
use Rattle.table_theory.specs.declared.views.EndState.{EndState}
use Rattle.table_theory.specs.Ledgers.{Step, ExtendsTrace}
use Rattle.table_theory.specs.Sharing.{IsWhole}

-- Holds was true of the object at a moment of the call
pub record AtSomeMoment {K O : Type 0} (v w : EndState K O) (Holds : O → Type 0) : Type 0 where
  pub before : List (Step O)
  pub step : Step O
  pub after : List (Step O)
  pub adds : ExtendsTrace v (before ++ step ∷ after) w
  pub holds : Holds step.then.object

-- Holds was true of the object at two moments of the call, the first before the second
pub record AtTwoMoments {K O : Type 0} (v w : EndState K O) (Holds : O → O → Type 0) : Type 0 where
  pub before : List (Step O)
  pub first : Step O
  pub between : List (Step O)
  pub second : Step O
  pub after : List (Step O)
  pub adds : ExtendsTrace v (before ++ first ∷ (between ++ second ∷ after)) w
  pub holds : Holds first.then.object second.then.object

-- Each step is the next of these events, or one that no event shows. `Makes` says what an event makes of an object, and
-- `IsHidden` which changes are no event
abbrev pub AreEvents : {E O : Type 0} → (E → O → O → Type 0) → (O → O → Type 0) → List (Step O) → List E → Type 0
AreEvents Makes IsHidden [] events = events ≡ []
AreEvents {E} Makes IsHidden (step ∷ steps) events =
    (IsHidden step.then.object step.next.object × AreEvents Makes IsHidden steps events)
    ⊎ ((event : E) × (rest : List E) × (events ≡ event ∷ rest) × Makes event step.then.object step.next.object
    × AreEvents Makes IsHidden steps rest)

-- the end made just these events, in this order, each at one step of the call
pub record Does {K E O : Type 0} (Makes : E → O → O → Type 0) (IsHidden : O → O → Type 0) (v : EndState K O)
    (events : List E) (w : EndState K O) : Type 0 where
  pub steps : List (Step O)
  pub adds : ExtendsTrace v steps w
  pub are : AreEvents Makes IsHidden steps events

-- the call made at most so many steps
abbrev pub StepsAtMost : {K O : Type 0} → ℕ → EndState K O → EndState K O → Type 0
StepsAtMost number v w = length w.steps ≤ length v.steps + number

-- Why an object was not closed: at a moment of the call there were this many ends besides this one, and this one hasn't
-- the whole share
pub record WhyNotClosed {K O : Type 0} (others : ℕ) (v w : EndState K O) : Type 0 where
  pub some_other : 0 < others
  pub not_whole : IsWhole v.member.share → ⊥
  pub before : List (Step O)
  pub step : Step O
  pub after : List (Step O)
  pub adds : ExtendsTrace v (before ++ step ∷ after) w
  pub number : step.then.ends ≡ others + 1

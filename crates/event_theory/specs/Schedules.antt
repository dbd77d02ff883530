-- The states that a schedule, any list of events, reaches.
use Rattle.std.specs.Prelude.{◌≡◌, ℕ, true, List, [], ◌∷◌, take, Result, Ok, Err, IsSomeAnd}
use Rattle.std.specs.List.{slice_get}
use Rattle.event_theory.specs.Results.{IsWhy}
use Rattle.event_theory.specs.States.{State, step, may_grow}
use Rattle.event_theory.specs.declared.event.Event.{Event}
use Rattle.event_theory.specs.declared.refusal.Refusal.{Refusal}
use Rattle.event_theory.specs.declared.refusal.Refusal.TheVariants.{OutOfMemory}

-- these events, each allowed in its turn, lead from s to t
abbrev pub Reaches : State → List Event → State → Type 0
Reaches s [] t = t ≡ s
Reaches s (event ∷ events) t = (next : State) × (step event s ≡ Ok next) × Reaches next events t

-- if the schedule stopped out of memory, the event that was refused is one for which storage may have to grow
abbrev pub HadToGrow : Result (Unit {0}) (ℕ × Refusal) → List Event → Type 0
HadToGrow (Ok done) events = Unit {0}
HadToGrow (Err stop) events =
    stop.1 ≡ OutOfMemory → IsSomeAnd (slice_get events stop.0) (λ event. may_grow event ≡ true)

-- all events were applied; or only those before the first refused one, which has this index, for this reason
abbrev pub AppliesAll : Result (Unit {0}) (ℕ × Refusal) → List Event → State → State → Type 0
AppliesAll (Ok done) events old new = Reaches old events new
AppliesAll (Err stop) events old new =
    Reaches old (take stop.0 events) new × IsSomeAnd (slice_get events stop.0) (λ event. IsWhy stop.1 (step event new))

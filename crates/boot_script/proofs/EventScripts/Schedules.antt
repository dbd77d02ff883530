-- Events that are allowed one after the other.
use Rattle.boot_script.proofs.Common.{◌≡◌, ℕ, ◌<◌, ◌+◌, List, [], ◌∷◌, ◌++◌, ◌∙◌, sym, ap, length, take, get_or, Ok, map_push, take_more, Event, Reaches, alone}
use Rattle.event_theory.specs.States.{State, step}
use Rattle.event_theory.proofs.Keeping.Steps.{reaches_more}

pub reaches_next : (s : State) (events : List (ℕ × Event)) (at : ℕ) (numbered : ℕ × Event) (t u : State) → at < length events → numbered ≡ get_or events at numbered
    → Reaches s (alone (take at events)) t → step numbered.1 t ≡ Ok u → Reaches s (alone (take (at + 1) events)) u
reaches_next s events at numbered t u within is there next =
    let longer : take (at + 1) events ≡ take at events ++ numbered ∷ [] = take_more events at numbered within ∙ ap (λ x. take at events ++ x ∷ []) (sym is) in
    rw (longer, map_push (λ x. x.1) (take at events) numbered) (reaches_more s (alone (take at events)) t numbered.1 u there next)

-- The elements that an event of an element queue takes, and their holds.
use Rattle.std.specs.Prelude.{ℕ, List, take, position, Option, Some, None, Result, Ok}
use Rattle.event_theory.specs.Queues.{Queue, left, take_first}
use Rattle.event_theory.specs.Elements.{is_hold}
use Rattle.event_theory.specs.Results.{◌>>=◌, at}
use Rattle.event_theory.specs.declared.hold.Hold.{Hold}
use Rattle.event_theory.specs.declared.refusal.Refusal.{Refusal}

-- the elements that a taking from this queue takes
abbrev pub taken : ℕ → ℕ → List Queue → Result (List ℕ) Refusal
taken ring count rings = at ring rings >>= λ old. take_first 1 count old >>= λ new. Ok (take count (left old))

-- the index of the call's hold of the first item
abbrev pub first_hold : ℕ → Option ℕ → List Hold → Option ℕ
first_hold call None held = None
first_hold call (Some item) held = position (is_hold call item) held

-- The result of an event, and the outcome of a call by it.
use Rattle.std.specs.Prelude.{◌≡◌, ◌≢◌, Result, Ok, Err, IsOk, IfErr, ℕ, if◌then◌else◌, Bool, List, slice_set}
use Rattle.std.specs.List.{slice_get}
use Rattle.std.specs.Option.{ok_or}
use Rattle.event_theory.specs.declared.refusal.Refusal.{Refusal}
use Rattle.event_theory.specs.declared.refusal.Refusal.TheVariants.{UnknownName, OutOfMemory}

-- the next result, if nothing was refused
infixl 10 ◌>>=◌
abbrev pub ◌>>=◌ : {A B : Type 0} → Result A Refusal → (A → Result B Refusal) → Result B Refusal
(Ok x) >>= f = f x
(Err refusal) >>= f = Err refusal

-- the refusal if the test holds, else the other result
abbrev pub refused_if : {A : Type 0} → Bool → Refusal → Result A Refusal → Result A Refusal
refused_if test refusal else_said = if test then Err refusal else else_said

-- the entry at this index of a list
abbrev pub at : {A : Type 0} → ℕ → List A → Result A Refusal
at index list = ok_or (slice_get list index) UnknownName

-- the list after a change of the entry at this index
abbrev pub change_at : {A : Type 0} → ℕ → (A → Result A Refusal) → List A → Result (List A) Refusal
change_at index change list = at index list >>= change >>= λ new. Ok (slice_set list index new)

-- the reason of a refusal: OutOfMemory only if nothing else refuses the event, else the event's own refusal
abbrev pub IsWhy : {A : Type 0} → Refusal → Result A Refusal → Type 0
IsWhy OutOfMemory said = IsOk said
IsWhy refusal said = said ≡ Err refusal

-- the call wasn't refused for being out of memory
abbrev pub IsNotMemory : Result (Unit {0}) Refusal → Type 0
IsNotMemory result = IfErr result (λ refusal. refusal ≢ OutOfMemory)

-- the new value is the event's result; or the call was refused, and nothing changed
abbrev pub Changes : {A : Type 0} → Result (Unit {0}) Refusal → Result A Refusal → A → A → Type 0
Changes (Ok done) said old new = said ≡ Ok new
Changes (Err refusal) said old new = (new ≡ old) × IsWhy refusal said

-- The runs of turns are all turns, and only idle turns are in a run with others.
use Rattle.trace_events.proofs.Common.{◌≡◌, ◌<◌, ◌&&◌, ◌∙◌, Bool, true, false, List, [], ◌∷◌, refl, ap, length, arith, if◌then◌else◌, AllByRecursion, flat_map, Entry, is_idle, joined, runs_of}

abbrev flat : List (List Entry) → List Entry
flat runs = flat_map (λ (run : List Entry). run) runs

abbrev Some : List Entry → Type 0
Some run = 0 < length run

abbrev AreIdle : List Entry → Type 0
AreIdle run = AllByRecursion (λ (entry : Entry). is_idle entry ≡ true) run

-- a run has idle turns alone, if it has several
abbrev IsRun : List Entry → Type 0
IsRun run = 1 < length run → AreIdle run

flat_if : (b : Bool) (entry next : Entry) (run : List Entry) (runs : List (List Entry)) → flat (if b then (entry ∷ next ∷ run) ∷ runs else (entry ∷ []) ∷ (next ∷ run) ∷ runs) ≡ entry ∷ flat ((next ∷ run) ∷ runs)
flat_if true entry next run runs = refl
flat_if false entry next run runs = refl

flat_joined : (entry : Entry) (runs : List (List Entry)) → flat (joined entry runs) ≡ entry ∷ flat runs
flat_joined entry [] = refl
flat_joined entry ([] ∷ runs) = refl
flat_joined entry ((next ∷ run) ∷ runs) = flat_if (is_idle entry && is_idle next) entry next run runs

pub all_turns : (entries : List Entry) → flat_map (λ (run : List Entry). run) (runs_of entries) ≡ entries
all_turns [] = refl
all_turns (entry ∷ entries) = flat_joined entry (runs_of entries) ∙ ap (λ (es : List Entry). entry ∷ es) (all_turns entries)

some_if : (b : Bool) (entry next : Entry) (run : List Entry) (runs : List (List Entry)) → AllByRecursion Some runs → AllByRecursion Some (if b then (entry ∷ next ∷ run) ∷ runs else (entry ∷ []) ∷ (next ∷ run) ∷ runs)
some_if true entry next run runs h = (omega arith, h)
some_if false entry next run runs h = (omega arith, (omega arith, h))

some_joined : (entry : Entry) (runs : List (List Entry)) → AllByRecursion Some runs → AllByRecursion Some (joined entry runs)
some_joined entry [] h = (omega arith, tt)
some_joined entry ([] ∷ runs) h = (omega arith, h.1)
some_joined entry ((next ∷ run) ∷ runs) h = some_if (is_idle entry && is_idle next) entry next run runs h.1

pub some_turn : (entries : List Entry) → AllByRecursion (λ (run : List Entry). 0 < length run) (runs_of entries)
some_turn [] = tt
some_turn (entry ∷ entries) = some_joined entry (runs_of entries) (some_turn entries)

-- the turns of a run whose first turn is idle
rest_idle : (next : Entry) (run : List Entry) → is_idle next ≡ true → IsRun (next ∷ run) → AreIdle (next ∷ run)
rest_idle next [] idle h = (idle, tt)
rest_idle next (later ∷ run) idle h = h (omega arith)

one_run : (entry : Entry) → IsRun (entry ∷ [])
one_run entry = λ h. absurd (omega arith)

run_if : (b c : Bool) (entry next : Entry) (run : List Entry) (runs : List (List Entry)) → is_idle entry ≡ b → is_idle next ≡ c → IsRun (next ∷ run) → AllByRecursion IsRun runs → AllByRecursion IsRun (if b && c then (entry ∷ next ∷ run) ∷ runs else (entry ∷ []) ∷ (next ∷ run) ∷ runs)
run_if true true entry next run runs p q h k = ((λ (_ : 1 < length (entry ∷ next ∷ run)). (p, rest_idle next run q h)), k)
run_if true false entry next run runs p q h k = (one_run entry, (h, k))
run_if false true entry next run runs p q h k = (one_run entry, (h, k))
run_if false false entry next run runs p q h k = (one_run entry, (h, k))

run_joined : (entry : Entry) (runs : List (List Entry)) → AllByRecursion IsRun runs → AllByRecursion IsRun (joined entry runs)
run_joined entry [] h = (one_run entry, tt)
run_joined entry ([] ∷ runs) h = (one_run entry, h.1)
run_joined entry ((next ∷ run) ∷ runs) h = run_if (is_idle entry) (is_idle next) entry next run runs refl refl h.0 h.1

pub idle_together : (entries : List Entry) → AllByRecursion (λ (run : List Entry). 1 < length run → AllByRecursion (λ (entry : Entry). is_idle entry ≡ true) run) (runs_of entries)
idle_together [] = tt
idle_together (entry ∷ entries) = run_joined entry (runs_of entries) (idle_together entries)

-- A claim in the list of its end's runs.
use Rattle.std.specs.Prelude.{◌≡◌, ◌≢◌, ℕ, zero, suc, List, [], ◌∷◌}
use mathlib.Core.Option.{some}
use lib.ListN.{get_elem?}
use Rattle.table_theory.specs.declared.queues.Cell.{Cell}
use Rattle.table_theory.specs.declared.queues.Batch.{Batch}
use Rattle.table_theory.specs.Positioned.{fresh}
use Rattle.table_theory.specs.Listing.{number_of}
use Rattle.claim_queue.specs.Own.{View}

-- the places of these items, of which the first r are raised
abbrev pub places_of : List ℕ → ℕ → List Cell
places_of [] r = []
places_of (x ∷ xs) zero = fresh x ∷ places_of xs zero
places_of (x ∷ xs) (suc r) = record { item = x; stage = 2 } ∷ places_of xs r

abbrev pub run_of : ℕ → List ℕ → ℕ → Batch
run_of start xs r = record { start = start; places = places_of xs r }

-- the end has the run from `start` on with the items xs, of which the first r are raised
abbrev pub Owns : View → ℕ → List ℕ → ℕ → Type 0
Owns v start xs r = get_elem? v.own.runs (number_of start v.own.runs) ≡ some (run_of start xs r)

-- each claim that the end had, the end still has, raised as far as before
abbrev pub KeepsClaims : View → View → Type 0
KeepsClaims v w = (start : ℕ) (xs : List ℕ) (r : ℕ) → Owns v start xs r → Owns w start xs r

-- each claim that the end had, except the claim from `start` on, the end still has, raised as far as before
abbrev pub KeepsOthers : ℕ → View → View → Type 0
KeepsOthers start v w = (other : ℕ) (xs : List ℕ) (r : ℕ) → other ≢ start → Owns v other xs r → Owns w other xs r

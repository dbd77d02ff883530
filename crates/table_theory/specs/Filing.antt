-- One list of entries in order, each with its owner, and the owners' lists.
use Rattle.std.specs.Prelude.{◌≡◌, ℕ, ◌+◌, List, ◌==◌, if◌then◌else◌}
use mathlib.Core.Option.{some}
use lib.ListN.{get_elem?}

-- the owner, the number of the entry in the owner's list, and the entry
abbrev pub Owned : Type 0 → Type 0
Owned E = ℕ × ℕ × E

abbrev pub entry_of : {E : Type 0} → Owned E → E
entry_of o = o.2

-- the log and the lists have the same entries, each once
pub record ListedOnce {E : Type 0} (log : List (Owned E)) (lists : List (List E)) : Type 0 where
  pub listed : (c : ℕ) (l : List E) (m : ℕ) (e : E) → get_elem? lists c ≡ some l → get_elem? l m ≡ some e → (k : ℕ)
      × (get_elem? log k ≡ some (c, m, e))
  pub stands : (k : ℕ) (o : Owned E) → get_elem? log k ≡ some o → (l : List E) × (get_elem? lists o.0 ≡ some l)
      × (get_elem? l o.1 ≡ some o.2)
  pub once : (k j : ℕ) (o p : Owned E) → get_elem? log k ≡ some o → get_elem? log j ≡ some p → o.0 ≡ p.0 → o.1 ≡ p.1
      → k ≡ j

-- an entry of the owner d goes to the owner c, after the n entries of c; any other entry is unchanged
abbrev pub moved : {E : Type 0} → ℕ → ℕ → ℕ → Owned E → Owned E
moved c d n o = if o.0 == d then (c, n + o.1, o.2) else o

-- the entry, with its owner changed to 0
abbrev pub sole : {E : Type 0} → Owned E → Owned E
sole o = (0, o.1, o.2)

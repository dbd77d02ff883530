-- The effects of the steps that every table has: a look at a word, and the steps on the number of ends. Each step
-- leaves what the end holds. The end's new view meets the table's condition `Suits`, for example that its list is true.
use Rattle.std.specs.Prelude.{◌≡◌, ℕ}
use mathlib.Core.Option.{Option, none, some}
use Rattle.atomic_table.specs.Table.{Me, Step}
use Rattle.table_theory.specs.declared.views.EndState.{EndState}
use Rattle.table_theory.specs.Ledgers.{Looked, CountedUp, CountedDown, Tallied}

-- the view that was picked, or `other` if none was
abbrev pub the_view : {V : Type 0} → Option V → V → V
the_view none other = other
the_view (some view) other = view

-- the end found the number of ends in this word, and its new view suits the table
abbrev pub HasTallied : {K O : Type 0} → (EndState K O → Type 0) → ℕ → EndState K O → ℕ → EndState K O → Type 0
HasTallied Suits word v number w = Suits w × Tallied word v number w

-- the effect of a look at the number of ends: the end holds what it held, and `Tallied` relates its views
abbrev pub counts : {S V : Type 0} → (V → ℕ → V → Type 0) → Step S → Me S V → ℕ → Me S V → Type 0
counts Tallied st m r m' = (m'.1 ≡ m.1) × Tallied m.0 r m'.0

module _ {S K O : Type 0} (Suits : EndState K O → Type 0) where
  -- the end holds what it held, and its new view suits the table
  abbrev pub Stays : Me S (EndState K O) → Me S (EndState K O) → Type 0
  Stays m m' = (m'.1 ≡ m.1) × Suits m'.0

  -- the effect of a look at a word
  abbrev pub finds : Step S → Me S (EndState K O) → ℕ → Me S (EndState K O) → Type 0
  finds st m r m' = Stays m m' × Looked m.0 st.word r m'.0

  -- the effect of counting one end more
  abbrev pub counts_up : Step S → Me S (EndState K O) → ℕ → Me S (EndState K O) → Type 0
  counts_up st m r m' = Stays m m' × CountedUp st.word m.0 m'.0

  -- the effect of counting one end less
  abbrev pub counts_down : Step S → Me S (EndState K O) → ℕ → Me S (EndState K O) → Type 0
  counts_down st m r m' = Stays m m' × CountedDown st.word m.0 m'.0

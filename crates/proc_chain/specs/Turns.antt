-- The slot of an end with the turn, and the effect of serving on it.
use Rattle.std.specs.Prelude.{◌≡◌, ℕ, ◌+◌, ◌≤◌, Bool, true, false, List, [], ◌∷◌, ◌++◌, map, length, take}
use Rattle.atomic_table.specs.Table.{Me}
use Rattle.proc_chain.specs.Own.{View, queue_of}
use Rattle.proc_chain.specs.Shown.{notes_of}
use Rattle.proc_chain.specs.Notes.{notes_taken, alone}

-- the slot that was taken last has a quaject that was made by these notes and fits
abbrev pub Carries : {Q : Type 0} → (Q → List ℕ → Type 0) → (Q → Type 0) → List ℕ → List (ℕ × Q) → List (ℕ × Q)
    → Type 0
Carries {Q} made fits notes held c = (x : Q) × (c ≡ (0, x) ∷ held) × made x notes × fits x

-- an end with the turn holds the slot, with the quaject that the notes taken made; an end without the turn holds none
abbrev pub HasSlot : {Q : Type 0} → (Q → List ℕ → Type 0) → (Q → Type 0) → Me Q View → Type 0
HasSlot made fits me = (me.0.own.runner ≡ true → Carries made fits (notes_of (queue_of me.0)) [] me.1)
    × (me.0.own.runner ≡ false → me.1 ≡ [])

-- the end still has the quaject, which the notes taken made, and it fits; or the end gave it back so, and holds nothing
abbrev pub HasOrGave : {Q : Type 0} → (Q → List ℕ → Type 0) → (Q → Type 0) → Bool → Me Q View → Type 0
HasOrGave made fits true me = Carries made fits (notes_of (queue_of me.0)) [] me.1
HasOrGave {Q} made fits false me = (me.1 ≡ []) × ((x : Q) × made x (notes_of (queue_of me.0)) × fits x)

-- a live end with the turn, which has the quaject, made by the notes taken; at most as many notes were taken as put
pub record IsRunner {Q : Type 0} (made : Q → List ℕ → Type 0) (fits : Q → Type 0) (me : Me Q View) : Type 0 where
  pub live : 1 ≤ me.0.member.ends
  pub runner : me.0.own.runner ≡ true
  pub taken_within : (queue_of me.0).taken ≤ length (queue_of me.0).places
  pub carries : Carries made fits (notes_of (queue_of me.0)) [] me.1

-- at each number of notes taken in between, the quaject was made by that many first notes, in order, and fits
abbrev pub MadeSince : {Q : Type 0} → (Q → List ℕ → Type 0) → (Q → Type 0) → View → View → Type 0
MadeSince {Q} made fits v w = (n : ℕ) → (queue_of v).taken ≤ n → n ≤ (queue_of w).taken
    → (x : Q) × made x (take n (notes_of (queue_of w))) × fits x

-- if the end had the turn, no note was taken since
abbrev pub KeepsTaken : View → View → Type 0
KeepsTaken v w = v.own.runner ≡ true → (queue_of w).taken ≡ (queue_of v).taken

-- these notes were taken in between, by this end alone, each by a taking of its own. The end put none, and its share is
-- unchanged
pub record HasServed (v : View) (ns : List ℕ) (w : View) : Type 0 where
  pub notes : notes_of (queue_of w) ≡ notes_of (queue_of v) ++ ns
  pub taken : (queue_of w).taken ≡ (queue_of v).taken + length ns
  pub takes : notes_taken w ≡ notes_taken v ++ map alone ns
  pub runs : w.own.runs ≡ v.own.runs
  pub share : w.member.share ≡ v.member.share

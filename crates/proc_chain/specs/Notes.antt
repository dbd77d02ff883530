-- The notes that an end put and took: a run for each note that it chained, and a taking for each note that it ran.
use Rattle.std.specs.Prelude.{◌≡◌, ℕ, List, [], ◌∷◌, ◌++◌, map}
pub use Rattle.table_theory.specs.Batches.{line_of}
use Rattle.proc_chain.specs.Own.{View}

-- the notes that the end put, in the order of its claims, each in a run of its own
abbrev pub notes_put : View → List (List ℕ)
notes_put v = map line_of v.own.runs

-- the notes that the end took, in order, each by a taking of its own
abbrev pub notes_taken : View → List (List ℕ)
notes_taken v = map line_of v.own.takes

abbrev pub alone : ℕ → List ℕ
alone note = note ∷ []

-- no note was put, and none taken
pub record SameNotes (v w : View) : Type 0 where
  pub puts : notes_put w ≡ notes_put v
  pub takes : notes_taken w ≡ notes_taken v

-- one note more was put, and none taken
pub record PutNote (note : ℕ) (v w : View) : Type 0 where
  pub puts : notes_put w ≡ notes_put v ++ alone note ∷ []
  pub takes : notes_taken w ≡ notes_taken v

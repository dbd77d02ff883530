-- The lines that an end put and took: a line is one claim, or one taking. Each table states how its ends list lines.
use Rattle.std.specs.Prelude.{◌≡◌, ◌≤◌, ℕ, List, [], ◌∷◌, ◌++◌, map, length, take}
use Rattle.std.specs.List.{concat}
use Rattle.table_theory.specs.declared.views.EndState.{EndState}
use Rattle.table_theory.specs.Filing.{Owned, entry_of, ListedOnce}

-- nothing was put or taken, and the share is unchanged
pub record SameLines {K O : Type 0} (lines_put lines_taken : EndState K O → List (List ℕ)) (v w : EndState K O)
    : Type 0 where
  pub puts : lines_put w ≡ lines_put v
  pub takes : lines_taken w ≡ lines_taken v
  pub share : w.member.share ≡ v.member.share

-- one more line was put, and the share is unchanged
pub record PutLine {K O : Type 0} (lines_put lines_taken : EndState K O → List (List ℕ)) (line : List ℕ)
    (v w : EndState K O) : Type 0 where
  pub puts : lines_put w ≡ lines_put v ++ line ∷ []
  pub takes : lines_taken w ≡ lines_taken v
  pub share : w.member.share ≡ v.member.share

-- one more line was taken, and the share is unchanged
pub record TookLine {K O : Type 0} (lines_put lines_taken : EndState K O → List (List ℕ)) (line : List ℕ)
    (v w : EndState K O) : Type 0 where
  pub puts : lines_put w ≡ lines_put v
  pub takes : lines_taken w ≡ lines_taken v ++ line ∷ []
  pub share : w.member.share ≡ v.member.share

-- the items are these lines, one after another in some order, each once
pub record IsCut (items : List ℕ) (lines : List (List ℕ)) : Type 0 where
  pub cut : List (Owned (List ℕ))
  pub once : ListedOnce cut (lines ∷ [])
  pub whole : concat (map entry_of cut) ≡ items

-- the items put are the lines put, each once, and the first `taken` of them are the lines taken, each once
pub record IsSettled (items : List ℕ) (taken : ℕ) (puts takes : List (List ℕ)) : Type 0 where
  pub taken_within : taken ≤ length items
  pub puts_are : IsCut items puts
  pub takes_are : IsCut (take taken items) takes

-- The lines that an end of a queue put and took: a line is one batch that was put, or the items of one taking.
use Rattle.std.specs.Prelude.{◌≡◌, ◌+◌, ◌<◌, ◌≤◌, ℕ, List, [], ◌∷◌, ◌++◌, map, length, take, drop}
use Rattle.std.specs.List.{concat}
pub use Rattle.table_theory.specs.Batches.{line_of}
use Rattle.table_theory.specs.Filing.{Owned, entry_of, ListedOnce}
pub use Rattle.table_theory.specs.Lines.{IsCut, IsSettled}
use Rattle.table_theory.specs.Lines as lines
use Rattle.batch_queue.specs.declared.rule.BatchState.{BatchState}
use Rattle.batch_queue.specs.Object.{items_of, IsEdge, IsStop}
use Rattle.batch_queue.specs.Own.{View}

-- the batches that the end put, in the order of its claims
abbrev pub lines_put : View → List (List ℕ)
lines_put v = map line_of v.own.runs

-- the lines that the end took, in the order of its takings
abbrev pub lines_taken : View → List (List ℕ)
lines_taken v = map line_of v.own.takes

-- how often the end parted a batch, so that a taking could end within it
abbrev pub times_parted : View → ℕ
times_parted v = v.own.parts

-- the end put no batch, took nothing and parted no batch, and its share is unchanged
abbrev pub SameLines : View → View → Type 0
SameLines v w = lines.SameLines lines_put lines_taken v w × (times_parted w ≡ times_parted v)

-- the end put this one batch more, took nothing and parted no batch, and its share is unchanged
abbrev pub PutLine : List ℕ → View → View → Type 0
PutLine line v w = lines.PutLine lines_put lines_taken line v w × (times_parted w ≡ times_parted v)

-- the end took this one line more, put nothing and parted no batch, and its share is unchanged
abbrev pub TookLine : List ℕ → View → View → Type 0
TookLine line v w = lines.TookLine lines_put lines_taken line v w × (times_parted w ≡ times_parted v)

-- `ordered` has these lines, each once, in some order
pub record AreInOrder (ordered lines : List (List ℕ)) : Type 0 where
  pub log : List (Owned (List ℕ))
  pub once : ListedOnce log (lines ∷ [])
  pub is : map entry_of log ≡ ordered

-- the first n of the buffer are the items that were taken, as one line; the others stay
pub record FilledBuffer (n : ℕ) (old new : List ℕ) (v w : View) : Type 0 where
  pub line : List ℕ
  pub some_item : 0 < n
  pub long : length line ≡ n
  pub buffer : new ≡ line ++ drop n old
  pub took : TookLine line v w

-- the first batches left have these items
pub record AreBatches (o : BatchState) (items : List ℕ) : Type 0 where
  pub before : List (List ℕ)
  pub batches : List (List ℕ)
  pub after : List (List ℕ)
  pub all : before ++ (batches ++ after) ≡ o.batches
  pub from : length (concat before) ≡ o.taken
  pub items_are : concat batches ≡ items

-- The first items left are these, and a batch ends after them. If a batch ends at the tail, they are whole batches
pub record AreFirst (o : BatchState) (items : List ℕ) : Type 0 where
  pub items_are : take (length items) (drop o.taken (items_of o)) ≡ items
  pub end : IsEdge o.batches (o.taken + length items)
  pub whole : IsEdge o.batches o.taken → AreBatches o items

-- The items taken are the first ones left, and after them a batch ends or was parted
pub record AreSome (o : BatchState) (items : List ℕ) : Type 0 where
  pub items_are : take (length items) (drop o.taken (items_of o)) ≡ items
  pub stop : IsStop o (o.taken + length items)

-- a batch in a queue of `room` places can have `count` items: at least 1, and at most `room`
abbrev pub Fits : ℕ → ℕ → Type 0
Fits room count = (0 < count) × (count ≤ room)

-- The effect of a split and of a join on the views of the ends.
use Rattle.std.specs.Prelude.{ℕ}
use Rattle.table_theory.specs.Ledgers as ends
use Rattle.batch_queue.specs.Layout.{ends_word}
use Rattle.batch_queue.specs.Own.{View, nothing_did, did_both}

-- the number of ends was made one more, and the end gave a part of its share away
abbrev pub SplitBy : View → View → Type 0
SplitBy v w = ends.SplitBy ends_word v w

-- the new end has nothing except the part of the share, and has seen what the other end had seen
abbrev pub IsNewEnd : View → View → View → Type 0
IsNewEnd old new born = ends.IsNewEnd nothing_did old new born

-- the same two, of a split that gave so many parts
abbrev pub SplitShare : ℕ → View → View → Type 0
SplitShare parts v w = ends.SplitShare ends_word parts v w

abbrev pub IsNewEndWith : ℕ → View → View → Type 0
IsNewEndWith parts new born = ends.IsNewEndWith parts nothing_did new born

-- the end has what both ends had, and the number of ends was made one less
abbrev pub JoinedBy : View → View → View → Type 0
JoinedBy v u w = ends.JoinedBy did_both ends_word v u w

-- How a split and a join of ends change what the ends know.
use Rattle.std.specs.Prelude.{ℕ}
use Rattle.table_theory.specs.Ledgers as ends
use Rattle.meters.specs.Layout.{ends_word}
use Rattle.meters.specs.Own.{SeatView, nothing_did, did_both}
use Rattle.meters.specs.Views.{IsPart}

-- the number of ends was made one more, and the end gave away a part of its share
abbrev pub SplitBy : SeatView → SeatView → Type 0
SplitBy v w = ends.SplitBy ends_word v w

-- the new end has only its part of the share, and has seen what the other end had seen
abbrev pub IsNewEnd : SeatView → SeatView → SeatView → Type 0
IsNewEnd old new born = ends.IsNewEnd nothing_did old new born

-- the same two, of a split that gave so many parts
abbrev pub SplitShare : ℕ → SeatView → SeatView → Type 0
SplitShare parts v w = ends.SplitShare ends_word parts v w

abbrev pub IsNewEndWith : ℕ → SeatView → SeatView → Type 0
IsNewEndWith parts new born = ends.IsNewEndWith parts nothing_did new born

-- the end has what both had, the number of ends was made one less, and the end's lists are part of what happened
abbrev pub JoinedBy : SeatView → SeatView → SeatView → Type 0
JoinedBy v u w = ends.JoinedBy did_both ends_word v u w × IsPart w

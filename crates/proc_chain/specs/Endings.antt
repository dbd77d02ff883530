-- The effect of a split and of a join on the views of the ends.
use Rattle.std.specs.Prelude.{◌≡◌, ℕ, ◌+◌, ◌<◌, ◌≤◌, Bool, true, false, ◌&&◌, length}
use Rattle.atomic_table.specs.Table.{Me}
use Rattle.table_theory.specs.declared.queues.Batch.{Batch}
use Rattle.table_theory.specs.Ledgers as ends
use Rattle.proc_chain.specs.Layout.{ends_word}
use Rattle.proc_chain.specs.Own.{View, nothing_did, did_both}

-- the number of ends was made one more, and the end gave a part of its share away
abbrev pub SplitBy : View → View → Type 0
SplitBy v w = ends.SplitBy ends_word v w

-- the new end has nothing except the part of the share, and has seen what the other end had seen
abbrev pub IsNewEnd : View → View → View → Type 0
IsNewEnd old new born = ends.IsNewEnd nothing_did old new born

-- the same two, of a split that gave so many parts
abbrev pub SplitShare : ℕ → View → View → Type 0
SplitShare parts v w = ends.SplitShare ends_word parts v w

abbrev pub IsNewEndWith : ℕ → View → View → Type 0
IsNewEndWith parts new born = ends.IsNewEndWith parts nothing_did new born

-- the end has what both ends had, and the number of ends was made one less; not both ends had the turn
abbrev pub JoinedBy : View → View → View → Type 0
JoinedBy v u w = ends.JoinedBy did_both ends_word v u w × ((v.own.runner && u.own.runner) ≡ false)

-- if the flag is false, the end took in the other end and holds what it held; if it is true (the other end has the
-- turn), the other end took in this end, and the result holds what the other end held
abbrev pub Joined : {Q : Type 0} → Bool → Me Q View → Me Q View → Me Q View → Type 0
Joined false me other me' = JoinedBy me.0 other.0 me'.0 × (me'.1 ≡ me.1)
Joined true me other me' = JoinedBy other.0 me.0 me'.0 × (me'.1 ≡ other.1)

-- the position is in this run or taking
abbrev pub IsAmong : ℕ → Batch → Type 0
IsAmong position e = (e.start ≤ position) × (position < e.start + length e.places)

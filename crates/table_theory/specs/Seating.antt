-- The end that a seat is, and the conditions on it.
use Rattle.std.specs.Prelude.{◌≡◌, ◌≤◌}
use Rattle.atomic_table.specs.Seated.{TableId}
use Rattle.atomic_table.specs.declared.shared.Seat.{Seat}
use Rattle.table_theory.specs.declared.views.EndState.{EndState}
use Rattle.table_theory.specs.Sharing.{IsWhole}

-- the same end of the same table
abbrev pub IsSame : {S V : Type 0} → Seat S V → Seat S V → Type 0
IsSame old new = (new.table_id ≡ old.table_id) × (new.id ≡ old.id)

-- the seat is an end of this table
abbrev pub IsOf : {S V : Type 0} → TableId → Seat S V → Type 0
IsOf table seat = seat.table_id ≡ table

-- the end has the whole share: every other end was joined
abbrev pub IsOnly : {S K O : Type 0} → Seat S (EndState K O) → Type 0
IsOnly seat = IsWhole seat.me.0.member.share

-- the end can be split: it has two parts of the share or more
abbrev pub IsDivisible : {S K O : Type 0} → Seat S (EndState K O) → Type 0
IsDivisible seat = 2 ≤ seat.me.0.member.share

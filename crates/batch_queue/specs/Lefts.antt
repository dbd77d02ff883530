-- The items that were left in a closed queue.
use Rattle.std.specs.Prelude.{◌≡◌, ◌+◌, ◌/◌, ◌%◌, ◌<◌, ◌≤◌, ℕ, List, length, slice_index_or}
use Rattle.std.specs.Mem.Slots.{slots_items}
use Rattle.table_theory.specs.Reads.{read_from}
use Rattle.batch_queue.specs.declared.left.LeftItems.{LeftItems}
use Rattle.batch_queue.specs.Layout.{mark_word}
use Rattle.batch_queue.specs.Walks.{LeadsOn}

-- the numbers in the slots of the n positions from p on
abbrev pub left_from : ℕ → List ℕ → ℕ → ℕ → List ℕ
left_from room slots p n = read_from (λ position. slice_index_or slots (position % room) 0) p n

-- the items, in order
abbrev pub items_left : LeftItems → List ℕ
items_left left = left_from left.room (slots_items left.closed.slots) left.start left.count

-- the mark of the place of the item with this number among those left
abbrev pub mark_left : LeftItems → ℕ → ℕ
mark_left left i = slice_index_or (slots_items left.closed.words) (mark_word left.room (left.start + i)) 0

-- by its mark, a batch, or the rest of one, that was published begins with the item i and ends before the item e
abbrev pub IsPublishedFrom : LeftItems → ℕ → ℕ → Type 0
IsPublishedFrom left i e = LeadsOn 0 (left.start + i) (mark_left left i) × (left.start + e ≡ mark_left left i / 2)

-- the item i was published: a batch, or the rest of one, that was published begins with it or before it, and ends after
-- it
abbrev pub IsPublished : LeftItems → ℕ → Type 0
IsPublished left i = (s e : ℕ) × (s ≤ i) × (i < e) × IsPublishedFrom left s e

-- each item left was published
abbrev pub AllPublished : LeftItems → Type 0
AllPublished left = (i : ℕ) → i < length (items_left left) → IsPublished left i

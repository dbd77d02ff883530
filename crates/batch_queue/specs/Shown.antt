-- The words of the table, and the queue that they show.
use Rattle.std.specs.Prelude.{◌≡◌, ℕ, ◌+◌, ◌*◌, ◌/◌, ◌%◌, ◌<◌, ◌≤◌, List, length, slice_index_or}
use Rattle.batch_queue.specs.declared.layout.TheConstants.{POSITIONS}
use Rattle.batch_queue.specs.declared.rule.BatchState.{BatchState}
use Rattle.batch_queue.specs.Layout.{head_word, tail_word, free_word, mark_word, width, IsUsed, mark}
use Rattle.table_theory.specs.Unused.{AreZero}
use Rattle.batch_queue.specs.Object.{items_of, mark_of, phase_at, IsEdge, IsBatch, IsParted, IsRest, IsStop}

-- The meaning of the mark m of a position p of the window. Its half h is at most p + room; if h is not past p, m says
-- nothing of p. If m is even, a batch begins at p or was parted there, ends at h, and is published from p on. If m is
-- odd, the places from p on and before h are given back, and a taking ends at h
pub record MarkSays (o : BatchState) (p m : ℕ) : Type 0 where
  pub up : m % 2 ≡ 0 → (i : ℕ) → p ≤ i → i < m / 2 → 1 ≤ phase_at o i
  pub back : m % 2 ≡ 1 → (i : ℕ) → p ≤ i → i < m / 2 → 3 ≤ phase_at o i
  pub bound : m / 2 ≤ p + o.room
  pub whole : m % 2 ≡ 0 → p < m / 2 → IsStop o p × IsRest o.batches p (m / 2)
  pub whole_back : m % 2 ≡ 1 → p < m / 2 → IsEdge o.takings (m / 2)

-- The words show the head, whether the queue is shut, the tail, the free position, and the marks of the places. Each
-- unused word is 0. The marks show what is published and what is given back
pub record WordsShow (o : BatchState) (words : List ℕ) : Type 0 where
  pub wide : length words ≡ width o.room
  pub bounded : length (items_of o) < POSITIONS
  pub head : slice_index_or words head_word 0 ≡ length (items_of o) + mark o.shut
  pub tail : slice_index_or words tail_word 0 ≡ o.taken
  pub free : slice_index_or words free_word 0 ≡ o.freed
  pub marks : (p : ℕ) → o.freed ≤ p → p < o.freed + o.room
      → MarkSays o p (slice_index_or words (mark_word o.room p) 0)
  pub marks_are : (p : ℕ) → slice_index_or words (mark_word o.room p) 0 ≡ mark_of o p
  -- each batch that is published and not taken has its mark
  pub batch_mark : (p e : ℕ) → IsBatch o.batches p e → p < e → o.taken ≤ p → 1 ≤ phase_at o p
      → slice_index_or words (mark_word o.room p) 0 ≡ 2 * e
  -- the rest of each batch that was parted, from a position not taken on, has its mark
  pub rest_mark : (p : ℕ) → IsParted o p → o.taken ≤ p
      → (e : ℕ) × IsRest o.batches p e × (slice_index_or words (mark_word o.room p) 0 ≡ 2 * e)
  -- each taking of the window that is given back has its mark
  pub taking_mark : (p e : ℕ) → IsBatch o.takings p e → p < e → o.freed ≤ p → 3 ≤ phase_at o p
      → slice_index_or words (mark_word o.room p) 0 ≡ 2 * e + 1
  pub unused : AreZero (IsUsed o.room) words

-- The facts about the table that follow from a load of a place or of a state word.
use Rattle.std.specs.Prelude.{◌≡◌, ◌≢◌, ◌+◌, ◌/◌, ◌%◌, ◌≤◌, ℕ, true, false}
use Rattle.thread_table.specs.Own.{View}
use Rattle.thread_table.specs.Schedules.{elements_after, ring_at, thread_at, element_at}
use Rattle.thread_table.specs.Shown.{StateShows}

-- The place at the tail that the hand had seen was loaded. If its mark is that position plus one, the run there is
-- raised, and the word has its element if it isn't taken yet. Else the run isn't raised, if it isn't taken yet.
pub record Peeked (v : View) (ring found : ℕ) (w : View) : Type 0 where
  pub up : found / 256 ≡ v.own.first + (ring_at (elements_after v.seen.object) ring).taken + 1
      → (ring_at (elements_after w.seen.object) ring).raised (ring_at (elements_after v.seen.object) ring).taken 0
      ≡ true
  pub item : found / 256 ≡ v.own.first + (ring_at (elements_after v.seen.object) ring).taken + 1
      → (ring_at (elements_after w.seen.object) ring).taken ≤ (ring_at (elements_after v.seen.object) ring).taken
      → found % 256
      ≡ element_at (ring_at (elements_after w.seen.object) ring) (ring_at (elements_after v.seen.object) ring).taken
  pub low : found / 256 ≢ v.own.first + (ring_at (elements_after v.seen.object) ring).taken + 1
      → (ring_at (elements_after w.seen.object) ring).taken ≤ (ring_at (elements_after v.seen.object) ring).taken
      → (ring_at (elements_after w.seen.object) ring).raised (ring_at (elements_after v.seen.object) ring).taken 0
      ≡ false

-- the state word shows the element as it was when the hand last looked
abbrev pub StateIs : ℕ → ℕ → View → Type 0
StateIs element word w = StateShows (thread_at (elements_after w.seen.object) element) word

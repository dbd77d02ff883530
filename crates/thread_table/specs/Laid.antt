-- The words of a new table.
use Rattle.std.specs.Prelude.{◌≡◌, ℕ, ◌+◌, ◌*◌, ◌<◌, ◌≤◌, ◌==◌, if◌then◌else◌, List, length, slice_index_or}
use Rattle.table_theory.specs.Unused.{AreZero}
use Rattle.thread_table.specs.declared.layout.TheConstants.{WORDS, RINGS, PLACES}
use Rattle.thread_table.specs.Layout.{head_word, tail_word, places_word, place_word, ready_ring, free_ring, IsUsed}

-- the heads and tails of so many rings are `first`; the head of the free elements' ring is `free` more
pub record RingsLaid (first free rings : ℕ) (old words : List ℕ) : Type 0 where
  pub wide : length words ≡ WORDS
  pub heads : (ring : ℕ) → ring < rings
      → slice_index_or words (head_word ring) 0 ≡ first + (if ring == free_ring then free else 0)
  pub tails : (ring : ℕ) → ring < rings → slice_index_or words (tail_word ring) 0 ≡ first
  pub low : (i : ℕ) → i < head_word ready_ring → slice_index_or words i 0 ≡ slice_index_or old i 0
  pub items : (ring i : ℕ) → ring < RINGS → i < PLACES
      → slice_index_or words (places_word ring + i) 0 ≡ slice_index_or old (places_word ring + i) 0
  pub unused : AreZero IsUsed old → AreZero IsUsed words

-- the places of so many free elements are raised
pub record ItemsLaid (first items : ℕ) (old words : List ℕ) : Type 0 where
  pub wide : length words ≡ WORDS
  pub places : (x : ℕ) → x < items
      → slice_index_or words (place_word free_ring (first + x)) 0 ≡ x + 256 * (first + x + 1)
  pub low : (i : ℕ) → i < places_word free_ring → slice_index_or words i 0 ≡ slice_index_or old i 0
  pub high : (i : ℕ) → places_word free_ring + PLACES ≤ i → slice_index_or words i 0 ≡ slice_index_or old i 0
  pub unused : AreZero IsUsed old → AreZero IsUsed words

-- The words of the table, and the positions of the queue that they show.
use Rattle.std.specs.Prelude.{◌≡◌, ℕ, ◌+◌, ◌<◌, List, length, slice_index_or}
use Rattle.table_theory.specs.declared.positions.TheConstants.{POSITIONS}
use Rattle.table_theory.specs.declared.queues.Positions.{Positions}
use Rattle.table_theory.specs.Positioned.{head_of, tail_of}
use Rattle.table_theory.specs.Rests.{PlacesRest}
use Rattle.table_theory.specs.Unused.{AreZero}
use Rattle.table_theory.specs.Windows.{PlacesShow}
use Rattle.claim_queue.specs.Layout.{head_word, tail_word, width, IsUsed, mark, data_in, flag_in}

-- The words show the queue's head, shut mark, tail, and the places from the tail on. A place that isn't written yet has
-- its numbers of one lap earlier, and an unused word is 0. So the queue determines the number in each word
pub record WordsShow (q : Positions) (words : List ℕ) : Type 0 where
  pub wide : length words ≡ width q.room
  pub bounded : head_of q < POSITIONS
  pub head : slice_index_or words head_word 0 ≡ head_of q + mark q.shut
  pub tail : slice_index_or words tail_word 0 ≡ tail_of q
  pub window : PlacesShow q (flag_in words) (data_in words)
  pub rests : PlacesRest q (flag_in words) (data_in words)
  pub unused : AreZero (IsUsed q.room) words

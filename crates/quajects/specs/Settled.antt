-- The items put in a closed queue and taken from it, by the lines of all its ends.
use Rattle.std.specs.Prelude.{◌≡◌, ◌-◌, ◌<◌, ℕ, List, ◌∷◌, map, drop, length, Option, Some}
use Rattle.std.specs.List.{All, flat_map, sum_by}
use Rattle.claim_queue.specs.declared.ends.QueueEnd.{QueueEnd}
use Rattle.claim_queue.specs.Own.{View}
use Rattle.claim_queue.specs.Handles.{view_of}
use Rattle.claim_queue.specs.Lines.{lines_put, lines_taken, IsSettled}
use Rattle.table_theory.specs.declared.queues.Batch.{Batch}
use Rattle.claim_queue.specs.Closings.{ClosedNow}
use Rattle.claim_queue.specs.Layout.{ends_word}
use Rattle.table_theory.specs.Ledgers.{WereOpen}
use Rattle.table_theory.specs.Listing.{AllRaised}
use Rattle.table_theory.specs.Sharing.{IsWhole}

-- the views of all these ends
abbrev pub views_of : {n : ℕ} → QueueEnd n → List (QueueEnd n) → List View
views_of end others = view_of end ∷ map view_of others

abbrev pub share_of : View → ℕ
share_of v = v.member.share

-- how often the end shut the queue
abbrev pub shuts_of : View → ℕ
shuts_of v = v.own.shuts

-- the end has raised all that it claimed
abbrev pub HasRaised : View → Type 0
HasRaised v = AllRaised v.own.runs

-- the runs that the end claimed, with their positions
abbrev pub runs_of : View → List Batch
runs_of v = v.own.runs

-- the stretches that the end took, with their positions
abbrev pub takings_of : View → List Batch
takings_of v = v.own.takes

-- The end has the lines, the runs, the takings and the shares of all these ends, end by end. It shut the queue as often
-- as they all did. It has raised all that it claimed if each of them has
pub record HasAll (ends : List View) (w : View) : Type 0 where
  pub puts : lines_put w ≡ flat_map lines_put ends
  pub takes : lines_taken w ≡ flat_map lines_taken ends
  pub share : share_of w ≡ sum_by share_of ends
  pub shuts : shuts_of w ≡ sum_by shuts_of ends
  pub runs : runs_of w ≡ flat_map runs_of ends
  pub takings : takings_of w ≡ flat_map takings_of ends
  pub raised : All HasRaised ends → HasRaised w

-- The queue is closed, and these were all its ends. The items put are the lines that the ends put, each once. The first
-- of the items are the lines that the ends took, each once. The other items are left, if each end has raised all that
-- it claimed
pub record SettledNow (ends : List View) (first put taken : ℕ) (left : List (Option ℕ)) : Type 0 where
  pub before : View
  pub has : HasAll ends before
  pub closed : ClosedNow before first put taken left
  pub whole : IsWhole (sum_by share_of ends)
  pub items : List ℕ
  pub put_is : put ≡ length items
  pub settled : IsSettled items taken (flat_map lines_put ends) (flat_map lines_taken ends)
  pub left_number : length left ≡ put - taken
  pub left_is : All HasRaised ends → left ≡ map Some (drop taken items)

-- other ends of the queue remain, and this end has all that these ends had
pub record StillOpen (ends : List View) (others : ℕ) (w : View) : Type 0 where
  pub before : View
  pub had : HasAll ends before
  pub found : WereOpen ends_word before others w
  pub has : HasAll ends w
  pub some_other : 0 < others

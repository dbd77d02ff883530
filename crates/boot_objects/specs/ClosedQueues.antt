-- Queues that were closed, each by its only end.
use Rattle.std.specs.Prelude.{◌≡◌, ◌-◌, ◌≤◌, ℕ, List, map, drop, length, Option, Some}
use Rattle.std.specs.List.{All}
use Rattle.quajects.specs.declared.ports.Port.{Port}
use Rattle.claim_queue.specs.declared.close.Closed.{Closed}
use Rattle.claim_queue.specs.Plain.{ClaimQueue}
use Rattle.claim_queue.specs.declared.ends.QueueEnd.{QueueEnd}
use Rattle.claim_queue.specs.Closings.{ClosedNow}
use Rattle.claim_queue.specs.Handles.{view_of, first_of}
use Rattle.claim_queue.specs.Lines.{IsSettled}
use Rattle.boot_objects.specs.Gains.{Gained}
use Rattle.turn_io.specs.EndLists.{HasRaised, end_puts, end_takes, end_shuts}
use Rattle.stations.specs.Splits.{AllThree}

module _ {n : ℕ} where
  -- The queue is closed by its only end, which has the lines of all. The items put are the lines that the end put, each
  -- once. The first of the items are the lines that the end took, each once. If the end has raised all that it claimed,
  -- the other items are left. The end shut the queue at most once
  pub record IsClosed (queue : ClaimQueue n) (end : QueueEnd n) (closed : Closed n) : Type 0 where
    pub starts : closed.first ≡ first_of queue
    pub now : ClosedNow (view_of end) closed.first closed.put closed.taken closed.left.items
    pub items : List ℕ
    pub put_is : closed.put ≡ length items
    pub settled : IsSettled items closed.taken (end_puts end) (end_takes end)
    pub left_number : length closed.left.items ≡ closed.put - closed.taken
    pub left_is : HasRaised end → closed.left.items ≡ map Some (drop closed.taken items)
    pub shut_once : end_shuts end ≤ 1

  -- each queue is closed by the end at its place
  abbrev pub AreClosed : List (ClaimQueue n) → List (QueueEnd n) → List (Closed n) → Type 0
  AreClosed queues ends closed = AllThree IsClosed queues ends closed

  -- The ends of the queues gained the ends at these ports, and closed their queues. If all ends had raised all that
  -- they claimed, they have at the close too
  pub record HaveClosed (ports : List (Option (Port n))) (queues : List (ClaimQueue n)) (ends last : List (QueueEnd n))
      (closed : List (Closed n)) : Type 0 where
    pub gained : Gained ports ends last
    pub raised : All HasRaised ends → All HasRaised last
    pub each : AreClosed queues last closed

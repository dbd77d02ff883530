-- The work of a processor, turn by turn, and the account of all its turns.
use Rattle.std.specs.Prelude.{◌≡◌, ◌≤◌, ◌+◌, ◌==◌, ℕ, Bool, true, List, [], ◌∷◌, map, filter, length}
use Rattle.std.specs.List.{AllByRecursion, list_any}
use Rattle.boot_data.specs.Hearing.{Key}
use Rattle.boot_data.specs.declared.boot_plan.BootPlan.{BootPlan}
use Rattle.boot_data.specs.declared.plan.QueueIndex.{QueueIndex}
use Rattle.turn_io.specs.Accounts.{AllStaySound, AreInOrder, know_shut}
use Rattle.thread_table.specs.Handles.{view_of}
use Rattle.thread_table.specs.Rules.{done_at}
use Rattle.processor.specs.declared.shared.Shared.{Shared}
use Rattle.processor.specs.declared.station.Parts.{Parts}
use Rattle.processor.specs.Accounts.{Account, nothing, ◌⊕◌, account, seat_parted}
use Rattle.processor.specs.Entries.{LogEntry, entry_account, FollowsPlan, turn_saw_shut}
use Rattle.processor.specs.Points.{Calls, HookedTurns}
use Rattle.processor.specs.Stations.{IsUnused}

-- the account of a log: the sum of its turns, in their order
abbrev pub sum_of : List LogEntry → Account
sum_of [] = nothing
sum_of (entry ∷ log) = entry_account entry ⊕ sum_of log

-- whether a say or a hear of the log was answered that the queue is shut
abbrev pub was_shut : List LogEntry → QueueIndex → Bool
was_shut log queue = list_any (turn_saw_shut queue) log

-- the numbers of the thread's steps in this list, in the list's order
abbrev pub numbers_of : ℕ → List Key → List ℕ
numbers_of thread done = map (λ (key : Key). key.1) (filter (λ (key : Key). thread == key.0) done)

-- the numbers of the thread's steps that were done, in the log's order
abbrev pub numbers_done : List LogEntry → ℕ → List ℕ
numbers_done log thread = numbers_of thread (sum_of log).hand.done

-- The numbers are strictly increasing, from low (inclusive) to high (exclusive). If there are no numbers, low is at
-- most high
abbrev pub Climbs : List ℕ → ℕ → ℕ → Type 0
Climbs [] low high = low ≤ high
Climbs (number ∷ numbers) low high = (low ≤ number) × Climbs numbers (number + 1) high

-- A part of a processor's work: the ends did this, in order, and nothing else. The numbers of a thread's steps done
-- climb from the number that the hand had seen to the number that it sees now. Ends of queues keep what they knew, and
-- still have claimed and taken in order
pub record HasDone (more : Account) (old new : Parts) : Type 0 where
  pub did : account new ≡ account old ⊕ more
  pub order : (thread : ℕ) → Climbs (numbers_of thread more.hand.done) (done_at (view_of old.hand).seen.object thread)
      (done_at (view_of new.hand).seen.object thread)
  pub queues : AllStaySound old.queues new.queues

-- The result of a part of a processor's work: it follows the plan, and the ends did this. If an answer was that a queue
-- is shut, the queue's end knows that
pub record Went (IsPlanned : Type 0) (more : Account) (was_reported : QueueIndex → Bool) (old new : Parts)
    : Type 0 where
  pub planned : IsPlanned
  pub done : HasDone more old new
  pub reported : (queue : QueueIndex) → was_reported queue ≡ true → know_shut new.queues queue ≡ true

-- The result of a processor's turns: each follows the plan, and the ends did the log's sum. If the log has an answer
-- that a queue is shut, the queue's end knows that
abbrev pub Ran : BootPlan → List LogEntry → Parts → Parts → Type 0
Ran plan log old new = Went (AllByRecursion (FollowsPlan plan) log) (sum_of log) (was_shut log) old new

-- The ends of the station have done nothing, and its seat was neither split nor joined. Nothing was heard, and no
-- signal was delivered
pub record IsFresh (parts : Parts) : Type 0 where
  pub did : account parts ≡ nothing
  pub seat : seat_parted parts ≡ (0, 0)
  pub unused : IsUnused parts

-- The state of a fresh station after its turns: the ends did the log's sum, and each turn follows the plan. The numbers
-- of a thread's steps done climb from 0 to the number that the hand has seen. Each end of a queue claimed and took in
-- order, and knows that its queue is shut if the log has that answer. The seat was neither split nor joined
pub record Leaves (plan : BootPlan) (log : List LogEntry) (parts : Parts) : Type 0 where
  pub planned : AllByRecursion (FollowsPlan plan) log
  pub did : account parts ≡ sum_of log
  pub order : (thread : ℕ) → Climbs (numbers_done log thread) 0 (done_at (view_of parts.hand).seen.object thread)
  pub reported : (queue : QueueIndex) → was_shut log queue ≡ true → know_shut parts.queues queue ≡ true
  pub seat : seat_parted parts ≡ (0, 0)
  pub queues : AreInOrder parts.queues

-- Processor p had this many turns. The log has the result of each, in order, and each was reported to the gate. The
-- ends did the log's sum. On a fresh station the turns leave what the log says
pub record RanTurns {G : Type 0} (T : Calls G) (shared : Shared) (p turns : ℕ) (gate gate' : G) (old new : Parts)
    : Type 0 where
  pub log : List LogEntry
  pub many : length log ≡ turns
  pub reported : HookedTurns T shared p 0 log old new gate gate'
  pub ran : Ran shared.plan log old new
  pub leaves : IsFresh old → Leaves shared.plan log new

-- The work of ends at queues and chains, as a sum: the lines, the shuts and the notes, regardless of which end did them
-- and by how many steps. A queue is named by the plan's index.
use Rattle.std.specs.Prelude.{◌≡◌, ◌==◌, ◌+◌, ℕ, if◌then◌else◌, Bool, List, [], ◌++◌, map, length, slice_index_or}
use Rattle.std.specs.Prelude.{◌∷◌, Result, Ok, Err, is_ok, true}
use Rattle.std.specs.List.{All}
use Rattle.boot_data.specs.declared.plan.QueueIndex.{QueueIndex}
use Rattle.boot_data.specs.declared.plan.QueueIndex.TheVariants.{Small, Large}
use Rattle.claim_queue.specs.declared.ends.QueueEnd.{QueueEnd}
use Rattle.claim_queue.specs.declared.rule.QueueOps.{QueueOps}
use Rattle.claim_queue.specs.Handles.{view_of}
use Rattle.claim_queue.specs.Lines.{line_of}
use Rattle.claim_queue.specs.Own.{nothing_did}
use Rattle.proc_chain.specs.declared.chaining.ChainRefusal.{ChainRefusal}
use Rattle.proc_chain.specs.declared.ends.ChainEnd.{ChainEnd}
use Rattle.proc_chain.specs.declared.quaject.Quaject.{Ghosts}
use Rattle.proc_chain.specs.Handles as chains
use Rattle.proc_chain.specs.Notes.{alone, notes_put, notes_taken}
use Rattle.proc_chain.specs.Own.{View}
use Rattle.turn_io.specs.declared.poking.Poked.{Poked}
use Rattle.turn_io.specs.declared.poking.Poked.TheVariants.{Ran, Left}
use Rattle.turn_io.specs.declared.queue_ends.QueueEnds.{QueueEnds}
use Rattle.turn_io.specs.EndLists.{HasRaised, ClaimedInOrder, TookInOrder, knows_shut_at}

-- the work at one queue: the lines put, the lines taken, and how often it was shut
pub record AtQueue : Type 0 where
  pub put : List (List ℕ)
  pub taken : List (List ℕ)
  pub shuts : ℕ

-- nothing was done at a queue
abbrev pub idle_queue : AtQueue
idle_queue = record { put = []; taken = []; shuts = 0 }

-- the work `a` at a queue, followed by the work `b`
abbrev pub both_queue : AtQueue → AtQueue → AtQueue
both_queue a b = record { put = a.put ++ b.put; taken = a.taken ++ b.taken; shuts = a.shuts + b.shuts }

-- the work at one chain: the notes chained, each in a list of its own, and how many were run
pub record AtChain : Type 0 where
  pub notes : List (List ℕ)
  pub ran : ℕ

-- nothing was done at a chain
abbrev pub idle_chain : AtChain
idle_chain = record { notes = []; ran = 0 }

-- the work `a` at a chain, followed by the work `b`
abbrev pub both_chain : AtChain → AtChain → AtChain
both_chain a b = record { notes = a.notes ++ b.notes; ran = a.ran + b.ran }

-- the stake of an end in its object: its work there, and its share
pub record Stake (D : Type 0) : Type 0 where
  pub did : D
  pub share : ℕ

-- an end that did nothing, and has no share
abbrev pub no_stake : {D : Type 0} → D → Stake D
no_stake none = record { did = none; share = 0 }

-- the stakes of two ends, added
abbrev pub both_stakes : {D : Type 0} → (D → D → D) → Stake D → Stake D → Stake D
both_stakes add a b = record { did = add a.did b.did; share = a.share + b.share }

-- the work of an end of a queue, with its runs and takings as lines
abbrev pub lines_of : QueueOps → AtQueue
lines_of did = record { put = map line_of did.runs; taken = map line_of did.takes; shuts = did.shuts }

-- the notes that an end of a chain put, and how many it took
abbrev pub notes_of : View → AtChain
notes_of v = record { notes = notes_put v; ran = length (notes_taken v) }

-- the stake of an end of a queue
abbrev pub stake : {n : ℕ} → QueueEnd n → Stake QueueOps
stake end = record { did = (view_of end).own; share = (view_of end).member.share }

-- the stake of the end of the queue q
abbrev pub stakes : {n : ℕ} → List (QueueEnd n) → ℕ → Stake QueueOps
stakes ends q = slice_index_or (map stake ends) q (no_stake nothing_did)

-- the share that the end of the queue q has
abbrev pub queue_shares : {n : ℕ} → List (QueueEnd n) → ℕ → ℕ
queue_shares ends q = (stakes ends q).share

-- the work of the end of the queue q
abbrev pub queue_account : {n : ℕ} → List (QueueEnd n) → ℕ → AtQueue
queue_account ends q = lines_of (stakes ends q).did

-- the stake of an end of a chain
abbrev pub chain_stake : {Q W : Type 0} {g : Ghosts Q W} → ChainEnd Q W g → Stake AtChain
chain_stake end = record { did = notes_of (chains.view_of end); share = (chains.view_of end).member.share }

-- the stake of the end of the chain q
abbrev pub chain_stakes : {Q W : Type 0} {g : Ghosts Q W} → List (ChainEnd Q W g) → ℕ → Stake AtChain
chain_stakes ends q = slice_index_or (map chain_stake ends) q (no_stake idle_chain)

-- the share that the end of the chain q has
abbrev pub chain_shares : {Q W : Type 0} {g : Ghosts Q W} → List (ChainEnd Q W g) → ℕ → ℕ
chain_shares ends q = (chain_stakes ends q).share

-- the work of the end of the chain q
abbrev pub chain_account : {Q W : Type 0} {g : Ghosts Q W} → List (ChainEnd Q W g) → ℕ → AtChain
chain_account ends q = (chain_stakes ends q).did

-- the sum of two functions at each place
abbrev pub at_each : {I A : Type 0} → (A → A → A) → (I → A) → (I → A) → I → A
at_each add f g q = add (f q) (g q)

-- x at this index, and the rest at any other index
abbrev pub at_one : {A : Type 0} → A → ℕ → A → ℕ → A
at_one rest index x q = if q == index then x else rest

-- by the index of a queue: the one function for the small queues, and the other for the large ones
abbrev pub by_index : {A : Type 0} → (ℕ → A) → (ℕ → A) → QueueIndex → A
by_index small large (Small q) = small q
by_index small large (Large q) = large q

-- the work of the end of each queue
abbrev pub work_of : QueueEnds → QueueIndex → AtQueue
work_of ends = by_index (queue_account ends.small.items) (queue_account ends.large.items)

-- the share that the end of each queue has
abbrev pub shares_of : QueueEnds → QueueIndex → ℕ
shares_of ends = by_index (queue_shares ends.small.items) (queue_shares ends.large.items)

-- whether the end of each queue knows that the queue is shut
abbrev pub know_shut : QueueEnds → QueueIndex → Bool
know_shut ends = by_index (knows_shut_at ends.small.items) (knows_shut_at ends.large.items)

-- x at the queue with this index, and the rest at any other queue
abbrev pub only : {A : Type 0} → A → QueueIndex → A → QueueIndex → A
only rest (Small index) x = by_index (at_one rest index x) (λ q. rest)
only rest (Large index) x = by_index (λ q. rest) (at_one rest index x)

-- how many places a queue has
abbrev pub room_of : QueueIndex → ℕ
room_of (Small q) = 64
room_of (Large q) = 256

-- how many notes were run, by the answer to a poke
abbrev pub notes_run : Result Poked ChainRefusal → ℕ
notes_run (Ok (Ran notes)) = notes
notes_run (Ok Left) = 0
notes_run (Err refusal) = 0

-- the line was put, if the answer is Ok
abbrev pub put_if : {A E : Type 0} → Result A E → List ℕ → AtQueue
put_if answer line = record idle_queue { put = if is_ok answer then line ∷ [] else [] }

-- the line was taken, if the answer is Ok
abbrev pub taken_if : {A E : Type 0} → Result A E → List ℕ → AtQueue
taken_if answer line = record idle_queue { taken = if is_ok answer then line ∷ [] else [] }

-- the queue was shut, if it was open
abbrev pub shut_if : Bool → AtQueue
shut_if was_open = record idle_queue { shuts = if was_open then 1 else 0 }

-- the note was chained, if the answer is Ok, and the answer's number of notes was run
abbrev pub chained_if : Result Poked ChainRefusal → ℕ → AtChain
chained_if answer note = record { notes = if is_ok answer then alone note ∷ [] else []; ran = notes_run answer }

-- the sum is associative, and has this unit on both sides
pub record AddsUp {A : Type 0} (none : A) (add : A → A → A) : Type 0 where
  pub regroups : (a b c : A) → add (add a b) c ≡ add a (add b c)
  pub none_first : (a : A) → add none a ≡ a
  pub none_last : (a : A) → add a none ≡ a

-- The ends of a list stay sound: each has the share that it had. If all had raised all that they claimed, had claimed
-- in order, or had taken in order, they still have. Each that knew that its queue is shut still knows
pub record StaySound {n : ℕ} (old new : List (QueueEnd n)) : Type 0 where
  pub shares : queue_shares new ≡ queue_shares old
  pub raised : All HasRaised old → All HasRaised new
  pub claimed : All ClaimedInOrder old → All ClaimedInOrder new
  pub took : All TookInOrder old → All TookInOrder new
  pub known : (q : ℕ) → knows_shut_at old q ≡ true → knows_shut_at new q ≡ true

-- the ends of all queues stay sound
pub record AllStaySound (old new : QueueEnds) : Type 0 where
  pub small : StaySound old.small.items new.small.items
  pub large : StaySound old.large.items new.large.items

-- each end of a queue claimed its runs one after the other, and took its lines one after the other
pub record AreInOrder (ends : QueueEnds) : Type 0 where
  pub small : All ClaimedInOrder ends.small.items × All TookInOrder ends.small.items
  pub large : All ClaimedInOrder ends.large.items × All TookInOrder ends.large.items

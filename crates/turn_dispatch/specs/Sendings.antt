-- Moves of an element, retried when lost.
use Rattle.std.specs.Prelude.{◌≡◌, ℕ, zero, suc, Bool, true, false, Ok, Err}
use Rattle.thread_table.specs.Layout.{ready_ring, free_ring, wait_ring}
use Rattle.thread_table.specs.Own.{View}
use Rattle.thread_table.specs.declared.moves.MoveRefusal.TheVariants as moves
use Rattle.thread_table.specs.Answers.{MoveAnswer, WaitAnswer}
use Rattle.thread_table.specs.Entries.{HoldsLess}
use Rattle.turn_dispatch.specs.declared.moving.Target.{Target}
use Rattle.turn_dispatch.specs.declared.moving.Target.TheVariants as targets
use Rattle.turn_dispatch.specs.declared.moving.Waited.{Waited}
use Rattle.turn_dispatch.specs.declared.moving.Waited.TheVariants as waited
use Rattle.turn_dispatch.specs.Holdings.{HoldsSame}
use Rattle.turn_dispatch.specs.Tallies.{Tally, no_events, one_retired}

-- the element queue to which an element is moved
abbrev pub ring_of : Target → ℕ
ring_of targets.Ready = ready_ring
ring_of targets.Free = free_ring
ring_of (targets.Wait wait) = wait_ring wait

-- this many tries of a move were lost, one after the other
abbrev pub LostTries : ℕ → ℕ → ℕ → View → View → ℕ → Type 0
LostTries call ring element v w zero = w ≡ v
LostTries call ring element v w (suc n) = (u : View) × LostTries call ring element v u n × (seen : ℕ)
    × MoveAnswer call u ring element (Err (moves.Lost seen)) w

-- the last try: the move was made, or the queue has no position left
abbrev pub LastTry : ℕ → View → ℕ → ℕ → Bool → View → Type 0
LastTry call v ring element true w = MoveAnswer call v ring element (Ok tt) w
LastTry call v ring element false w = MoveAnswer call v ring element (Err moves.Spent) w

-- a move was retried until it wasn't lost
pub record Sent (call ring element : ℕ) (moved : Bool) (v w : View) : Type 0 where
  pub lost : ℕ
  pub before : View
  pub tries : LostTries call ring element v before lost
  pub last : LastTry call before ring element moved w

-- the hand holds the same elements, without this element if it was moved
abbrev pub HoldsUnless : Bool → ℕ → View → View → Type 0
HoldsUnless true element v w = HoldsLess element v w
HoldsUnless false element v w = HoldsSame v w

-- the retirement of an element with this number of steps done, if it was moved
abbrev pub retired : Bool → ℕ → ℕ → Tally
retired true element number = one_retired element number
retired false element number = no_events

-- this many tries of a wait with a ticket were lost, one after the other
abbrev pub LostWaits : ℕ → ℕ → ℕ → ℕ → View → View → ℕ → Type 0
LostWaits call wait element ticket v w zero = w ≡ v
LostWaits call wait element ticket v w (suc n) = (u : View) × LostWaits call wait element ticket v u n × (seen : ℕ)
    × WaitAnswer call u wait element ticket (Err (moves.Lost seen)) w

-- the last try of a wait with a ticket; if the ticket was out of date, the element was then sent to the ready ring
abbrev pub LastWait : ℕ → View → ℕ → ℕ → ℕ → Waited → View → Type 0
LastWait call v wait element ticket waited.Waiting w = WaitAnswer call v wait element ticket (Ok tt) w
LastWait call v wait element ticket waited.Spent w = WaitAnswer call v wait element ticket (Err moves.Spent) w
LastWait call v wait element ticket (waited.Moved mark ready) w = (u : View)
    × WaitAnswer call v wait element ticket (Err (moves.Moved mark)) u × Sent call ready_ring element ready u w

-- a wait with a ticket was retried until it wasn't lost
pub record WaitedAt (call wait element ticket : ℕ) (answer : Waited) (v w : View) : Type 0 where
  pub lost : ℕ
  pub before : View
  pub tries : LostWaits call wait element ticket v before lost
  pub last : LastWait call before wait element ticket answer w

-- whether the element went into a queue
abbrev pub has_gone : Waited → Bool
has_gone waited.Waiting = true
has_gone waited.Spent = false
has_gone (waited.Moved mark ready) = ready

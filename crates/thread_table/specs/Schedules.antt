-- The schedule of a table: the events of all its hands, in the order of their steps.
use Rattle.thread_table.specs.declared.layout.TheConstants.{ELEMENTS, PLACES}
use Rattle.std.specs.Prelude.{◌≡◌, ℕ, zero, suc, ◌<◌, ◌≤◌, true, List, [], ◌∷◌, length}
use Rattle.std.specs.Prelude.{slice_index_or}
use Rattle.std.specs.Result.{result_unwrap_or}
use Rattle.event_theory.specs.Elements.{Elements, Thread, new_thread}
use Rattle.event_theory.specs.Queues.{Queue, empty_queue}
use Rattle.event_theory.specs.Runs.{Run}
use Rattle.event_theory.specs.Schedules.{Reaches}
use Rattle.event_theory.specs.States.{State, first_state, step}
use Rattle.event_theory.specs.declared.event.Event.{Event}
use Rattle.event_theory.specs.declared.names.QueueName.{QueueName}
use Rattle.event_theory.specs.declared.names.QueueName.TheVariants as names
use Rattle.table_theory.specs.declared.views.AbsState.{AbsState}
use Rattle.table_theory.specs.Ledgers.{Step}

-- the state that a step found: a schedule, and how many hands there are
abbrev pub Past : Type 0
Past = AbsState (List Event)

-- the steps and the joins of all hands, in their order
abbrev pub Course : Type 0
Course = List (Step (List Event))

-- the state after these events; an event that isn't allowed changes nothing
unfoldable pub after : State → List Event → State
after s [] = s
after s (event ∷ events) = after (result_unwrap_or (step event s) s) events

-- the core with 64 elements, all of them free
unfoldable pub begun : State
begun = first_state ELEMENTS

unfoldable pub state_after : List Event → State
state_after events = after begun events

-- the thread elements after these events
unfoldable pub elements_after : List Event → Elements
elements_after events = (state_after events).elements

-- each of the events is allowed in its turn
unfoldable pub IsAllowed : List Event → Type 0
IsAllowed events = Reaches begun events (state_after events)

-- an element queue by its number: 0 is the ready ring, 1 the free elements, and 2 and more are the wait queues
abbrev pub ring_at : Elements → ℕ → Queue
ring_at e ring = slice_index_or e.rings ring (empty_queue PLACES)

abbrev pub thread_at : Elements → ℕ → Thread
thread_at e element = slice_index_or e.threads element new_thread

abbrev pub ring_name : ℕ → QueueName
ring_name zero = names.Ready
ring_name (suc zero) = names.Free
ring_name (suc (suc wait)) = names.Wait wait

-- the element of a run, which has exactly one
abbrev pub element_of : Run → ℕ
element_of run = slice_index_or run.items 0 0

abbrev pub no_run : Run
no_run = record { call = 0; items = [] }

-- the element that the run with this number put into a queue
abbrev pub element_at : Queue → ℕ → ℕ
element_at q run = element_of (slice_index_or q.history run no_run)

-- r is q some events later: no run, no taking and no raise is undone, and each run has the same element
pub record QueueGrows (q r : Queue) : Type 0 where
  pub longer : length q.history ≤ length r.history
  pub further : q.taken ≤ r.taken
  pub items : (run : ℕ) → run < length q.history → element_at r run ≡ element_at q run
  pub raised : (run : ℕ) → q.raised run 0 ≡ true → r.raised run 0 ≡ true

-- each element queue of f is that of e some events later
abbrev pub Grows : Elements → Elements → Type 0
Grows e f = (ring : ℕ) → QueueGrows (ring_at e ring) (ring_at f ring)

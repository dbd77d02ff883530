-- The notifies of a wait queue among events, and the head and the tail that a hand has seen of an element queue.
use Rattle.std.specs.Prelude.{◌==◌, ◌+◌, ℕ, Bool, false, List, count_by, length}
use Rattle.event_theory.specs.declared.event.Event.{Event}
use Rattle.event_theory.specs.declared.event.Event.TheVariants as events
use Rattle.thread_table.specs.Own.{View}
use Rattle.thread_table.specs.Schedules.{elements_after, ring_at}

-- the event is a notify of this wait queue
abbrev pub is_notify : ℕ → Event → Bool
is_notify wait (events.NotifyWait call other) = other == wait
is_notify wait event = false

-- how many notifies of the wait queue are among these events
abbrev pub notifies_in : ℕ → List Event → ℕ
notifies_in wait events = count_by (is_notify wait) events

-- the head and the tail of an element queue in what the hand has seen, if the queue's first position is `first`
abbrev pub head_seen : ℕ → View → ℕ → ℕ
head_seen first v ring = first + length (ring_at (elements_after v.seen.object) ring).history

abbrev pub tail_seen : ℕ → View → ℕ → ℕ
tail_seen first v ring = first + (ring_at (elements_after v.seen.object) ring).taken

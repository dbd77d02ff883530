-- Changes of the queue of notes and of the gate: one event at a time. `Chainings` has the events of the core.
use Rattle.std.specs.Prelude.{◌≡◌, ◌≢◌, ℕ, ◌+◌, ◌-◌, ◌<◌, ◌≤◌, false, [], ◌∷◌, length, take, drop, slice_set}
use Rattle.table_theory.specs.declared.queues.Batch.{Batch}
use Rattle.table_theory.specs.declared.queues.Cell.{Cell}
use Rattle.table_theory.specs.declared.queues.Positions.{Positions}
use Rattle.table_theory.specs.Positioned.{Lawful, place_at, item_at, stage_at, head_of, tail_of}
use Rattle.table_theory.specs.Positioned.{with_claim, with_take}
use Rattle.proc_chain.specs.declared.rule.GatedQueue.{GatedQueue}
use Rattle.proc_chain.specs.declared.layout.TheConstants.{PLACES, NOTES, IDLE, RUNNING, MORE}

-- a queue in which nothing was claimed
abbrev pub empty_from : ℕ → Positions
empty_from first = record { first = first; room = PLACES; places = []; taken = 0; shut = false }

-- nothing was claimed, and the gate is Idle
abbrev pub first_queue : ℕ → GatedQueue
first_queue first = record { queue = empty_from first; gate = IDLE }

-- all notes taken were raised, the notes left are within the room, and the gate has one of its three states
abbrev pub IsLawful : GatedQueue → Type 0
IsLawful o = Lawful o.queue × (o.gate ≤ MORE)

-- after an event: this note was claimed, at the head
abbrev pub with_note : GatedQueue → ℕ → GatedQueue
with_note o note = record o { queue = with_claim o.queue (note ∷ []) }

-- after an event: this note was raised at this position
abbrev pub with_raise : GatedQueue → ℕ → ℕ → GatedQueue
with_raise o position note = record o {
  queue = record o.queue {
    places = slice_set o.queue.places (position - o.queue.first) (record { item = note; stage = 2 });
  };
}

-- after an event: the first note left was taken
abbrev pub with_taken : GatedQueue → GatedQueue
with_taken o = record o { queue = with_take o.queue 1 }

-- after an event: the gate was set to this
abbrev pub with_gate : GatedQueue → ℕ → GatedQueue
with_gate o gate = record o { gate = gate }

-- the first note left, as a taking of it
abbrev pub taking : Positions → Batch
taking q = record { start = tail_of q; places = take 1 (drop q.taken q.places) }

-- this position was claimed, and `place` is its place
pub record IsPlace (q : Positions) (position : ℕ) (place : Cell) : Type 0 where
  pub from : q.first ≤ position
  pub below : position < head_of q
  pub is : place_at q (position - q.first) ≡ place

-- one event makes p of o
pub data Becomes (o p : GatedQueue) : Type 0 where
  claimed : (note : ℕ) → note < NOTES → length o.queue.places + 1 ≤ o.queue.taken + o.queue.room
      → o.queue.shut ≡ false → p ≡ with_note o note → Becomes o p
  raised : (at : ℕ) → o.queue.taken ≤ at → at < length o.queue.places → stage_at o.queue at < 2
      → p ≡ with_raise o (o.queue.first + at) (item_at o.queue at) → Becomes o p
  took : 2 ≤ stage_at o.queue o.queue.taken → p ≡ with_taken o → Becomes o p
  notified : p ≡ with_gate o MORE → Becomes o p
  round : o.gate ≢ IDLE → p ≡ with_gate o RUNNING → Becomes o p
  left : o.gate ≡ RUNNING → p ≡ with_gate o IDLE → Becomes o p

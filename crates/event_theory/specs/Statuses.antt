-- The numbers of a state.
use Rattle.std.specs.Prelude.{ℕ, zero, suc, ◌+◌, ◌*◌, Bool, if◌then◌else◌, List, [], ◌∷◌, length, map, count_by}
use Rattle.event_theory.specs.Runs.{flat}
use Rattle.event_theory.specs.Queues.{Queue, left, left_pairs, is_raised}
use Rattle.event_theory.specs.Chains.{Chain}
use Rattle.event_theory.specs.Elements.{Elements, Thread}
use Rattle.event_theory.specs.Places.{place_of}
use Rattle.event_theory.specs.States.{State}
use Rattle.event_theory.specs.declared.status.QueueStatus.{QueueStatus}
use Rattle.event_theory.specs.declared.status.ChainStatus.{ChainStatus}
use Rattle.event_theory.specs.declared.status.ElementStatus.{ElementStatus}
use Rattle.event_theory.specs.declared.status.Status.{Status}

-- the numbers of a queue; only items that are left count as raised
abbrev pub queue_status : Queue → QueueStatus
queue_status q = record {
  capacity = q.capacity;
  runs = length q.history;
  put = length (flat q.history);
  taken = q.taken;
  left = length (left q);
  raised = count_by (is_raised q) (left_pairs q);
  shut = q.shut;
}

abbrev pub chain_status : Chain → ChainStatus
chain_status c = record {
  put = length (flat c.notes.history);
  taken = c.notes.taken;
  left = length (left c.notes);
  gate = c.gate;
}

-- the number of `count` bits whose bit i is set if `bit + i` is in the set
abbrev pub bits_from : ℕ → ℕ → (ℕ → Bool) → ℕ
bits_from zero bit set = 0
bits_from (suc count) bit set = (if set bit then 1 else 0) + 2 * bits_from count (bit + 1) set

abbrev pub element_status : Elements → ℕ → Thread → ElementStatus
element_status s element thread = record {
  place = place_of element s;
  done = thread.done;
  pending = bits_from 16 0 thread.pending;
  stop = thread.stop;
}

abbrev pub element_statuses : Elements → ℕ → List Thread → List ElementStatus
element_statuses s element [] = []
element_statuses s element (thread ∷ threads) =
    element_status s element thread ∷ element_statuses s (element + 1) threads

-- the numbers of a state
abbrev pub status_of : State → Status
status_of s = record {
  events = s.events;
  queues = map queue_status s.queues;
  chains = map chain_status s.chains;
  elements = element_statuses s.elements 0 s.elements.threads;
  gauges = s.meters.gauges;
  clock = s.meters.clock;
  alarms = record { set = length s.meters.set; fired = length s.meters.fired; cancelled = length s.meters.cancelled };
  notified = s.elements.notified;
}

-- The chain of a queue and a gate with a history: which calls made the runs, which call has the turn, and which calls
-- owe a notify. A change is an event of the core for each history of what the step found.
use Rattle.std.specs.Prelude.{◌≡◌, ◌≢◌, ℕ, ◌+◌, Bool, true, false, List, [], ◌∷◌, ◌++◌, slice_set}
use Rattle.std.specs.Prelude.{Option, Some, None, Result, Ok}
use mathlib.Core.Option.{some}
use lib.ListN.{get_elem?}
use Rattle.event_theory.specs.declared.refusal.Refusal.{Refusal}
use Rattle.event_theory.specs.Chains.{Chain, claim_note, raise_note, take_note, notify, round, leave}
use Rattle.event_theory.specs.Chains.{with_number, runner_after, is_forgotten}
use Rattle.event_theory.specs.Lawful.{IsLawfulChain}
use Rattle.table_theory.specs.Filing.{Owned}
use Rattle.table_theory.specs.Listing.{with_stage}
use Rattle.table_theory.specs.Positioned.{head_of, item_at}
use Rattle.table_theory.specs.QueueOf.{IsHistory, queue_of}
use Rattle.table_theory.specs.declared.queues.Batch.{Batch}
use Rattle.proc_chain.specs.declared.rule.GatedQueue.{GatedQueue}
use Rattle.proc_chain.specs.declared.layout.TheConstants.{IDLE, RUNNING, MORE}
use Rattle.proc_chain.specs.Chainings.{gate_of}
use Rattle.proc_chain.specs.Changes.{with_note, with_raise, with_taken, with_gate}
use Rattle.proc_chain.specs.Steps.{run}

-- the runs in the order of their claims, each with its call; the call that has the turn; the calls that owe a notify
pub record History : Type 0 where
  pub runs : List (Owned Batch)
  pub runner : Option ℕ
  pub owing : ℕ → Bool

-- the chain of the core
abbrev pub chain_with : GatedQueue → History → Chain
chain_with o h = record {
  notes = queue_of o.queue h.runs;
  gate = gate_of o.gate;
  runner = h.runner;
  owing = h.owing;
}

-- the runs have each place once, and the chain is lawful
pub record IsHistoryOf (o : GatedQueue) (h : History) : Type 0 where
  pub runs : IsHistory o.queue h.runs
  pub lawful : IsLawfulChain (chain_with o h)

-- this event makes p of o, if o has the history h; then p has the history `left`
pub record IsEventWith (o : GatedQueue) (h : History) (event : Chain → Result Chain Refusal) (p : GatedQueue)
    (left : History) : Type 0 where
  pub made : event (chain_with o h) ≡ Ok (chain_with p left)
  pub history : IsHistoryOf p left

-- the history after a call claimed the next position
abbrev pub with_run : GatedQueue → History → ℕ → ℕ → ℕ → History
with_run o h call number note = record h { runs = h.runs ++ (call, number, run (head_of o.queue) note) ∷ [] }

-- the history after the place `index` of the run k, which is `made`, was raised: its call owes a notify
abbrev pub with_raised : History → ℕ → ℕ → Owned Batch → History
with_raised h k index made = record h {
  runs = slice_set h.runs k (made.0, made.1, with_stage made.2 index 2);
  owing = with_number true made.0 h.owing;
}

-- the raise at this position is the raise of a place of a run, by the call that has the run
pub record IsRaiseOf (o : GatedQueue) (at : ℕ) (h : History) : Type 0 where
  pub number : ℕ
  pub index : ℕ
  pub made : Owned Batch
  pub has : get_elem? h.runs number ≡ some made
  pub is : made.2.start + index ≡ o.queue.first + at
  pub event : IsEventWith o h (raise_note made.0 number index) (with_raise o (o.queue.first + at) (item_at o.queue at))
      (with_raised h number index made)

-- What made p of o is one event of the core, for each history of o. A claim is one of any call. A raise is of the call
-- that has the run. A notify is of any call that owes one. The others are of the call that has the turn, and some call
-- has it. The runner leaves only with no notify forgotten
pub data IsEventOfEach (o p : GatedQueue) : Type 0 where
  is_claim : (note : ℕ) → p ≡ with_note o note
      → ((h : History) → IsHistoryOf o h → (call number : ℕ)
      → IsEventWith o h (claim_note call (note ∷ [])) (with_note o note) (with_run o h call number note))
      → IsEventOfEach o p
  is_raise : (at : ℕ) → p ≡ with_raise o (o.queue.first + at) (item_at o.queue at)
      → ((h : History) → IsHistoryOf o h → IsRaiseOf o at h) → IsEventOfEach o p
  is_taking : p ≡ with_taken o → o.gate ≢ IDLE
      → ((h : History) → IsHistoryOf o h → (call : ℕ) → h.runner ≡ Some call
      → IsEventWith o h (take_note call 1) (with_taken o) h)
      → IsEventOfEach o p
  is_notify : p ≡ with_gate o MORE
      → ((h : History) → IsHistoryOf o h → (call : ℕ) → h.owing call ≡ true
      → IsEventWith o h (notify call) (with_gate o MORE)
      (record h { runner = runner_after call (gate_of o.gate) h.runner; owing = with_number false call h.owing }))
      → IsEventOfEach o p
  is_round : p ≡ with_gate o RUNNING → o.gate ≢ IDLE
      → ((h : History) → IsHistoryOf o h → (call : ℕ) → h.runner ≡ Some call
      → IsEventWith o h (round call) (with_gate o RUNNING) h)
      → IsEventOfEach o p
  is_leave : p ≡ with_gate o IDLE → o.gate ≡ RUNNING
      → ((h : History) → IsHistoryOf o h → (call : ℕ) → h.runner ≡ Some call
      → is_forgotten (chain_with o h) ≡ false
      → IsEventWith o h (leave call) (with_gate o IDLE) (record h { runner = None }))
      → IsEventOfEach o p

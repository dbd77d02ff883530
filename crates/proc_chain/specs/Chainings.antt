-- The chain of the core that a table's positions, its gate and its views describe.
use Rattle.std.specs.Prelude.{◌≡◌, ℕ, zero, suc, Bool, false, if◌then◌else◌, List, [], ◌∷◌, map, slice_set}
use Rattle.std.specs.Prelude.{Option, Some, None, Result, Ok}
use Rattle.std.specs.List.{slice_get}
use Rattle.event_theory.specs.declared.refusal.Refusal.{Refusal}
use Rattle.event_theory.specs.declared.status.Gate.{Gate}
use Rattle.event_theory.specs.declared.status.Gate.TheVariants.{Idle, Running, More}
use Rattle.table_theory.specs.declared.queues.Batch.{Batch}
use Rattle.table_theory.specs.declared.queues.Positions.{Positions}
use Rattle.table_theory.specs.Filing.{Owned}
use Rattle.table_theory.specs.Listing.{ViewsShow}
use Rattle.table_theory.specs.QueueOf.{queue_of}
use Rattle.event_theory.specs.Chains.{Chain}
use Rattle.event_theory.specs.Lawful.{IsLawfulChain}
use Rattle.proc_chain.specs.Own.{View, part_of}
use Rattle.proc_chain.specs.declared.rule.GatedQueue.{GatedQueue}
use Rattle.proc_chain.specs.Gates.{GateShows}

-- the gate of a gate word: IDLE, RUNNING, or else MORE
abbrev pub gate_of : ℕ → Gate
gate_of zero = Idle
gate_of (suc zero) = Running
gate_of (suc (suc n)) = More

-- the number of the first view that has the turn, counted from `number` on; None if no view has it
abbrev pub runner_from : ℕ → List View → Option ℕ
runner_from number [] = None
runner_from number (v ∷ vs) = if v.own.runner then Some number else runner_from (suc number) vs

abbrev pub owes_in : Option View → Bool
owes_in None = false
owes_in (Some v) = v.own.owes

-- the chain of this queue, these runs, this gate and these views; each end is a call, which may have the turn or owe
abbrev pub chain_of : Positions → List (Owned Batch) → ℕ → List View → Chain
chain_of q runs gate views = record {
  notes = queue_of q runs;
  gate = gate_of gate;
  runner = runner_from 0 views;
  owing = λ call. owes_in (slice_get views call);
}

-- the views show the queue and the gate: they list the queue, and they agree with the gate (`GateShows`)
pub record AreShown (o : GatedQueue) (views : List View) : Type 0 where
  pub listed : ViewsShow o.queue (map part_of views)
  pub gate : GateShows o.queue o.gate views

-- This event makes p of o. The gate and these views show o as a lawful chain. The views show p after the view of the
-- end `seat` is replaced by w
pub record IsChainEvent (o p : GatedQueue) (views : List View) (shown : AreShown o views) (seat : ℕ) (w : View)
    (event : Chain → Result Chain Refusal) : Type 0 where
  pub new_shown : ViewsShow p.queue (slice_set (map part_of views) seat (part_of w))
  pub lawful : IsLawfulChain (chain_of o.queue shown.listed.lists.runs o.gate views)
  pub made : event (chain_of o.queue shown.listed.lists.runs o.gate views)
      ≡ Ok (chain_of p.queue new_shown.lists.runs p.gate (slice_set views seat w))

-- The ends that devices had, joined to the ends of their queues and chains.
use Rattle.std.specs.Prelude.{◌≡◌, ◌+◌, ◌<◌, ℕ, List, [], ◌∷◌, length, Option, Some}
use Rattle.std.specs.List.{slice_get}
use Rattle.boot_data.specs.QueueLists.{raw_queue}
use Rattle.boot_objects.specs.Gains.{Gained, ChainsGained, note_stake}
use Rattle.turn_io.specs.Accounts.{AtQueue, idle_queue, both_queue, Stake, no_stake, both_stakes, at_one}
use Rattle.processor.specs.declared.shared.Shared.{Shared}
use Rattle.processor.specs.declared.station.Parts.{Parts}
use Rattle.processor.specs.RawEnds.{IsRawAt}
use Rattle.quajects.specs.declared.ports.Port.{Port}
use Rattle.quajects.specs.declared.raw.RawTty.{RawTty}
use Rattle.quajects.specs.Ports.{port}
use Rattle.quajects.specs.Raws.{end_of}

-- the ends of these raw ttys at their queues; `raw` is the index of the first tty's queue
abbrev pub raw_ports : ℕ → List RawTty → List (Option (Port 64))
raw_ports raw [] = []
raw_ports raw (tty ∷ ttys) = Some (port raw (end_of tty)) ∷ raw_ports (raw + 1) ttys

-- the stake of the raw ttys' ends in the chain k; `chain` is the index of the first tty's chain
abbrev pub raw_notes : ℕ → List RawTty → ℕ → Stake AtQueue
raw_notes chain [] k = no_stake idle_queue
raw_notes chain (tty ∷ ttys) k = both_stakes both_queue
    (at_one (no_stake idle_queue) chain (note_stake tty.chain) k) (raw_notes (chain + 1) ttys k)

-- these are the raw ttys of the plan's ttys, in their order
abbrev pub AreRawsOf : Shared → List RawTty → Type 0
AreRawsOf shared ttys = (k : ℕ) (tty : RawTty) → slice_get ttys k ≡ Some tty
    → IsRawAt shared (raw_queue (length shared.plan.queues) k) (length shared.plan.movers + k) tty

-- The ends of these raw ttys were joined to the ends of their queues and chains. The first tty's queue and chain have
-- these indexes. The ends of the chains before those, and all other parts, are as they were
pub record TookRaws (raw chain : ℕ) (ttys : List RawTty) (old new : Parts) : Type 0 where
  pub small : Gained (raw_ports raw ttys) old.queues.small.items new.queues.small.items
  pub chains : ChainsGained (raw_notes chain ttys) old.chains.items new.chains.items
  pub before : (k : ℕ) → k < chain → slice_get new.chains.items k ≡ slice_get old.chains.items k
  pub rest : new ≡ record old { queues = record old.queues { small = new.queues.small }; chains = new.chains }

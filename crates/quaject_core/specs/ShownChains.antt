-- The chain that the machine stores.
use Rattle.std.specs.Prelude.{Result}
use Rattle.event_theory.specs.Chains.{Chain}
use Rattle.quaject_core.specs.Layout.{set_of}
use Rattle.quaject_core.specs.Shown.{queue}
use Rattle.event_theory.specs.Results.{Changes}
use Rattle.event_theory.specs.declared.refusal.Refusal.{Refusal}
use Rattle.quaject_core.specs.declared.chaining.StoredChain.{StoredChain}

-- the chain that a stored chain represents
abbrev pub chain : StoredChain → Chain
chain stored = record {
  notes = queue stored.notes;
  gate = stored.gate;
  runner = stored.runner;
  owing = set_of stored.owing;
}

-- the event was applied to the stored chain, or it was refused and nothing changed
abbrev pub Does : Result (Unit {0}) Refusal → (Chain → Result Chain Refusal) → StoredChain → StoredChain → Type 0
Does result event old new = Changes result (event (chain old)) (chain old) (chain new)

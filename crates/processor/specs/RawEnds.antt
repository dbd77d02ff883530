-- The ends that a device has, among the shared objects.
use Rattle.std.specs.Prelude.{◌≡◌, ◌<◌, ℕ, List, length, Some}
use Rattle.std.specs.List.{slice_get}
use Rattle.proc_chain.specs.declared.ends.ChainEnd.{ChainEnd}
use Rattle.proc_chain.specs.declared.ends.ProcChain.{ProcChain}
use Rattle.proc_chain.specs.declared.quaject.Quaject.{Ghosts}
use Rattle.proc_chain.specs.Handles.{IsEndOf}
use Rattle.quajects.specs.declared.raw.RawTty.{RawTty}
use Rattle.quajects.specs.Ports.{IsEndAt}
use Rattle.quajects.specs.Raws.{end_of}
use Rattle.processor.specs.declared.shared.Shared.{Shared}

module _ {Q W : Type 0} {g : Ghosts Q W} where
  -- the index names a chain, and the end is one of that chain's
  pub record IsChainEndAt (list : List (ProcChain Q W)) (index : ℕ) (end : ChainEnd Q W g) : Type 0 where
    pub named : index < length list
    pub its : (chain : ProcChain Q W) → slice_get list index ≡ Some chain → IsEndOf chain end

-- the raw tty's ends are those of the small queue and the chain with these indexes
abbrev pub IsRawAt : Shared → ℕ → ℕ → RawTty → Type 0
IsRawAt shared raw chain tty =
    IsEndAt shared.queues.small.items raw (end_of tty) × IsChainEndAt shared.chains.items chain tty.chain

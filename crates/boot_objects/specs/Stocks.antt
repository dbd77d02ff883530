-- The ends from which others are split off: one of each object, in order, with the share of each.
use Rattle.std.specs.Prelude.{◌≡◌, ℕ, ◌+◌, ◌*◌, ◌<◌, ◌≤◌, List, [], length, map, slice_index_or}
use Rattle.std.specs.List.{AllZip}
use Rattle.claim_queue.specs.Plain.{ClaimQueue}
use Rattle.claim_queue.specs.declared.ends.QueueEnd.{QueueEnd}
use Rattle.claim_queue.specs.Handles as queues
use Rattle.proc_chain.specs.declared.quaject.Quaject.{Ghosts}
use Rattle.proc_chain.specs.declared.ends.ProcChain.{ProcChain}
use Rattle.proc_chain.specs.declared.ends.ChainEnd.{ChainEnd}
use Rattle.proc_chain.specs.Handles as chains
use Rattle.quajects.specs.Ports.{IsUnused}
use Rattle.table_theory.specs.declared.shares.TheConstants.{MOST_GIVEN}
use Rattle.turn_io.specs.EndLists.{end_share, end_shuts, chain_end_share, chain_end_puts, chain_end_takes, IsIdle}

-- A part of each of these shares was given away, no more than so many splits give, and the rest was kept
pub record Gave (splits : ℕ) (part : ℕ → ℕ) (old new : List ℕ) : Type 0 where
  pub long : length new ≡ length old
  pub rest : (q : ℕ) → slice_index_or new q 0 + part q ≡ slice_index_or old q 0
  pub few : (q : ℕ) → part q ≤ splits * MOST_GIVEN

-- each of these shares can be split so many times
abbrev pub CanGive : ℕ → List ℕ → Type 0
CanGive splits shares = (q : ℕ) → q < length shares → splits * MOST_GIVEN + 2 ≤ slice_index_or shares q 0

module _ {n : ℕ} where
  -- an end of this queue that has put and taken no line, and shut nothing
  pub record IsIdleEnd (queue : ClaimQueue n) (end : QueueEnd n) : Type 0 where
    pub its : queues.IsEndOf queue end
    pub unused : IsUnused (queues.view_of end)
    pub shuts : end_shuts end ≡ 0

  -- an idle end of each queue, in the order of the queues
  abbrev pub IsStock : List (ClaimQueue n) → List (QueueEnd n) → Type 0
  IsStock queues ends = AllZip IsIdleEnd queues ends

  abbrev pub shares : List (QueueEnd n) → List ℕ
  shares ends = map end_share ends

module _ {Q W : Type 0} {g : Ghosts Q W} where
  -- an end of this chain that has chained and run no note, and has no Turn
  pub record IsIdleChainEnd (chain : ProcChain Q W) (end : ChainEnd Q W g) : Type 0 where
    pub its : chains.IsEndOf chain end
    pub idle : IsIdle end
    pub puts : chain_end_puts end ≡ []
    pub takes : chain_end_takes end ≡ []

  -- an idle end of each chain, in the order of the chains
  abbrev pub IsChainStock : List (ProcChain Q W) → List (ChainEnd Q W g) → Type 0
  IsChainStock chains ends = AllZip IsIdleChainEnd chains ends

  abbrev pub chain_shares : List (ChainEnd Q W g) → List ℕ
  chain_shares ends = map chain_end_share ends

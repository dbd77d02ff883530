-- Lists of ends that match lists of objects: one end of each object, in the same order.
use Rattle.std.specs.Prelude.{◌≡◌, ℕ, Bool, false, List, [], map, Some, slice_set, slice_index_or}
use Rattle.std.specs.List.{All, slice_get}
use Rattle.atomic_table.specs.Seated.{TableId}
use Rattle.table_theory.specs.Listing.{AllRaised}
use Rattle.claim_queue.specs.Plain.{ClaimQueue}
use Rattle.claim_queue.specs.declared.ends.QueueEnd.{QueueEnd}
use Rattle.claim_queue.specs.Handles as queues
use Rattle.claim_queue.specs.Lines.{lines_put, lines_taken}
use Rattle.claim_queue.specs.Orders.{ClaimsInOrder, TakesInOrder}
use Rattle.proc_chain.specs.declared.quaject.Quaject.{Ghosts}
use Rattle.proc_chain.specs.declared.ends.ProcChain.{ProcChain}
use Rattle.proc_chain.specs.declared.ends.ChainEnd.{ChainEnd}
use Rattle.proc_chain.specs.Handles as chains
use Rattle.proc_chain.specs.Notes.{notes_put, notes_taken}

-- the end with this index did this, and the other ends nothing
pub record OnEnd {E : Type 0} (index : ℕ) (Does : E → E → Type 0) (old new : List E) : Type 0 where
  pub end : E
  pub after : E
  pub was : slice_get old index ≡ Some end
  pub does : Does end after
  pub now : new ≡ slice_set old index after

-- the ends have the same tables and numbers as before
pub record AreSame {E : Type 0} (table : E → TableId) (call : E → ℕ) (old new : List E) : Type 0 where
  pub tables : map table new ≡ map table old
  pub calls : map call new ≡ map call old

module _ {n : ℕ} where
  abbrev pub queue_table : ClaimQueue n → TableId
  queue_table queue = queue.table.shared.table_id

  abbrev pub end_table : QueueEnd n → TableId
  end_table end = end.seat.table_id

  abbrev pub end_call : QueueEnd n → ℕ
  end_call end = queues.call_of end

  abbrev pub end_puts : QueueEnd n → List (List ℕ)
  end_puts end = lines_put (queues.view_of end)

  abbrev pub end_takes : QueueEnd n → List (List ℕ)
  end_takes end = lines_taken (queues.view_of end)

  abbrev pub end_share : QueueEnd n → ℕ
  end_share end = (queues.view_of end).member.share

  abbrev pub end_shuts : QueueEnd n → ℕ
  end_shuts end = (queues.view_of end).own.shuts

  -- whether the queue was shut when the end last looked
  abbrev pub end_knows_shut : QueueEnd n → Bool
  end_knows_shut end = (queues.view_of end).seen.object.shut

  -- the end has raised all that it claimed
  abbrev pub HasRaised : QueueEnd n → Type 0
  HasRaised end = AllRaised (queues.view_of end).own.runs

  -- the end claimed its runs one after the other
  abbrev pub ClaimedInOrder : QueueEnd n → Type 0
  ClaimedInOrder end = ClaimsInOrder (queues.view_of end)

  -- the end took its lines one after the other
  abbrev pub TookInOrder : QueueEnd n → Type 0
  TookInOrder end = TakesInOrder (queues.view_of end)

  abbrev pub IsDivisible : QueueEnd n → Type 0
  IsDivisible end = queues.IsDivisible end

  -- the ends are those of the queues, in their order
  abbrev pub AreEndsOf : List (ClaimQueue n) → List (QueueEnd n) → Type 0
  AreEndsOf queues ends = map end_table ends ≡ map queue_table queues

  -- both are the same ends of the same queues
  abbrev pub AreSameEnds : List (QueueEnd n) → List (QueueEnd n) → Type 0
  AreSameEnds old new = AreSame end_table end_call old new

  -- the share of the end of the queue q
  abbrev pub share_at : List (QueueEnd n) → ℕ → ℕ
  share_at ends q = slice_index_or (map end_share ends) q 0

  -- whether the end of the queue q knows that the queue is shut
  abbrev pub knows_shut_at : List (QueueEnd n) → ℕ → Bool
  knows_shut_at ends q = slice_index_or (map end_knows_shut ends) q false

module _ {Q W : Type 0} where
  abbrev pub chain_table : ProcChain Q W → TableId
  chain_table chain = chain.table.shared.table_id

  -- this is the world of each of the chains
  abbrev pub AreChainsOver : W → List (ProcChain Q W) → Type 0
  AreChainsOver world list = All (λ chain. chains.world_of chain ≡ world) list

module _ {Q W : Type 0} {g : Ghosts Q W} where
  abbrev pub chain_end_table : ChainEnd Q W g → TableId
  chain_end_table end = end.seat.table_id

  abbrev pub chain_end_call : ChainEnd Q W g → ℕ
  chain_end_call end = end.seat.id

  abbrev pub chain_end_puts : ChainEnd Q W g → List (List ℕ)
  chain_end_puts end = notes_put (chains.view_of end)

  abbrev pub chain_end_takes : ChainEnd Q W g → List (List ℕ)
  chain_end_takes end = notes_taken (chains.view_of end)

  abbrev pub chain_end_share : ChainEnd Q W g → ℕ
  chain_end_share end = (chains.view_of end).member.share

  abbrev pub IsChainDivisible : ChainEnd Q W g → Type 0
  IsChainDivisible end = chains.IsDivisible end

  -- the end has no Turn, and holds nothing
  abbrev pub IsIdle : ChainEnd Q W g → Type 0
  IsIdle end = (chains.turn_of end ≡ false) × ((chains.me_of end).1 ≡ [])

  -- the ends are those of the chains, in their order, and none has a Turn
  pub record AreChainEndsOf (list : List (ProcChain Q W)) (ends : List (ChainEnd Q W g)) : Type 0 where
    pub tables : map chain_end_table ends ≡ map chain_table list
    pub idle : All IsIdle ends

  -- both are the same ends of the same chains
  abbrev pub AreSameChainEnds : List (ChainEnd Q W g) → List (ChainEnd Q W g) → Type 0
  AreSameChainEnds old new = AreSame chain_end_table chain_end_call old new

  -- the share of the end of the chain q
  abbrev pub chain_share_at : List (ChainEnd Q W g) → ℕ → ℕ
  chain_share_at ends q = slice_index_or (map chain_end_share ends) q 0

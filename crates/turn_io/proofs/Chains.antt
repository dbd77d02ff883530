-- One end of a list of chain ends is used.
use Rattle.turn_io.proofs.Common.{◌≡◌, ℕ, ◌<◌, List, length, get_or, set, sym, ap, subst, ◌∙◌, arith, Some, Result, All, slice_get-get_or, ChainRefusal, ChainEnd, ProcChain, Ghosts, chain_table, chain_end_table, chain_end_call, IsIdle, AreChainEndsOf, AreSameChainEnds, true≢false, Poked, HasPoked, OnEnd, PokedAt, AreChainsOver}
use Rattle.proc_chain.specs.Handles.{world_of, IsEndOf, IsSameEnd}
use Rattle.turn_io.proofs.Places.{same_at, as_long, same_ends, on_end, all_still}

-- a fact about each end holds of the one that is used
one_of : {A : Type 0} (P : A → Type 0) (xs : List A) (q : ℕ) (x : A) → All P xs → q < length xs → x ≡ get_or xs q x → P x
one_of P xs q x h below is = subst P (sym is) (h q x below)

module _ {Q W : Type 0} where
  pub its_world : (world : W) (chains : List (ProcChain Q W)) (q : ℕ) (chain : ProcChain Q W) → AreChainsOver world chains → q < length chains → chain ≡ get_or chains q chain → world_of chain ≡ world
  its_world world chains q chain over below is = one_of (λ c. world_of c ≡ world) chains q chain over below is

module _ {Q W : Type 0} {g : Ghosts Q W} where
  pub in_ends : (chains : List (ProcChain Q W)) (ends : List (ChainEnd Q W g)) (q : ℕ) → AreChainEndsOf chains ends → q < length chains → q < length ends
  in_ends chains ends q fit below = let long = as_long chain_end_table chain_table ends chains fit.tables in omega arith

  -- an end of the chain's table without a Turn is an end of the chain
  pub idle_end : (chain : ProcChain Q W) (end : ChainEnd Q W g) → end.seat.table_id ≡ chain.table.shared.table_id → IsIdle end → IsEndOf chain end
  idle_end chain end same idle = (same, ((λ runs. absurd (true≢false (sym runs ∙ (end.turned ∙ idle.0)))), (λ rests. idle.1)))

  pub is_idle : (chains : List (ProcChain Q W)) (ends : List (ChainEnd Q W g)) (q : ℕ) (end : ChainEnd Q W g) → AreChainEndsOf chains ends → q < length chains → end ≡ get_or ends q end → IsIdle end
  is_idle chains ends q end fit below is = one_of IsIdle ends q end fit.idle (in_ends chains ends q fit below) is

  pub its_end : (chains : List (ProcChain Q W)) (ends : List (ChainEnd Q W g)) (q : ℕ) (chain : ProcChain Q W) (end : ChainEnd Q W g) → AreChainEndsOf chains ends → q < length chains → end ≡ get_or ends q end → chain ≡ get_or chains q chain → IsEndOf chain end
  its_end chains ends q chain end fit below is is' = idle_end chain end (same_at chain_end_table chain_table ends chains fit.tables q below end chain is is') (is_idle chains ends q end fit below is)

  module _ (chains : List (ProcChain Q W)) (ends : List (ChainEnd Q W g)) (q : ℕ) (end after : ChainEnd Q W g) (fit : AreChainEndsOf chains ends) (below : q < length chains) (is : end ≡ get_or ends q end) where
    pub ends_same : IsSameEnd end after → AreSameChainEnds ends (set ends q after)
    ends_same same = same_ends ends q end after is chain_end_table chain_end_call same

    pub ends_fit : IsSameEnd end after → IsIdle after → AreChainEndsOf chains (set ends q after)
    ends_fit same idle = record { tables = (ends_same same).tables ∙ fit.tables; idle = all_still IsIdle ends q end after (in_ends chains ends q fit below) is (λ was. idle) fit.idle }

    pub end_did : (Does : ChainEnd Q W g → ChainEnd Q W g → Type 0) → Does end after → OnEnd q Does ends (set ends q after)
    end_did Does does = on_end ends q end after is Does (in_ends chains ends q fit below) does

    pub poked_at : (chain : ProcChain Q W) (note : ℕ) (answer : Result Poked ChainRefusal) → chain ≡ get_or chains q chain → HasPoked chain note answer end after → PokedAt chains q note answer ends (set ends q after)
    poked_at chain note answer is' does = record {
      chain = chain;
      its = slice_get-get_or chains q chain below ∙ ap Some (sym is');
      on = end_did (HasPoked chain note answer) does;
    }

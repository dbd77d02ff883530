-- Ends of chains without a Turn.
use Rattle.stations.proofs.Common.{◌≡◌, Bool, false, subst, ◌∙◌, ◌||◌, ChainEnd, Ghosts, me_of, view_of, turn_of, IsEndOf, IsIdle}
use Rattle.proc_chain.specs.declared.ends.ProcChain.{ProcChain}
use Rattle.proc_chain.specs.Endings.{JoinedBy, Joined}

module _ {Q W : Type 0} {g : Ghosts Q W} where
  -- an end of a chain that has no Turn holds nothing
  pub rests : (chain : ProcChain Q W) (end : ChainEnd Q W g) → IsEndOf chain end → turn_of end ≡ false → IsIdle end
  rests chain end its turn = (turn, its.1.1 (end.turned ∙ turn))

  -- an end that took in one without a Turn
  pub took_in : (end other after : ChainEnd Q W g) → IsIdle other → Joined (turn_of other) (me_of end) (me_of other) (me_of after) → JoinedBy (view_of end) (view_of other) (view_of after) × ((me_of after).1 ≡ (me_of end).1)
  took_in end other after idle j = subst (λ (z : Bool). Joined z (me_of end) (me_of other) (me_of after)) idle.0 j

  pub still_idle : (end other after : ChainEnd Q W g) → IsIdle end → IsIdle other → turn_of after ≡ (turn_of other || turn_of end) → (me_of after).1 ≡ (me_of end).1 → IsIdle after
  still_idle end other after idle idle' turn held = (turn ∙ (λ i. idle'.0 i || idle.0 i), held ∙ idle.1)

use Rattle.turn_dispatch.proofs.Common.{view_of, call_of, IsSameHand, has, LostTries, ring_of, ◌≡◌, ℕ, true}
use Rattle.turn_dispatch.proofs.moving.send.Given as goal

abbrev pub invariant-loop : goal.invariant-loop
invariant-loop g l = IsSameHand l.fn.hand l.hand × (has (view_of l.hand) l.element ≡ true)
    × ((n : ℕ) × LostTries (call_of l.fn.hand) (ring_of l.target) l.element (view_of l.fn.hand) (view_of l.hand) n)

use Rattle.turn_dispatch.proofs.Common.{view_of, call_of, IsSameHand, has, LostWaits, ◌≡◌, ℕ, true}
use Rattle.turn_dispatch.proofs.moving.wait_or_ready.Given as goal

abbrev pub invariant-loop : goal.invariant-loop
invariant-loop g l = IsSameHand l.fn.hand l.hand × (has (view_of l.hand) l.element ≡ true)
    × ((n : ℕ) × LostWaits (call_of l.fn.hand) l.wait l.element l.ticket (view_of l.fn.hand) (view_of l.hand) n)

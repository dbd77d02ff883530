use Rattle.turn_dispatch.proofs.Common.{view_of, call_of, IsSameHand}
use Rattle.turn_dispatch.proofs.Wakes.{Sending}
use Rattle.turn_dispatch.proofs.waking.ready_all.Given as goal

abbrev pub invariant-loop-number : goal.invariant-loop-number
invariant-loop-number g l = IsSameHand l.fn.hand l.hand
    × Sending (call_of l.fn.hand) l.taken l.ready l.number (view_of l.fn.hand) (view_of l.hand)

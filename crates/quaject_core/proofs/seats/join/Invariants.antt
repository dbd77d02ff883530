use Rattle.quaject_core.proofs.Common.{◌≡◌, option_map, join_hold}
use Rattle.quaject_core.proofs.Lists.Mapped.{mapped}
use Rattle.quaject_core.proofs.seats.join.Given as goal

-- The seats so far are renamed.
abbrev pub invariant-loop-seat : goal.invariant-loop-seat
invariant-loop-seat l = l.processors ≡ mapped (option_map (join_hold l.call l.other)) l.seat-index l.fn.processors

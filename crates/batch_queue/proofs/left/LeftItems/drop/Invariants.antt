use Rattle.batch_queue.proofs.Common.{false, get_or, ℕ, ◌<◌, ◌≡◌}
use Rattle.std.specs.Mem.Slots.{slots_filled, slots_len}
use Rattle.std.specs.Mem.Slots.Ownership.{Filled}
use Rattle.batch_queue.proofs.left.LeftItems.drop.Given as goal

abbrev pub invariant-loop-slot : goal.invariant-loop-slot
invariant-loop-slot l = Filled (slots_filled l.closed.slots) l.slot (slots_len l.closed.slots) × ((k : ℕ) → k < l.slot → get_or (slots_filled l.closed.slots) k false ≡ false) × (l.count ≡ slots_len l.closed.slots)

use Rattle.boot_picture.proofs.Common.{length, ◌-◌, ◌≡◌, ◌≤◌, ◌<◌, All, IsNonDecreasingBy, IsTimed, time_of}
use Rattle.boot_picture.proofs.Clocks.{IsLastBelow}
use Rattle.boot_picture.proofs.Orders.{HasTaken}
use Rattle.boot_picture.proofs.order.order_of.Given as goal

-- the blocks of each processor before its next one are in the order
abbrev pub invariant-loop-nexts : goal.invariant-loop-nexts
invariant-loop-nexts l = record { as_many : length l.nexts.items ≡ length l.tracks; few : length l.order.items ≤ 2000; of_tracks : All (λ o. o.processor < length l.tracks) l.order.items; taken : HasTaken l.tracks l.nexts.items l.order.items; timed : All IsTimed l.tracks → IsNonDecreasingBy (time_of l.tracks) l.order.items × IsLastBelow l.tracks l.nexts.items l.order.items }

abbrev pub decreases-loop-nexts : goal.decreases-loop-nexts
decreases-loop-nexts l = 2000 - length l.order.items

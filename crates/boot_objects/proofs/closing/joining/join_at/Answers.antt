use Rattle.boot_objects.proofs.Common.{arith, IsJoined, used_at, IsEndOf, its_end, in_ends, ends_same, ends_fit}
use Rattle.boot_objects.proofs.Gaining.{its_own, gained_at, known_at}
use Rattle.boot_objects.proofs.closing.joining.join_at.Goals as goal

pub join-requires : goal.join-requires
join-requires g c = (
  omega arith,
  (
    omega arith,
    (
      its_end c.args.queues.now c.args.ends.now c.args.index _ _ c.requires.ends c.requires.other.named c.item_at.ensures.value c.index-queues-index.is,
      its_own (λ queue. IsEndOf queue c.args.other) c.args.queues.now c.args.index c.index-queues-index.result c.requires.other.named c.requires.other.its c.index-queues-index.is,
    ),
  ),
)

pub returns-clause-handle : goal.returns-clause-handle
returns-clause-handle g c = ends_same c.args.queues.now c.args.ends.now c.args.index _ c.join.new.end c.requires.ends c.item_at.ensures.value c.join.ensures.handle

pub returns-clause-ends : goal.returns-clause-ends
returns-clause-ends g c = ends_fit c.args.queues.now c.args.ends.now c.args.index _ c.join.new.end c.requires.ends c.item_at.ensures.value c.join.ensures.handle

pub returns-clause-joined : goal.returns-clause-joined
returns-clause-joined g c = used_at c.args.queues.now c.args.ends.now c.args.index _ c.join.new.end c.requires.ends c.item_at.ensures.value (λ old new. IsJoined old new c.args.other) c.requires.other.named c.join.ensures.trace

pub returns-clause-gained : goal.returns-clause-gained
returns-clause-gained g c = gained_at c.args.ends.now c.args.index c.item_at.result.now c.join.new.end c.args.other
    (in_ends c.args.queues.now c.args.ends.now c.args.index c.requires.ends c.requires.other.named) c.item_at.ensures.value c.join.ensures.trace

pub returns-clause-known : goal.returns-clause-known
returns-clause-known g c = known_at c.args.ends.now c.args.index c.item_at.result.now c.join.new.end c.args.other
    (in_ends c.args.queues.now c.args.ends.now c.args.index c.requires.ends c.requires.other.named) c.item_at.ensures.value c.join.ensures.trace

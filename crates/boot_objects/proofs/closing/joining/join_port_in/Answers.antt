use Rattle.boot_objects.proofs.Common.{arith, IsJoined, used_at, IsEndOf, its_end, in_ends, ends_same, ends_fit}
use Rattle.boot_objects.proofs.Gaining.{its_own, gained_at}
use Rattle.boot_objects.proofs.closing.joining.join_port_in.Goals as goal

pub join_into-requires : goal.join_into-requires
join_into-requires g c = (
  omega arith,
  (
    omega arith,
    (
      omega arith,
      (
        its_end c.args.queues.now c.args.ends.now c.args.index _ _ c.requires.ends c.requires.other.named c.item_at.ensures.value c.index-queues-index.is,
        its_own (λ queue. IsEndOf queue c.args.port.end) c.args.queues.now c.args.index c.index-queues-index.result c.requires.other.named c.requires.other.its c.index-queues-index.is,
      ),
    ),
  ),
)

pub returns-clause-handle : goal.returns-clause-handle
returns-clause-handle g c = ends_same c.args.queues.now c.args.ends.now c.args.index _ c.join_into.new.end c.requires.ends c.item_at.ensures.value c.join_into.ensures.handle

pub returns-clause-ends : goal.returns-clause-ends
returns-clause-ends g c = ends_fit c.args.queues.now c.args.ends.now c.args.index _ c.join_into.new.end c.requires.ends c.item_at.ensures.value c.join_into.ensures.handle

pub returns-clause-joined : goal.returns-clause-joined
returns-clause-joined g c = used_at c.args.queues.now c.args.ends.now c.args.index _ c.join_into.new.end c.requires.ends c.item_at.ensures.value (λ old new. IsJoined old new c.args.port.end) c.requires.other.named c.join_into.ensures.joined

pub returns-clause-gained : goal.returns-clause-gained
returns-clause-gained g c = gained_at c.args.ends.now c.args.index c.item_at.result.now c.join_into.new.end c.args.port.end
    (in_ends c.args.queues.now c.args.ends.now c.args.index c.requires.ends c.requires.other.named) c.item_at.ensures.value c.join_into.ensures.joined

use Rattle.boot_objects.proofs.Common.{arith, length, ap, length_push, into_iter_items, queue_table, end_table, as_long, nil_from_length, IsClosed, length-append, IsOnlyEnd}
use Rattle.boot_objects.proofs.Drawing.{drawn_more, rest_long, all_drawn, next_fit, next_holds}
use Rattle.boot_objects.proofs.closing.queues.close_queues.Goals as goal

pub unreachable-requires : goal.unreachable-requires
unreachable-requires g c = let v = c.loop-queue.invariant in
    let long = rest_long IsClosed _ _ _ _ _ _ (as_long end_table queue_table c.args.ends.items c.args.queues.items c.requires.ends) v.drawn in
    let none = c.in_default.ensures.cases.0 in let some = ap length c.in-Some.ensures.steps.0 in let rest = v.rest in absurd (omega arith)

pub close_queue-requires : goal.close_queue-requires
close_queue-requires g c = let v = c.loop-queue.invariant in let fits = c.in-Some.queue.bounded in (
  omega arith,
  (
    omega arith,
    (
      omega arith,
      (
        next_fit IsClosed end_table queue_table _ _ _ _ _ _ _ _ _ _ c.requires.ends v.drawn c.in-Some.ensures.steps.0 c.in-Some-next.ensures.items,
        next_holds IsClosed IsOnlyEnd _ _ _ _ _ _ _ _ c.requires.whole v.drawn c.in-Some-next.ensures.items,
      ),
    ),
  ),
)

pub push_reserved-requires : goal.push_reserved-requires
push_reserved-requires g c = let v = c.loop-queue.invariant in let some = ap length c.in-Some.ensures.steps.0 in
    let all = ap length v.drawn.first in let both = length-append c.loop-queue.yielded (into_iter_items c.loop-queue.queue-iterator) in
    let number = v.number in let room = v.room in omega arith

pub loop-queue-preserved : goal.loop-queue-preserved
loop-queue-preserved g c = let v = c.loop-queue.invariant in record {
  drawn = drawn_more IsClosed _ _ _ _ _ _ c.in-Some.queue _ c.in-Some-next.end _ c.close_queue.result _ v.drawn c.in-Some.ensures.steps.0 c.in-Some-next.ensures.items c.push_reserved.ensures.items
      c.close_queue.ensures;
  left = let was = v.left in let gone = c.in-Some.ensures.steps.1 in let short = ap length c.in-Some.ensures.steps.0 in omega arith;
  rest = let was = v.rest in let gone = c.in-Some-next.ensures.len in let short = ap length c.in-Some-next.ensures.items in omega arith;
  number = let was = v.number in let more = length_push c.loop-queue.yielded c.in-Some.queue in let put = c.push_reserved.ensures.len in omega arith;
  room = let was = v.room in let same = c.push_reserved.ensures.capacity in omega arith;
}

pub returns : goal.returns
returns g c = let v = c.loop-queue.invariant in let empty = nil_from_length (into_iter_items c.loop-queue.queue-iterator) (let l = v.left in let n = c.in-None.ensures.steps.0 in omega arith) in
    all_drawn IsClosed _ _ _ _ _ _ (as_long end_table queue_table c.args.ends.items c.args.queues.items c.requires.ends) empty v.drawn

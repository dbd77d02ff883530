use Rattle.stations.proofs.Common.{rules, arith, ◌∙◌, ◌+◌, List, set, subst, sym, QueueEnd, queue_table, end_table, end_call, IsDivisible, IsSplit, as_long, same_on}
use Rattle.stations.proofs.Parting.{are_split}
use Rattle.turn_io.proofs.Using.{its_end, in_ends, ends_same}
use Rattle.stations.proofs.Walking.{AsFar, walk_on, walked, next_holds, tables_more}
use Rattle.stations.proofs.queue_splitting.split_ends_into.Goals as goal

pub split-end-requires : goal.split-end-requires
split-end-requires g c = let v = c.loop-i.invariant in let fit = v.same.tables ∙ c.requires.ends in let below = in_ends c.args.queues.now c.loop-i.ends c.loop-i.i fit c.loop-i-test.true in (
  omega arith,
  (
    omega arith,
    (
      its_end c.args.queues.now c.loop-i.ends c.loop-i.i _ _ fit c.loop-i-test.true c.item_at.ensures.value c.index-queues-i.is,
      next_holds IsSplit IsDivisible c.args.ends.now c.loop-i.ends c.loop-i.born.items c.loop-i.i _ below c.item_at.ensures.value c.requires.parts v.walk,
    ),
  ),
)

pub loop-i-preserved : goal.loop-i-preserved
loop-i-preserved g c = let v = c.loop-i.invariant in let fit = v.same.tables ∙ c.requires.ends in let below = in_ends c.args.queues.now c.loop-i.ends c.loop-i.i fit c.loop-i-test.true in
    let s = c.split-end.ensures in let value = c.item_at.ensures.value in
    let mine = its_end c.args.queues.now c.loop-i.ends c.loop-i.i _ _ fit c.loop-i-test.true value c.index-queues-i.is in record {
      walk = subst (λ (z : List (QueueEnd g.row.N)). AsFar IsSplit c.args.ends.now (set c.loop-i.ends c.loop-i.i c.split-end.new.end) z (c.loop-i.i + 1)) (sym c.push_reserved.ensures.items)
          (walk_on IsSplit c.args.ends.now c.loop-i.ends c.loop-i.born.items c.loop-i.i _ c.split-end.new.end c.split-end.result below value (s.trace, s.born) v.walk);
      same = same_on end_table end_call c.args.ends.now c.loop-i.ends (set c.loop-i.ends c.loop-i.i c.split-end.new.end) v.same (ends_same c.args.queues.now c.loop-i.ends c.loop-i.i _ c.split-end.new.end fit value s.handle.0);
      tables = tables_more end_table queue_table c.loop-i.born.items _ c.args.queues.now c.loop-i.i c.split-end.result _ v.tables c.push_reserved.ensures.items (s.handle.1 ∙ mine) c.loop-i-test.true c.index-queues-i.is;
      number = search rules;
      room = search rules;
    }

pub returns-clause-split : goal.returns-clause-split
returns-clause-split g c = let long = as_long end_table queue_table c.args.ends.now c.args.queues.now c.requires.ends in let past = c.loop-i-test.false in
    are_split c.args.ends.now c.loop-i.ends c.loop-i.born.items (walked IsSplit c.args.ends.now c.loop-i.ends c.loop-i.born.items c.loop-i.i (omega arith) c.loop-i.invariant.walk)

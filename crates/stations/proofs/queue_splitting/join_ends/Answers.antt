use Rattle.stations.proofs.Common.{arith, ◌≡◌, ◌<◌, ◌∙◌, ◌∷◌, [], ◌++◌, List, length, set, slice_index_or, subst, sym, ap, append_assoc, append-nil, length_push, nil_from_length, into_iter_items, QueueEnd, queue_table, end_table, end_call, IsJoined, AreJoined, as_long, same_at, same_on}
use Rattle.stations.proofs.Parting.{are_joined}
use Rattle.turn_io.proofs.Using.{its_end, in_ends, ends_same}
use Rattle.stations.proofs.Walking.{walk_on, walked, next_of}
use Rattle.stations.proofs.queue_splitting.join_ends.Goals as goal

pub join-requires : goal.join-requires
join-requires g c = let v = c.loop-other.invariant in let fit = v.same.tables ∙ c.requires.ends in
    let steps : into_iter_items c.loop-other.other-iterator ≡ c.in-Some.other ∷ into_iter_items c.next.new.self = c.in-Some.ensures.steps.0 in
    let whole : c.loop-other.yielded ++ c.in-Some.other ∷ into_iter_items c.next.new.self ≡ c.args.others.items = ap (λ z. c.loop-other.yielded ++ z) (sym steps) ∙ (v.parts ∙ c.into_iter-other-iterator.ensures.into_iter_gives.0) in
    let next = next_of c.loop-other.yielded (into_iter_items c.next.new.self) c.args.others.items c.in-Some.other whole in
    let long = as_long end_table queue_table c.args.others.items c.args.queues.now c.requires.others in let number = v.number in
    let inside = next.1 in let below : c.loop-other.i < length c.args.queues.now = omega arith in (
      omega arith,
      (
        omega arith,
        (
          its_end c.args.queues.now c.loop-other.ends c.loop-other.i _ _ fit below c.item_at.ensures.value c.index-queues-i.is,
          same_at end_table queue_table c.args.others.items c.args.queues.now c.requires.others c.loop-other.i below _ _ (next.0 ∙ ap (λ z. slice_index_or c.args.others.items z c.in-Some.other) (sym number)) c.index-queues-i.is,
        ),
      ),
    )

pub loop-other-preserved : goal.loop-other-preserved
loop-other-preserved g c = let v = c.loop-other.invariant in let fit = v.same.tables ∙ c.requires.ends in
    let steps : into_iter_items c.loop-other.other-iterator ≡ c.in-Some.other ∷ into_iter_items c.next.new.self = c.in-Some.ensures.steps.0 in
    let whole : c.loop-other.yielded ++ c.in-Some.other ∷ into_iter_items c.next.new.self ≡ c.args.others.items = ap (λ z. c.loop-other.yielded ++ z) (sym steps) ∙ (v.parts ∙ c.into_iter-other-iterator.ensures.into_iter_gives.0) in
    let next = next_of c.loop-other.yielded (into_iter_items c.next.new.self) c.args.others.items c.in-Some.other whole in
    let long = as_long end_table queue_table c.args.others.items c.args.queues.now c.requires.others in let number = v.number in
    let inside = next.1 in let below : c.loop-other.i < length c.args.queues.now = omega arith in
    let here = in_ends c.args.queues.now c.loop-other.ends c.loop-other.i fit below in let value = c.item_at.ensures.value in record {
      walk = walk_on IsJoined c.args.ends.now c.loop-other.ends c.loop-other.yielded c.loop-other.i _ c.join.new.end c.in-Some.other here value c.join.ensures.trace v.walk;
      same = same_on end_table end_call c.args.ends.now c.loop-other.ends (set c.loop-other.ends c.loop-other.i c.join.new.end) v.same (ends_same c.args.queues.now c.loop-other.ends c.loop-other.i _ c.join.new.end fit value c.join.ensures.handle);
      number = let more = length_push c.loop-other.yielded c.in-Some.other in omega arith;
      parts = append_assoc c.loop-other.yielded (c.in-Some.other ∷ []) _ ∙ (ap (λ z. c.loop-other.yielded ++ z) (sym steps) ∙ v.parts);
      left = let was = v.left in let gone = c.in-Some.ensures.steps.1 in let short = ap length steps in omega arith;
    }

pub returns-clause-joined : goal.returns-clause-joined
returns-clause-joined g c = let v = c.loop-other.invariant in let none = c.in-None.ensures.steps in
    let empty : into_iter_items c.loop-other.other-iterator ≡ [] = nil_from_length _ (sym v.left ∙ none.0) in
    let all : c.loop-other.yielded ≡ c.args.others.items = sym (append-nil c.loop-other.yielded) ∙ (ap (λ z. c.loop-other.yielded ++ z) (sym empty) ∙ (v.parts ∙ c.into_iter-other-iterator.ensures.into_iter_gives.0)) in
    let long = as_long end_table queue_table c.args.others.items c.args.queues.now c.requires.others in let long' = as_long end_table queue_table c.args.ends.now c.args.queues.now c.requires.ends in
    let number = v.number in let same = ap length all in
    subst (λ (z : List (QueueEnd g.row.N)). AreJoined c.args.ends.now z c.loop-other.ends) all
    (are_joined c.args.ends.now c.loop-other.ends c.loop-other.yielded (walked IsJoined c.args.ends.now c.loop-other.ends c.loop-other.yielded c.loop-other.i (omega arith) v.walk))

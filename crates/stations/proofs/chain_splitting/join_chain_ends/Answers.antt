use Rattle.stations.proofs.Common.{arith, ◌≡◌, ◌<◌, ◌∙◌, ◌∷◌, [], ◌++◌, length, set, slice_index_or, subst, sym, ap, append_assoc, append-nil, length_push, nil_from_length, into_iter_items, chain_table, chain_end_table, chain_end_call, IsChainJoined, AreChainsJoined, its_end, in_ends, is_idle, ends_same, ends_fit, as_long, same_on}
use Rattle.stations.proofs.ChainParting.{took_in, still_idle}
use Rattle.stations.proofs.Walking.{walk_on, walked, next_of}
use Rattle.stations.proofs.chain_splitting.join_chain_ends.Goals as goal

pub join-requires : goal.join-requires
join-requires c = let v = c.loop-other.invariant in
    let steps : into_iter_items c.loop-other.other-iterator ≡ c.in-Some.other ∷ into_iter_items c.next.new.self = c.in-Some.ensures.steps.0 in
    let whole : c.loop-other.yielded ++ c.in-Some.other ∷ into_iter_items c.next.new.self ≡ c.args.others.items = ap (λ z. c.loop-other.yielded ++ z) (sym steps) ∙ (v.parts ∙ c.into_iter-other-iterator.ensures.into_iter_gives.0) in
    let next = next_of c.loop-other.yielded (into_iter_items c.next.new.self) c.args.others.items c.in-Some.other whole in
    let long = as_long chain_end_table chain_table c.args.others.items c.args.chains.now c.requires.others.tables in let number = v.number in
    let inside = next.1 in let below : c.loop-other.i < length c.args.chains.now = omega arith in record {
      ends = (
        its_end c.args.chains.now c.loop-other.ends c.loop-other.i _ _ v.ends below c.item_at.ensures.value c.index-chains-i.is,
        its_end c.args.chains.now c.args.others.items c.loop-other.i _ _ c.requires.others below (next.0 ∙ ap (λ z. slice_index_or c.args.others.items z c.in-Some.other) (sym number)) c.index-chains-i.is,
      );
    }

pub loop-other-preserved : goal.loop-other-preserved
loop-other-preserved c = let v = c.loop-other.invariant in
    let steps : into_iter_items c.loop-other.other-iterator ≡ c.in-Some.other ∷ into_iter_items c.next.new.self = c.in-Some.ensures.steps.0 in
    let whole : c.loop-other.yielded ++ c.in-Some.other ∷ into_iter_items c.next.new.self ≡ c.args.others.items = ap (λ z. c.loop-other.yielded ++ z) (sym steps) ∙ (v.parts ∙ c.into_iter-other-iterator.ensures.into_iter_gives.0) in
    let next = next_of c.loop-other.yielded (into_iter_items c.next.new.self) c.args.others.items c.in-Some.other whole in
    let long = as_long chain_end_table chain_table c.args.others.items c.args.chains.now c.requires.others.tables in let number = v.number in
    let inside = next.1 in let below : c.loop-other.i < length c.args.chains.now = omega arith in
    let here = in_ends c.args.chains.now c.loop-other.ends c.loop-other.i v.ends below in let value = c.item_at.ensures.value in
    let idle = is_idle c.args.chains.now c.loop-other.ends c.loop-other.i _ v.ends below value in
    let idle' = is_idle c.args.chains.now c.args.others.items c.loop-other.i c.in-Some.other c.requires.others below (next.0 ∙ ap (λ z. slice_index_or c.args.others.items z c.in-Some.other) (sym number)) in
    let j = c.join.ensures in let took = took_in c.item_at.result.now c.in-Some.other c.join.new.end idle' j.trace in let same = (j.handle idle'.0).0 in record {
      walk = walk_on IsChainJoined c.args.ends.now c.loop-other.ends c.loop-other.yielded c.loop-other.i _ c.join.new.end c.in-Some.other here value took.0 v.walk;
      same = same_on chain_end_table chain_end_call c.args.ends.now c.loop-other.ends (set c.loop-other.ends c.loop-other.i c.join.new.end) v.same (ends_same c.args.chains.now c.loop-other.ends c.loop-other.i _ c.join.new.end v.ends below value same);
      ends = ends_fit c.args.chains.now c.loop-other.ends c.loop-other.i _ c.join.new.end v.ends below value same (still_idle c.item_at.result.now c.in-Some.other c.join.new.end idle idle' j.turn took.1);
      number = let more = length_push c.loop-other.yielded c.in-Some.other in omega arith;
      parts = append_assoc c.loop-other.yielded (c.in-Some.other ∷ []) _ ∙ (ap (λ z. c.loop-other.yielded ++ z) (sym steps) ∙ v.parts);
      left = let was = v.left in let gone = c.in-Some.ensures.steps.1 in let short = ap length steps in omega arith;
    }

pub returns-clause-joined : goal.returns-clause-joined
returns-clause-joined c = let v = c.loop-other.invariant in let none = c.in-None.ensures.steps in
    let empty : into_iter_items c.loop-other.other-iterator ≡ [] = nil_from_length _ (sym v.left ∙ none.0) in
    let all : c.loop-other.yielded ≡ c.args.others.items = sym (append-nil c.loop-other.yielded) ∙ (ap (λ z. c.loop-other.yielded ++ z) (sym empty) ∙ (v.parts ∙ c.into_iter-other-iterator.ensures.into_iter_gives.0)) in
    let long = as_long chain_end_table chain_table c.args.others.items c.args.chains.now c.requires.others.tables in let long' = as_long chain_end_table chain_table c.args.ends.now c.args.chains.now c.requires.ends.tables in
    let number = v.number in let same = ap length all in
    subst (λ z. AreChainsJoined c.args.ends.now z c.loop-other.ends) all
    (walked IsChainJoined c.args.ends.now c.loop-other.ends c.loop-other.yielded c.loop-other.i (omega arith) v.walk)

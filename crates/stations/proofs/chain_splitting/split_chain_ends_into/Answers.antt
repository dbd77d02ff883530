use Rattle.stations.proofs.Common.{rules, arith, ◌∙◌, ◌+◌, set, subst, sym, All, chain_table, chain_end_table, chain_end_call, IsIdle, IsChainDivisible, IsChainSplit, its_end, in_ends, is_idle, ends_same, ends_fit, as_long, same_on}
use Rattle.std.proofs.lemmas.List.Elements.{All-push}
use Rattle.stations.proofs.ChainParting.{rests}
use Rattle.stations.proofs.Walking.{AsFar, walk_on, walked, next_holds, tables_more}
use Rattle.stations.proofs.chain_splitting.split_chain_ends_into.Goals as goal

pub split-end-requires-clause-ends : goal.split-end-requires-clause-ends
split-end-requires-clause-ends c =
    its_end c.args.chains.now c.loop-i.ends c.loop-i.i _ _ c.loop-i.invariant.ends c.loop-i-test.true c.item_at.ensures.value c.index-chains-i.is

pub split-end-requires-clause-parts : goal.split-end-requires-clause-parts
split-end-requires-clause-parts c = let v = c.loop-i.invariant in let below = in_ends c.args.chains.now c.loop-i.ends c.loop-i.i v.ends c.loop-i-test.true in
    next_holds IsChainSplit IsChainDivisible c.args.ends.now c.loop-i.ends c.loop-i.born.items c.loop-i.i _ below c.item_at.ensures.value c.requires.parts v.walk

pub loop-i-preserved : goal.loop-i-preserved
loop-i-preserved c = let v = c.loop-i.invariant in let test = c.loop-i-test.true in let below = in_ends c.args.chains.now c.loop-i.ends c.loop-i.i v.ends test in
    let s = c.split-end.ensures in let value = c.item_at.ensures.value in let after = c.split-end.new.end in
    let was = is_idle c.args.chains.now c.loop-i.ends c.loop-i.i _ v.ends test value in record {
      walk = subst (λ z. AsFar IsChainSplit c.args.ends.now (set c.loop-i.ends c.loop-i.i c.split-end.new.end) z (c.loop-i.i + 1)) (sym c.push_reserved.ensures.items)
          (walk_on IsChainSplit c.args.ends.now c.loop-i.ends c.loop-i.born.items c.loop-i.i _ c.split-end.new.end c.split-end.result below value (s.trace, s.born) v.walk);
      same = same_on chain_end_table chain_end_call c.args.ends.now c.loop-i.ends (set c.loop-i.ends c.loop-i.i c.split-end.new.end) v.same (ends_same c.args.chains.now c.loop-i.ends c.loop-i.i _ c.split-end.new.end v.ends test value s.handle.0);
      ends = ends_fit c.args.chains.now c.loop-i.ends c.loop-i.i _ c.split-end.new.end v.ends test value s.handle.0 (s.turns.0.0 ∙ was.0, s.turns.0.1 ∙ was.1);
      tables = tables_more chain_end_table chain_table c.loop-i.born.items _ c.args.chains.now c.loop-i.i c.split-end.result _ v.tables c.push_reserved.ensures.items s.ends.1.0 test c.index-chains-i.is;
      idle = subst (All IsIdle) (sym c.push_reserved.ensures.items) (All-push IsIdle c.loop-i.born.items c.split-end.result v.idle (rests c.index-chains-i.result c.split-end.result s.ends.1 s.turns.1));
      number = search rules;
      room = search rules;
    }

pub returns-clause-split : goal.returns-clause-split
returns-clause-split c = let long = as_long chain_end_table chain_table c.args.ends.now c.args.chains.now c.requires.ends.tables in let past = c.loop-i-test.false in
    walked IsChainSplit c.args.ends.now c.loop-i.ends c.loop-i.born.items c.loop-i.i (omega arith) c.loop-i.invariant.walk

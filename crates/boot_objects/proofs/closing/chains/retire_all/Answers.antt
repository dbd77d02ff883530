use Rattle.boot_objects.proofs.Common.{arith, length, ap, subst, sym, length_push, into_iter_items, chain_table, chain_end_table, IsIdle, as_long, nil_from_length, HasRetired, IsFew, All-push, All}
use Rattle.proc_chain.specs.Handles.{IsOnlyEnd}
use Rattle.turn_io.proofs.Chains.{idle_end}
use Rattle.boot_objects.proofs.Drawing.{drawn_more, rest_long, all_drawn, next_fit, next_holds}
use Rattle.boot_objects.proofs.closing.chains.retire_all.Goals as goal

pub unreachable-requires : goal.unreachable-requires
unreachable-requires c = let v = c.loop-chain.invariant in
    let long = rest_long HasRetired _ _ _ _ _ _ (as_long chain_end_table chain_table c.args.ends.items c.args.chains.items c.requires.ends.tables) v.drawn in
    let none = c.in_default.ensures.cases.0 in let some = ap length c.in-Some.ensures.steps.0 in let rest = v.rest in absurd (omega arith)

its_idle : (c : goal.After-homes-1) → IsIdle c.in-Some-next.end
its_idle c = next_holds HasRetired IsIdle _ _ _ _ _ _ _ _ c.requires.ends.idle c.loop-chain.invariant.drawn c.in-Some-next.ensures.items

pub retire_chain-requires-clause-ends : goal.retire_chain-requires-clause-ends
retire_chain-requires-clause-ends c = idle_end c.in-Some.chain c.in-Some-next.end
    (next_fit HasRetired chain_end_table chain_table _ _ _ _ _ _ _ _ _ _ c.requires.ends.tables c.loop-chain.invariant.drawn c.in-Some.ensures.steps.0 c.in-Some-next.ensures.items) (its_idle c)

pub retire_chain-requires-clause-turn : goal.retire_chain-requires-clause-turn
retire_chain-requires-clause-turn c = (its_idle c).0

pub retire_chain-requires-clause-whole : goal.retire_chain-requires-clause-whole
retire_chain-requires-clause-whole c = next_holds HasRetired IsOnlyEnd _ _ _ _ _ _ _ _ c.requires.whole c.loop-chain.invariant.drawn c.in-Some-next.ensures.items

pub loop-chain-preserved : goal.loop-chain-preserved
loop-chain-preserved c = let v = c.loop-chain.invariant in record {
  drawn = drawn_more HasRetired _ _ _ _ _ _ c.in-Some.chain _ c.in-Some-next.end _ c.retire_chain.result _ v.drawn c.in-Some.ensures.steps.0 c.in-Some-next.ensures.items c.push_reserved.ensures.items c.retire_chain.ensures.home;
  left = let was = v.left in let gone = c.in-Some.ensures.steps.1 in let short = ap length c.in-Some.ensures.steps.0 in omega arith;
  rest = let was = v.rest in let gone = c.in-Some-next.ensures.len in let short = ap length c.in-Some-next.ensures.items in omega arith;
  number = let was = v.number in let more = length_push c.loop-chain.yielded c.in-Some.chain in let put = c.push_reserved.ensures.len in omega arith;
  few = subst (All IsFew) (sym c.push_reserved.ensures.items) (All-push IsFew c.loop-chain.homes.items c.retire_chain.result v.few c.retire_chain.ensures.few);
  room = let was = v.room in let same = c.push_reserved.ensures.capacity in omega arith;
}

pub returns-clause-homes : goal.returns-clause-homes
returns-clause-homes c = let v = c.loop-chain.invariant in let empty = nil_from_length (into_iter_items c.loop-chain.chain-iterator) (let l = v.left in let n = c.in-None.ensures.steps.0 in omega arith) in
    all_drawn HasRetired _ _ _ _ _ _ (as_long chain_end_table chain_table c.args.ends.items c.args.chains.items c.requires.ends.tables) empty v.drawn

use Rattle.boot_objects.proofs.Common.{IsIdle, IsChainJoined, rests, took_in, still_idle, on_end}
use Rattle.proc_chain.specs.Handles.{IsEndOf}
use Rattle.turn_io.proofs.Chains.{its_end, in_ends, is_idle, ends_same, ends_fit}
use Rattle.boot_objects.proofs.Gaining.{its_own, chains_gained_at}
use Rattle.boot_objects.proofs.closing.joining.join_chain_at.Goals as goal

pub join-requires : goal.join-requires
join-requires c = record {
  ends = (
    its_end c.args.chains.now c.args.ends.now c.args.index _ _ c.requires.ends c.requires.other.named c.item_at.ensures.value c.index-chains-index.is,
    its_own (λ chain. IsEndOf chain c.args.other) c.args.chains.now c.args.index c.index-chains-index.result c.requires.other.named c.requires.other.its c.index-chains-index.is,
  );
}

other_rests : (c : goal.After-ends-2-1) → IsIdle c.args.other
other_rests c = rests c.index-chains-index.result c.args.other (its_own (λ chain. IsEndOf chain c.args.other) c.args.chains.now c.args.index c.index-chains-index.result c.requires.other.named c.requires.other.its c.index-chains-index.is) c.requires.idle

took : (c : goal.After-ends-2-1) → IsChainJoined c.item_at.result.now c.join.new.end c.args.other
took c = (took_in c.item_at.result.now c.args.other c.join.new.end (other_rests c) c.join.ensures.trace).0

pub returns-clause-handle : goal.returns-clause-handle
returns-clause-handle c = ends_same c.args.chains.now c.args.ends.now c.args.index _ c.join.new.end c.requires.ends c.requires.other.named c.item_at.ensures.value ((c.join.ensures.handle c.requires.idle).0)

pub returns-clause-ends : goal.returns-clause-ends
returns-clause-ends c = let idle = is_idle c.args.chains.now c.args.ends.now c.args.index c.item_at.result.now c.requires.ends c.requires.other.named c.item_at.ensures.value in
    let idle' = other_rests c in let both = took_in c.item_at.result.now c.args.other c.join.new.end idle' c.join.ensures.trace in
    ends_fit c.args.chains.now c.args.ends.now c.args.index _ c.join.new.end c.requires.ends c.requires.other.named c.item_at.ensures.value ((c.join.ensures.handle c.requires.idle).0)
    (still_idle c.item_at.result.now c.args.other c.join.new.end idle idle' c.join.ensures.turn both.1)

pub returns-clause-joined : goal.returns-clause-joined
returns-clause-joined c = on_end c.args.ends.now c.args.index c.item_at.result.now c.join.new.end c.item_at.ensures.value (λ old new. IsChainJoined old new c.args.other)
    (in_ends c.args.chains.now c.args.ends.now c.args.index c.requires.ends c.requires.other.named) (took c)

pub returns-clause-gained : goal.returns-clause-gained
returns-clause-gained c = chains_gained_at c.args.ends.now c.args.index c.item_at.result.now c.join.new.end c.args.other
    (in_ends c.args.chains.now c.args.ends.now c.args.index c.requires.ends c.requires.other.named) c.item_at.ensures.value (took c)

use Rattle.quaject_core.proofs.Common.{join_chain, chain}
use Rattle.quaject_core.proofs.Stored.Parts.{over_more, over_all}
use Rattle.quaject_core.proofs.store.join_chains.Goals as goal

pub loop-chain-preserved : goal.loop-chain-preserved
loop-chain-preserved c = over_more chain (join_chain c.args.call c.args.other) c.args.chains.now c.loop-chain.chain-items c.loop-chain.chain-index c.chain-item.result c.join.new.self
    c.loop-chain-test.true c.loop-chain.auto.chain-items c.loop-chain.invariant c.join.ensures

pub returns : goal.returns
returns c = over_all chain (join_chain c.args.call c.args.other) c.args.chains.now c.loop-chain.chain-items c.loop-chain.chain-index c.loop-chain-test.false c.loop-chain.invariant

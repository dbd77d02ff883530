use Rattle.boot_objects.proofs.Common.{◌<◌, length, subst, arith, AllZip-long, chain_end_share, IsIdleChainEnd}
use Rattle.proc_chain.specs.Handles.{IsEndOf}
use Rattle.boot_objects.proofs.Stocks.{at_both, set_both, here, can_split, gave_one}
use Rattle.boot_objects.proofs.device.split_chain_at.Goals as goal

pub index_mut-requires : goal.index_mut-requires
index_mut-requires c = let long = AllZip-long IsIdleChainEnd c.args.chains.now c.args.stock.now.items c.requires.stock in omega (arith, long, c.requires.named)

pub split_one-requires-clause-idle : goal.split_one-requires-clause-idle
split_one-requires-clause-idle c = at_both IsIdleChainEnd c.args.chains.now c.args.stock.now.items c.requires.stock c.args.index c.requires.named c.index-chains-index.result c.index_mut.result.now c.index-chains-index.is c.index_mut.ensures.value

pub split_one-requires-clause-parts : goal.split_one-requires-clause-parts
split_one-requires-clause-parts c =
    let long = AllZip-long IsIdleChainEnd c.args.chains.now c.args.stock.now.items c.requires.stock in
    can_split chain_end_share c.args.stock.now.items c.args.index c.index_mut.result.now (omega (arith, long, c.requires.named)) c.index_mut.ensures.value c.requires.parts

pub returns : goal.returns
returns c =
    let long = AllZip-long IsIdleChainEnd c.args.chains.now c.args.stock.now.items c.requires.stock in
    let low : c.args.index < length c.args.stock.now.items = omega (arith, long, c.requires.named) in
    let s = c.split_one.ensures in record {
      stock = set_both IsIdleChainEnd c.args.chains.now c.args.stock.now.items c.requires.stock c.args.index c.requires.named c.index-chains-index.result c.split_one.new.end c.index-chains-index.is s.idle.0;
      its = λ other at. subst (λ z. IsEndOf z c.split_one.result) (here c.args.chains.now c.args.index c.index-chains-index.result other c.index-chains-index.is at) s.idle.1.its;
      idle = s.idle.1.idle;
      puts = s.idle.1.puts;
      takes = s.idle.1.takes;
      gave = gave_one chain_end_share c.args.stock.now.items c.args.index c.index_mut.result.now c.split_one.new.end c.split_one.result low c.index_mut.ensures.value s.left s.given;
    }

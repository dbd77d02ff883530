use Rattle.boot_objects.proofs.Common.{◌<◌, length, subst, arith, AllZip-long, ClaimQueue, end_share, IsIdleEnd, IsEndOf}
use Rattle.boot_objects.proofs.Stocks.{at_both, set_both, here, can_split, gave_one}
use Rattle.boot_objects.proofs.stock.split_at.Goals as goal

pub split_one-requires : goal.split_one-requires
split_one-requires g c =
    let long = AllZip-long IsIdleEnd c.args.queues.now c.args.stock.now.items c.requires.stock in
    let low : c.args.index < length c.args.stock.now.items = omega (arith, long, c.requires.named) in
    let idle = at_both IsIdleEnd c.args.queues.now c.args.stock.now.items c.requires.stock c.args.index c.requires.named c.index-queues-index.result c.index_mut.result.now c.index-queues-index.is c.index_mut.ensures.value in
    (omega arith, (omega arith, (idle, can_split end_share c.args.stock.now.items c.args.index c.index_mut.result.now low c.index_mut.ensures.value c.requires.parts)))

pub returns : goal.returns
returns g c =
    let long = AllZip-long IsIdleEnd c.args.queues.now c.args.stock.now.items c.requires.stock in
    let low : c.args.index < length c.args.stock.now.items = omega (arith, long, c.requires.named) in
    let s = c.split_one.ensures in record {
      stock = set_both IsIdleEnd c.args.queues.now c.args.stock.now.items c.requires.stock c.args.index c.requires.named c.index-queues-index.result c.split_one.new.end c.index-queues-index.is s.idle.0;
      its = record {
        named = c.requires.named;
        its = λ other at. subst (λ (z : ClaimQueue g.row.N). IsEndOf z c.split_one.result) (here c.args.queues.now c.args.index c.index-queues-index.result other c.index-queues-index.is at) s.idle.1.its;
      };
      unused = s.idle.1.unused;
      shuts = s.idle.1.shuts;
      gave = gave_one end_share c.args.stock.now.items c.args.index c.index_mut.result.now c.split_one.new.end c.split_one.result low c.index_mut.ensures.value s.left s.given;
    }

pub index_mut-requires : goal.index_mut-requires
index_mut-requires g c = let long = AllZip-long IsIdleEnd c.args.queues.now c.args.stock.now.items c.requires.stock in omega (arith, long, c.requires.named)

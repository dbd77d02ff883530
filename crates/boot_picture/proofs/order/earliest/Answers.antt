use Rattle.boot_picture.proofs.Clocks.{least_more}
use Rattle.boot_picture.proofs.Orders.{next_either, used_more}
use Rattle.boot_picture.proofs.order.earliest.Goals as goal

pub loop-processor-preserved : goal.loop-processor-preserved
loop-processor-preserved c = record {
  found = next_either c.args.tracks.now c.args.nexts.now c.earlier-found.result c.loop-processor.found c.next_of-next.result c.earlier-found.ensures.either c.loop-processor.invariant.found c.next_of-next.ensures.found;
  none = λ is. let both = c.earlier-found.ensures.none is in used_more c.args.tracks.now c.args.nexts.now c.loop-processor.processor (c.loop-processor.invariant.none both.0) (c.next_of-next.ensures.none both.1);
  least = least_more c.args.tracks.now c.args.nexts.now c.loop-processor.processor c.earlier-found.result c.loop-processor.found c.next_of-next.result c.earlier-found.ensures.least c.loop-processor.invariant.least c.loop-processor.invariant.none c.next_of-next.ensures.next;
}

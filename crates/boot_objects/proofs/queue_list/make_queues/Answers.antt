use Rattle.boot_objects.proofs.Common.{length, ap, arith, if_ok}
use Rattle.boot_objects.proofs.Fresh.{fresh_stock, fresh_whole, fresh_firsts}
use Rattle.boot_objects.proofs.queue_list.make_queues.Goals as goal

pub returns : goal.returns
returns c = let ttys = ap length c.as_slice-ttys.ensures in let queues = ap length c.as_slice.ensures in if_ok c.new.result c.new.ensures (λ r h. record {
  sizes = record { small = let e = h.0.0 in omega (arith, e, ttys, queues); large = let e = h.1.0 in omega (arith, e, ttys) };
  small_stock = fresh_stock r.0.small.items r.1.items h.0.1;
  large_stock = fresh_stock r.0.large.items r.2.items h.1.1;
  small_whole = fresh_whole r.0.small.items r.1.items h.0.1;
  large_whole = fresh_whole r.0.large.items r.2.items h.1.1;
  small_firsts = fresh_firsts r.0.small.items r.1.items h.0.1;
  large_firsts = fresh_firsts r.0.large.items r.2.items h.1.1;
})

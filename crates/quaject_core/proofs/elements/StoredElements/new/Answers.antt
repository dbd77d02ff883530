use Rattle.quaject_core.proofs.Common.{arith, new_thread, thread, so_many}
use Rattle.quaject_core.proofs.elements.StoredElements.new.Goals as goal

pub invariant_of-result : goal.invariant_of-result
invariant_of-result c = record {
  few = omega (arith, c.in_ok-new.ensures.count);
  all = omega (arith, so_many thread new_thread c.args.count c.in_ok-new_threads.field-0.items c.in_ok-new_threads.ensures, c.in_ok-new_threads.field-0.ok, c.requires);
}

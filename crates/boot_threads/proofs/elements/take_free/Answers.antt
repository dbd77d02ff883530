use Rattle.boot_threads.proofs.Common.{rules, refl, call_of, view_of}
use Rattle.boot_threads.proofs.Handling.{take_took, took_none, took_on}
use Rattle.boot_threads.proofs.elements.take_free.Goals as goal

pub loop-init : goal.loop-init
loop-init g c = record { steps = search rules; its = search rules; same = (refl, refl); took = took_none (view_of c.args.hand.now) }

pub loop-preserved : goal.loop-preserved
loop-preserved g c = record {
  steps = search rules;
  its = search rules;
  same = search rules;
  took = took_on (view_of c.args.hand.now) (view_of c.loop.hand) (view_of c.try_free-taken.new.hand) c.loop.invariant.took (take_took (call_of c.loop.hand) (view_of c.loop.hand) (view_of c.try_free-taken.new.hand) c.try_free-taken.result c.loop.hand.valid c.try_free-taken.new.hand.valid c.try_free-taken.ensures.trace);
}

use Rattle.quaject_core.specs.ShownCores.{state}
use Rattle.boot_script.proofs.EventScripts.Schedules.{reaches_next}
use Rattle.boot_script.proofs.run.apply_all.Goals as goal

pub loop-line-preserved : goal.loop-line-preserved
loop-line-preserved c = reaches_next (state c.args.core.now) c.args.events.now c.loop-line.line-index c.loop-line-item.result (state c.loop-line.core) (state c.apply.new.self) c.loop-line-test.true c.loop-line-item.is c.loop-line.invariant c.in-Ok.ensures.result

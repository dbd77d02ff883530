use Rattle.processor.proofs.Common.{◌≡◌, take, sum_by, hears_in}
use Rattle.processor.proofs.programs.hears_of.Given as goal

abbrev pub invariant-loop-thread : goal.invariant-loop-thread
invariant-loop-thread l = l.hears ≡ sum_by hears_in (take l.thread-index l.plan.threads)

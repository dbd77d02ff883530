-- The objects that a plan asks for.
use Rattle.std.specs.Prelude.{◌≡◌, ◌+◌, List, length}
use Rattle.boot_data.specs.declared.boot_plan.BootPlan.{BootPlan}
use Rattle.boot_data.specs.QueueLists.{raw_queue, line_queue}
use Rattle.proc_chain.specs.declared.ends.ProcChain.{ProcChain}
use Rattle.quajects.specs.declared.any.AnyQuaject.{AnyQuaject}
use Rattle.quajects.specs.declared.world.Queues.{Queues}

-- There are as many queues and chains as the plan asks for: its queues and pipes, three queues for each tty, and a
-- chain for each pump, switch and tty
abbrev pub HasObjects : BootPlan → Queues → List (ProcChain AnyQuaject Queues) → Type 0
HasObjects plan queues chains = (length queues.small.items ≡ raw_queue (length plan.queues) (length plan.ttys))
    × (length queues.large.items ≡ line_queue (length plan.ttys))
    × (length chains ≡ length plan.movers + length plan.ttys)

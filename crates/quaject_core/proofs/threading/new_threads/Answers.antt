use Rattle.quaject_core.proofs.Common.{sym, ◌∙◌, Thread, new_thread, thread}
use Rattle.quaject_core.proofs.Stored.Lifts.{shown_push, repeat_more}
use Rattle.quaject_core.proofs.threading.new_threads.Goals as goal

pub loop-preserved : goal.loop-preserved
loop-preserved c =
    let t : Thread = new_thread in
    shown_push thread c.loop.threads.items c.push.new.self.items c.new.result _ t c.in_ok-push.ensures.items c.loop.invariant c.new.ensures
    ∙ sym (repeat_more c.loop.counter t)

use Rattle.boot_objects.proofs.ClosedFacts.{is_closed}
use Rattle.boot_objects.proofs.closing.queues.close_queue.Goals as goal

pub returns : goal.returns
returns g c = let h = c.in-Ok.ensures.closed in is_closed c.args.queue c.args.end c.in-Ok.closed h.0 h.1

use Rattle.event_theory.specs.declared.event.Event.TheVariants as events
use Rattle.table_theory.specs.Seating.{IsSame}
use Rattle.thread_table.proofs.Events.Waking.{Rounds}
use Rattle.thread_table.proofs.hand.ThreadTable.wake_all.Given as goal

abbrev pub ghosts-add_notify : goal.ghosts-add_notify
ghosts-add_notify g a = record { call = a.seat.now.id; event = events.NotifyWait a.seat.now.id a.wait }

abbrev pub invariant-loop : goal.invariant-loop
invariant-loop g l = record {
  steps : (goal.iterator-loop g).can_next l.iterator' × (goal.iterator-loop g).is_finite l.iterator';
  same : IsSame l.fn.hand.seat l.hand.seat;
  rounds : Rounds l.fn.hand.seat.id l.fn.wait l.ring l.word l.fn.hand.seat.me.0 l.woken l.hand.seat.me.0;
}

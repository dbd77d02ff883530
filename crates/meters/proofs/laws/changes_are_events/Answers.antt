use Rattle.meters.proofs.Lawful.{tick_event, advance_event, set_event, fire_event, cancel_event}
use Rattle.meters.proofs.laws.changes_are_events.Goals as goal

pub returns : goal.returns
returns c = record {
  ticked = tick_event;
  advanced = advance_event;
  set = set_event;
  fired = fire_event;
  cancelled = cancel_event;
}

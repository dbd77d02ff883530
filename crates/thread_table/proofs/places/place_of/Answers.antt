use Rattle.thread_table.proofs.Common.{slots_items}
use Rattle.thread_table.proofs.Closing.Locating.{on_its_processor}
use Rattle.thread_table.proofs.places.place_of.Goals as goal

pub returns-in-Some : goal.returns-in-Some
returns-in-Some c = on_its_processor c.args.element (slots_items c.args.closed.now.words) c.in-Some.p c.in-Some.ensures

use Rattle.std.proofs.Common.{ap}
use Rattle.std.specs.Option.{is_some}
use Rattle.thread_table.specs.Handles.{view_of}
use Rattle.thread_table.proofs.Shown.Masks.{one_empty}
use Rattle.turn_tests.proofs.turns.partings.split_for.Goals as goal

pub split_station-requires-clause-free : goal.split_station-requires-clause-free
split_station-requires-clause-free g c =
    one_empty (view_of c.freed-station.result.parts.hand) c.args.q c.number.result c.number.ensures.value
    c.number.ensures.within c.freed-station.ensures.free.0 (ap is_some c.freed-station.ensures.free.1)

use Rattle.std.proofs.Common.{arith}
use Rattle.processor.proofs.Rooming.{room_new}
use Rattle.stations.proofs.station_splitting.split_parts.Goals as goal

pub returns-clause-room : goal.returns-clause-room
returns-clause-room c = let plan = c.args.shared.now.plan in
    let room = c.requires.room.heard.1 in
    let longest = c.requires.room.heard.2 in
    room_new plan _ c.requires.room.heard.0 (omega arith) (omega arith)

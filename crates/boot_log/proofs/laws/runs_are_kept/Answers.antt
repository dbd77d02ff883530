use Rattle.std.proofs.Common.{◌<◌, ◌^◌, length}
use Rattle.boot_log.proofs.Runs.{keeps_room, recorded}
use Rattle.boot_log.proofs.laws.runs_are_kept.Goals as goal

pub returns-clause-turns : goal.returns-clause-turns
returns-clause-turns g c = λ shared p number turns old new room gate gate' ran few none. recorded g.C.TurnClock.says shared p number turns old new room gate gate' ran few none

pub returns-clause-run : goal.returns-clause-run
returns-clause-run g c = λ shared p turns old new room gate gate' ran few none.
    let many : length ran.log < 2 ^ 64 = rw ran.many few in
    recorded g.C.TurnClock.says shared p 0 ran.log old new room gate gate' ran.reported many none

pub returns-clause-room : goal.returns-clause-room
returns-clause-room g c = λ shared p number turns old new gate gate' ran. keeps_room g.C.TurnClock.says shared p number turns old new gate gate' ran

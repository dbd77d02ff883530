use Rattle.boot_picture.proofs.Common.{take, AllZip, kept_in, IsTrackOf}
use Rattle.boot_picture.proofs.order.tracks_of.Given as goal

abbrev pub invariant-loop-log : goal.invariant-loop-log
invariant-loop-log l = AllZip IsTrackOf (kept_in (take l.log-index l.logs)) l.tracks.items

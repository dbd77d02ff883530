use Rattle.boot_script.proofs.Common.{◌≡◌, length, [], ways_from}
use Rattle.boot_script.proofs.BootScripts.WaysSoFar.{AreReadSoFar}
use Rattle.boot_script.proofs.boot_lines.movers.ways.Given as goal

-- The ways so far, and those of the words that are left, are those of the line.
abbrev pub invariant-loop-seen : goal.invariant-loop-seen
invariant-loop-seen l = record {
  so_far : AreReadSoFar l.fits l.ways l.seen l.names l.words (ways_from l.names [] l.fn.words);
  whole : length l.seen ≡ 256;
}

abbrev pub decreases-loop-seen : goal.decreases-loop-seen
decreases-loop-seen l = length l.words

use Rattle.boot_picture.proofs.Common.{length, take, ◌-◌, ◌≤◌, All, IsIdle}
use Rattle.boot_picture.proofs.blocks.first_block.Given as goal

-- the turns so far are idle
abbrev pub invariant-loop-turns : goal.invariant-loop-turns
invariant-loop-turns l = record { some : 1 ≤ l.turns; within : l.turns ≤ length l.entries; idle : All IsIdle (take l.turns l.entries) }

abbrev pub decreases-loop-turns : goal.decreases-loop-turns
decreases-loop-turns l = length l.entries - l.turns

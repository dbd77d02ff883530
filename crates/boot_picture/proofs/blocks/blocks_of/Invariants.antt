use Rattle.boot_picture.proofs.Common.{length, take, ◌-◌, ◌≡◌, ◌≤◌, All, flat_map, AreInARow, IsBlock, turns_of}
use Rattle.boot_picture.proofs.blocks.blocks_of.Given as goal

-- the turns of the blocks so far are all turns before the next one
abbrev pub invariant-loop-first : goal.invariant-loop-first
invariant-loop-first l = record { within : l.first ≤ length l.entries; each_once : flat_map (turns_of l.entries) l.blocks.items ≡ take l.first l.entries; each : All (IsBlock l.entries) l.blocks.items; in_a_row : AreInARow 0 l.blocks.items l.first }

abbrev pub decreases-loop-first : goal.decreases-loop-first
decreases-loop-first l = length l.entries - l.first

-- The blocks of a processor's turns.
use Rattle.std.specs.Prelude.{◌≡◌, ℕ, ◌≤◌, ◌<◌, ◌+◌, true, List, [], ◌∷◌, length, take, drop}
use Rattle.std.specs.List.{All, flat_map}
use Rattle.boot_log.specs.declared.entry.Entry.{Entry}
use Rattle.boot_log.specs.Idling.{is_idle}
use Rattle.boot_picture.specs.declared.blocks.Block.{Block}

abbrev pub IsIdle : Entry → Type 0
IsIdle entry = is_idle entry ≡ true

-- the turns of a block
abbrev pub turns_of : List Entry → Block → List Entry
turns_of entries block = take block.turns (drop block.first entries)

-- the first turns of a list are a block: one turn, or several turns in a row that were all idle
pub record AreBlock (entries : List Entry) (turns : ℕ) : Type 0 where
  pub some : 1 ≤ turns
  pub within : turns ≤ length entries
  pub idle : 1 < turns → All IsIdle (take turns entries)

-- the block is some of these turns
pub record IsBlock (entries : List Entry) (block : Block) : Type 0 where
  pub begins : block.first ≤ length entries
  pub block_of : AreBlock (drop block.first entries) block.turns

-- the blocks are in a row: the first begins with the turn of this number, each begins where the one before it ends, and
-- the last ends where the turn of the second number begins
abbrev pub AreInARow : ℕ → List Block → ℕ → Type 0
AreInARow from [] to = from ≡ to
AreInARow from (block ∷ blocks) to = (block.first ≡ from) × AreInARow (from + block.turns) blocks to

-- the turns of the blocks, block after block, are all turns: each turn is in one block, and none is left out
pub record AreBlocksOf (entries : List Entry) (blocks : List Block) : Type 0 where
  pub each_once : flat_map (turns_of entries) blocks ≡ entries
  pub each : All (IsBlock entries) blocks
  pub in_a_row : AreInARow 0 blocks (length entries)

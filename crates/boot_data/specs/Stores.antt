-- Lines of bytes in one store, each by its mark.
use Rattle.std.specs.Prelude.{◌≤◌, ◌-◌, ℕ, List, take, drop}
use Rattle.boot_data.specs.declared.heard.Mark.{Mark}
use Rattle.boot_data.specs.Hearing.{Line}

-- the line of a mark: the bytes between its begin and its end
abbrev pub line_in : List ℕ → Mark → Line
line_in bytes mark = ((mark.thread, mark.step), take (mark.end - mark.begin) (drop mark.begin bytes))

-- the line of the mark lies within the first `many` bytes
pub record IsWithin (many : ℕ) (mark : Mark) : Type 0 where
  pub ordered : mark.begin ≤ mark.end
  pub within : mark.end ≤ many

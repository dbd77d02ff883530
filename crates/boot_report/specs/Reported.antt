-- The contents of a report of closed objects, for any closed tables that they show.
use Rattle.std.specs.Prelude.{ℕ, List, IsPermutation}
use Rattle.boot_data.specs.declared.heard.HeardPlace.{HeardPlace}
use Rattle.boot_data.specs.declared.report.Report.{Report}
use Rattle.boot_data.specs.Hearing.{Heard, Line}
use Rattle.boot_objects.specs.declared.closing.all.TornDown.{TornDown}
use Rattle.boot_laws.specs.ClosedTables.{ClosedTables}
use Rattle.boot_laws.specs.Lines.{Says}
use Rattle.boot_laws.specs.Reports.{Ascend}
use Rattle.boot_report.specs.declared.ttys.Typed.{Typed}
use Rattle.boot_report.specs.Made.{IsMade}
use Rattle.boot_report.specs.Shown.{Shows}

-- the lines that one processor heard
abbrev pub lines_of : Heard → List Line
lines_of heard = heard.lines

-- the place of a line that the processor heard, by the number of the line
abbrev pub place_of : ℕ → ℕ → Line → HeardPlace
place_of processor number line =
    record { thread = line.0.0; step = line.0.1; processor = processor; number = number }

-- the report is made from the closed objects, and its heard lines are these lines, sorted by thread and step; it says
-- the numbers of any closed tables that the closed objects show
pub record IsReported (ended : TornDown) (lines : List Line) (typed : List Typed) (r : Report) : Type 0 where
  pub heard : List Line
  pub all_heard : IsPermutation lines heard
  pub ascend : Ascend heard
  pub made : IsMade ended heard typed r
  pub says : (c : ClosedTables) → Shows c ended typed → Says ended.plan c heard r

-- The answer of a drawing of a list of events, its page, and the words for standard error if it was given words.
use Rattle.std.specs.Prelude.{◌≡◌, ℕ, List, ◌++◌, codes, Option, Result, Ok, Err}
use Rattle.std.specs.Io.KnownBytes.{Appends}
use Rattle.event_theory.specs.declared.event.Event.{Event}
use Rattle.event_theory.specs.States.{first_state}
use Rattle.boot_script.specs.declared.fault.ScriptFault.{ScriptFault}
use Rattle.boot_script.specs.declared.outcome.Replayed.{Replayed}
use Rattle.boot_script.specs.declared.outcome.ReplayFault.{ReplayFault}
use Rattle.boot_script.specs.Exits.{AnswersInput}
use Rattle.boot_script.specs.Printed.{end_of_line}
use Rattle.draw.specs.declared.history.History.{History}
use Rattle.svg.specs.declared.shapes.Picture.{Picture}
use Rattle.draw.specs.Histories.{IsHistory}
use Rattle.svg.specs.Pictures.{picture_text}

-- the text has no fault, its events on a fresh core have this answer, and the page is the text of a picture
abbrev pub IsDrawn : Result (ℕ × List (ℕ × Event)) ScriptFault → Replayed → List ℕ → Type 0
IsDrawn (Err fault) replayed page = ⊥
IsDrawn (Ok said) replayed page =
    (past : History) × IsHistory past said.1 (first_state said.0) × (replayed ≡ past.replayed)
    × ((picture : Picture) × (page ≡ picture_text picture))

-- a page of such a drawing is appended
abbrev pub IsDrawing :
    Result (ℕ × List (ℕ × Event)) ScriptFault → Replayed → Option (List ℕ) → Option (List ℕ) → Type 0
IsDrawing said replayed old new = (page : List ℕ) × IsDrawn said replayed page × Appends old new page

-- the words for standard error if the program was given words
abbrev pub usage_words : List ℕ
usage_words = codes "usage: draw < LIST" ++ end_of_line

-- the answer is correct for the bytes that were read, if known; if a drawing was printed, exactly its page is appended
abbrev pub IsDrawingOf : Option (List ℕ) → Result Replayed ReplayFault → Option (List ℕ) → Option (List ℕ) → Type 0
IsDrawingOf known answer old new = AnswersInput IsDrawing known answer old new

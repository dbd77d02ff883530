-- Bytes that are typed into the lines of ttys.
use Rattle.std.specs.Prelude.{◌≡◌, List, [], ◌∷◌, ◌++◌, Result, Ok, Err}
use Rattle.boot_data.specs.declared.plan.PlannedTty.{PlannedTty}
use Rattle.spsc_line.specs.declared.line_in.LineIn.{LineIn}
use Rattle.spsc_line.specs.Lines.{SameIn, bytes_sent}

module _ {H N : Type 0} where
  -- if the tty's device was started, the tty's bytes were sent, in their order; else none was sent
  abbrev pub IsTyped : Result H N → PlannedTty → LineIn → LineIn → Type 0
  IsTyped (Err lost) tty line line' = line' ≡ line
  IsTyped (Ok device) tty line line' = SameIn line line' × (bytes_sent line' ≡ bytes_sent line ++ tty.typed)

  -- each line was typed into so, for each tty with its device and its line, in their order
  abbrev pub AreTyped : List PlannedTty → List (Result H N) → List LineIn → List LineIn → Type 0
  AreTyped [] [] [] [] = Unit {0}
  AreTyped (tty ∷ ttys) (device ∷ devices) (line ∷ lines) (line' ∷ lines') =
      IsTyped device tty line line' × AreTyped ttys devices lines lines'
  AreTyped ttys devices lines lines' = ⊥

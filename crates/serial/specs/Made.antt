-- The notes from which the collector was made.
use Rattle.std.specs.Prelude.{◌≡◌, ℕ, List}
use Rattle.serial.specs.declared.collector.Collector.{Collector}
use Rattle.serial.specs.Notes.{first_bytes, second_bytes}
use Rattle.serial.specs.Texts.{text_of, collected}

-- each port's page is the result of the bytes of that port's notes, in their order, on a blank page
abbrev pub IsMadeBy : Collector → List ℕ → Type 0
IsMadeBy collector notes = (text_of collector.first ≡ collected (first_bytes notes))
    × (text_of collector.second ≡ collected (second_bytes notes))

-- The common parts of both kinds of script, and the list of events that a text says, or its first fault.
use Rattle.std.specs.Prelude.{ℕ, ◌+◌, Bool, true, List, [], ◌∷◌, length, Result, Ok, Err, nat_lt, ◌==◌}
use Rattle.std.specs.Prelude.{if◌then◌else◌}
use Rattle.std.specs.List.{list_all}
use Rattle.std.specs.Str.{bytes_eq}
use Rattle.event_theory.specs.declared.event.Event.{Event}
use Rattle.boot_script.specs.declared.fault.ScriptRefusal.{ScriptRefusal}
use Rattle.boot_script.specs.declared.fault.ScriptRefusal.TheVariants.{NotVersion, TooMany, NotAscii}
use Rattle.boot_script.specs.declared.fault.ScriptFault.{ScriptFault}
use Rattle.boot_script.specs.declared.version.Script.{Script}
use Rattle.boot_script.specs.declared.version.Script.TheVariants.{Events}
use Rattle.boot_script.specs.declared.version.Version.{Version}
use Rattle.boot_script.specs.declared.version.Version.TheVariants.{One, Two, Three}
use Rattle.boot_script.specs.Words.{◌>>=◌, lines_of}
use Rattle.boot_script.specs.Versions.{elements_of, version_line}
use Rattle.boot_script.specs.Grammar.{is_printable, line_event}

-- whether a line says nothing: it is empty or a comment
abbrev pub says_nothing : List ℕ → Bool
says_nothing [] = true
says_nothing (first ∷ bytes) = first == 35

-- a refusal is a fault of its line
abbrev pub at_line : {A : Type 0} → ℕ → Result A ScriptRefusal → Result A ScriptFault
at_line line (Ok x) = Ok x
at_line line (Err refusal) = Err (record { line = line; refusal = refusal })

-- the events that the lines say, each with the number of its line; the first line has this number
unfoldable pub events_from : Version → ℕ → List (List ℕ) → Result (List (ℕ × Event)) ScriptFault
events_from version number [] = Ok []
events_from version number (line ∷ lines) =
    if says_nothing line then events_from version (number + 1) lines
    else at_line number (line_event version line)
    >>= λ event. events_from version (number + 1) lines
    >>= λ events. Ok ((number, event) ∷ events)

-- the version that the first line of a script names
unfoldable pub version_of : Script → List ℕ → Result Version ScriptRefusal
version_of script line =
    if list_all is_printable line then
    (if bytes_eq line (version_line script One) then Ok One
    else if bytes_eq line (version_line script Two) then Ok Two
    else if bytes_eq line (version_line script Three) then Ok Three
    else Err NotVersion)
    else Err NotAscii

-- the version that the first line names, and the lines after it
unfoldable pub versioned : Script → List (List ℕ) → Result (Version × List (List ℕ)) ScriptFault
versioned script [] = Err (record { line = 1; refusal = NotVersion })
versioned script (first ∷ lines) = at_line 1 (version_of script first) >>= λ version. Ok (version, lines)

-- the version of a text of at most 65,536 bytes, and the lines after its first line
unfoldable pub opening_of : Script → List ℕ → Result (Version × List (List ℕ)) ScriptFault
opening_of script text =
    if nat_lt 65536 (length text) then Err (record { line = 0; refusal = TooMany })
    else versioned script (lines_of text)

-- the content of a list of events: how many elements its version has, and the events, each with the number of its line
unfoldable pub text_events : List ℕ → Result (ℕ × List (ℕ × Event)) ScriptFault
text_events text = do
  opening ← opening_of Events text
  events ← events_from opening.0 2 opening.1
  Ok (elements_of opening.0, events)

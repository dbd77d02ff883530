-- A trace as one JSON value, and its text.
use Rattle.std.specs.Prelude.{◌≡◌, ◌≤◌, ℕ, List, [], ◌∷◌, Option, codes}
use Rattle.std.specs.Io.KnownBytes.{Appends}
use Rattle.std.specs.List.{AllByRecursion, flat_map}
use Rattle.json.specs.Json.{Json, array}
use Rattle.json.specs.Print.{print}
use Rattle.json.specs.Tree.{HasNumbers, depth, json_tokens}
use Rattle.trace_events.specs.Objects.{Named, items_of, object_of, worded}

-- the text of a value, with no space in it
abbrev pub json_text : Json → List ℕ
json_text j = print (json_tokens j)

-- the member of the trace that has the events
abbrev pub events_member : List Json → Named
events_member events = record { name = codes "traceEvents"; value = array (items_of events) }

-- a trace of these events, in the object format, whose times are shown in nanoseconds
abbrev pub trace_json : List Json → Json
trace_json events = object_of (events_member events ∷ worded (codes "displayTimeUnit") (codes "ns") ∷ [])

-- the text of a trace
unfoldable pub trace_text : List Json → List ℕ
trace_text events = json_text (trace_json events)

-- the text is that of an event: its numbers are numbers of JSON, and it is an object with at most one in it
pub record IsEvent (text : List ℕ) (event : Json) : Type 0 where
  pub is : text ≡ json_text event
  pub numbers : HasNumbers event
  pub shallow : depth event ≤ 2

-- the texts of events that come after another one, each with a comma before it
abbrev pub later_texts : List Json → List ℕ
later_texts events = flat_map (λ event. 44 ∷ json_text event) events

-- the texts of events were appended, each of which can be read back
pub record Prints (old new : Option (List ℕ)) (events : List Json) : Type 0 where
  pub text : Appends old new (later_texts events)
  pub numbers : AllByRecursion HasNumbers events
  pub shallow : AllByRecursion (λ event. depth event ≤ 2) events

-- The events of a trace, each as one JSON object. All of them are in one process, whose number is 1.
use Rattle.std.specs.Prelude.{ℕ, ◌-◌, List, [], ◌∷◌, ◌++◌, codes}
use Rattle.json.specs.Json.{Json}
use Rattle.json.specs.Token.{Token, begin_object, key}
use Rattle.trace_events.specs.Objects.{Named, numbered, timed, worded, nested, object_of, list_tokens}

-- the members that each event has: its name, its category, its phase, its process, and its track
abbrev pub head : List ℕ → List ℕ → List ℕ → ℕ → List Named
head name category phase track =
    worded (codes "name") name ∷ worded (codes "cat") category ∷ worded (codes "ph") phase
    ∷ numbered (codes "pid") 1 ∷ numbered (codes "tid") track ∷ []

-- a metadata event: the name of a track, or of the process
abbrev pub metadata_json : List ℕ → ℕ → List ℕ → Json
metadata_json kind track label =
    object_of (head kind (codes "__metadata") (codes "M") track
    ++ nested (codes "args") (worded (codes "name") label ∷ []) ∷ [])

-- a complete event: a turn, from its start to its end, with its arguments
abbrev pub turn_json : List ℕ → ℕ → ℕ → ℕ → List Named → Json
turn_json name track from until args =
    object_of (head name (codes "turn") (codes "X") track
    ++ timed (codes "ts") from ∷ timed (codes "dur") (until - from) ∷ nested (codes "args") args ∷ [])

-- the tokens of a turn up to its arguments
unfoldable pub turn_opening : List ℕ → ℕ → ℕ → ℕ → List Token
turn_opening name track from until =
    begin_object ∷ list_tokens (head name (codes "turn") (codes "X") track
    ++ timed (codes "ts") from ∷ timed (codes "dur") (until - from) ∷ [])
    ++ key (codes "args") ∷ begin_object ∷ []

-- an instant event on a track: so many turns of the processor after this time are missing
abbrev pub missed_json : ℕ → ℕ → ℕ → ℕ → Json
missed_json track at processor missed =
    object_of (head (codes "turns not recorded") (codes "turn") (codes "i") track
    ++ timed (codes "ts") at ∷ worded (codes "s") (codes "t")
    ∷ nested (codes "args") (numbered (codes "processor") processor ∷ numbered (codes "turns") missed ∷ []) ∷ [])

-- the event at which a line starts
abbrev pub line_start_json : ℕ → ℕ → ℕ → Json
line_start_json id track time =
    object_of (head (codes "line") (codes "line") (codes "s") track
    ++ numbered (codes "id") id ∷ timed (codes "ts") time ∷ [])

-- the event at which a line arrives: it binds to the turn around it
abbrev pub line_end_json : ℕ → ℕ → ℕ → Json
line_end_json id track time =
    object_of (head (codes "line") (codes "line") (codes "f") track
    ++ worded (codes "bp") (codes "e") ∷ numbered (codes "id") id ∷ timed (codes "ts") time ∷ [])

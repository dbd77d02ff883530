-- A pump: what a caller sees of it, and what it does for a note.
use Rattle.std.specs.Prelude.{◌≡◌, ℕ, ◌+◌, ◌||◌, ◌%◌, ◌^◌, Bool, List, [], ◌++◌, length, if◌then◌else◌}
use Rattle.claim_queue.specs.declared.ends.QueueEnd.{QueueEnd}
use Rattle.claim_queue.specs.Handles.{view_of}
use Rattle.claim_queue.specs.Lines.{lines_put, lines_taken}
use Rattle.proc_chain.specs.declared.quaject.Ran.{Ran}
use Rattle.proc_chain.specs.declared.quaject.Ran.TheVariants.{Worked, Nothing}
use Rattle.quajects.specs.declared.world.Queues.{Queues}
use Rattle.quajects.specs.declared.piping.Pump.{Pump}
use Rattle.quajects.specs.declared.ports.Port.{Port}
use Rattle.quajects.specs.Lines.{held_line}
use Rattle.quajects.specs.Ports.{Post, IsEndAt, port, post_of}
use Rattle.quajects.specs.Runs.{MadeBy}
use Rattle.quajects.specs.Tries.{Refilled, Flushed}

-- the end at which the pump takes lines
abbrev pub source_of : Pump → QueueEnd 64
source_of pump = pump.source.end

-- the end at which the pump puts lines
abbrev pub target_of : Pump → QueueEnd 64
target_of pump = pump.target.end

-- the source end with the index of its queue
abbrev pub source_port : Pump → Port 64
source_port pump = port pump.source.index (source_of pump)

-- the target end with the index of its queue
abbrev pub target_port : Pump → Port 64
target_port pump = port pump.target.index (target_of pump)

-- the parts of the source end that no note changes
abbrev pub source_post : Pump → Post
source_post pump = post_of pump.source.index (source_of pump)

-- the parts of the target end that no note changes
abbrev pub target_post : Pump → Post
target_post pump = post_of pump.target.index (target_of pump)

-- the line that the pump holds; empty if it holds none
abbrev pub held_of : Pump → List ℕ
held_of pump = pump.held.items

-- how many notes the pump has run, modulo 2^64
abbrev pub notes_of : Pump → ℕ
notes_of pump = pump.notes

-- the pump has these ends of the queues with these indexes, holds nothing and has run no note
pub record IsNew (from : ℕ) (source : QueueEnd 64) (to : ℕ) (target : QueueEnd 64) (pump : Pump) : Type 0 where
  pub from_is : pump.source.index ≡ from
  pub source_is : source_of pump ≡ source
  pub to_is : pump.target.index ≡ to
  pub target_is : target_of pump ≡ target
  pub none_held : held_of pump ≡ []
  pub none_run : notes_of pump ≡ 0

-- the pump's law: the lines taken are the lines put, followed by the line held, if any
abbrev pub IsKept : Pump → Type 0
IsKept pump = lines_taken (view_of (source_of pump)) ≡ lines_put (view_of (target_of pump)) ++ held_line (held_of pump)

-- the pump put nothing at its source, and took nothing at its target
abbrev pub KeepsSides : Pump → Type 0
KeepsSides pump = (lines_put (view_of (source_of pump)) ≡ []) × (lines_taken (view_of (target_of pump)) ≡ [])

-- the pump has run as many notes as this list has, modulo 2^64
abbrev pub HasRun : Pump → List ℕ → Type 0
HasRun pump notes = notes_of pump ≡ length notes % 2 ^ 64

-- each end of the pump is one of the queue that it names
abbrev pub Fits : Queues → Pump → Type 0
Fits world pump = IsEndAt world.small.items pump.source.index (source_of pump)
    × IsEndAt world.small.items pump.target.index (target_of pump)

-- both have the same ends of the same queues, with the same shares, and each end has shut its queue equally often
pub record SameEnds (old new : Pump) : Type 0 where
  pub source : source_post new ≡ source_post old
  pub target : target_post new ≡ target_post old

-- If nothing was held, there was one try to take a line. Then there was one try to put the line held, if any
pub record RanPump (old new : Pump) (answer : Ran) : Type 0 where
  pub line : List ℕ
  pub took : Bool
  pub put : Bool
  pub refilled : Refilled 64 (view_of (source_of old)) (held_of old) took line
      (view_of (source_of new))
  pub flushed : Flushed 64 (view_of (target_of old)) line put (held_of new)
      (view_of (target_of new))
  pub answered : answer ≡ (if took || put then Worked else Nothing)
  pub noted : notes_of new ≡ (notes_of old + 1) % 2 ^ 64
  pub same : SameEnds old new

-- the second pump results from the first by as many runs as this list has notes
abbrev pub MadeOf : Pump → Pump → List ℕ → Type 0
MadeOf = MadeBy SameEnds HasRun RanPump

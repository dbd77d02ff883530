-- A switch: what a caller sees of it, and what it does for a note.
use Rattle.std.specs.Prelude.{◌≡◌, ℕ, ◌+◌, ◌||◌, ◌%◌, ◌^◌, Bool, List, [], ◌++◌, map, length, Option, if◌then◌else◌}
use Rattle.std.specs.List.{flat_map, AllByRecursion}
use Rattle.claim_queue.specs.declared.ends.QueueEnd.{QueueEnd}
use Rattle.claim_queue.specs.Handles.{view_of}
use Rattle.claim_queue.specs.Lines.{lines_put, lines_taken}
use Rattle.proc_chain.specs.declared.quaject.Ran.{Ran}
use Rattle.proc_chain.specs.declared.quaject.Ran.TheVariants.{Worked, Nothing}
use Rattle.quajects.specs.declared.world.Queues.{Queues}
use Rattle.quajects.specs.declared.ports.Port.{Port}
use Rattle.quajects.specs.declared.switching.Switch.{Switch}
use Rattle.quajects.specs.Ports.{Post, IsEndAt, port, post_of}
use Rattle.quajects.specs.Runs.{MadeBy}
use Rattle.quajects.specs.Tries.{Refilled}
use Rattle.quajects.specs.Routes.{Given, given_key, given_index, given_end, key_of, index_of, end_of, port_of, way_post}
use Rattle.quajects.specs.Routes.{puts_of, TookNothing}
use Rattle.quajects.specs.Routes.{RoutesEach, RoutesRest, WaysFit, Switched}

-- the end at which the switch takes lines
abbrev pub source_of : Switch → QueueEnd 64
source_of switch = switch.source.end

-- the end at which the switch puts the lines that begin with no key
abbrev pub other_of : Switch → QueueEnd 64
other_of switch = switch.other.end

-- the line that the switch holds; empty if it holds none
abbrev pub held_of : Switch → List ℕ
held_of switch = switch.held.items

-- how many notes the switch has run, modulo 2^64
abbrev pub notes_of : Switch → ℕ
notes_of switch = switch.notes

-- the ends of the switch's ways, in their order
abbrev pub way_ends : Switch → List (Option (QueueEnd 64))
way_ends switch = map end_of switch.ways

-- the source end with the index of its queue
abbrev pub source_port : Switch → Port 64
source_port switch = port switch.source.index (source_of switch)

-- the end of the other target with the index of its queue
abbrev pub other_port : Switch → Port 64
other_port switch = port switch.other.index (other_of switch)

-- the ends of the ways with the indexes of their queues
abbrev pub way_ports : Switch → List (Option (Port 64))
way_ports switch = map port_of switch.ways

-- the parts of the source end that no note changes
abbrev pub source_post : Switch → Post
source_post switch = post_of switch.source.index (source_of switch)

-- the parts of the other target's end that no note changes
abbrev pub other_post : Switch → Post
other_post switch = post_of switch.other.index (other_of switch)

-- the parts of the ways' ends that no note changes
abbrev pub way_posts : Switch → List (Option Post)
way_posts switch = map way_post switch.ways

-- the lines put at all targets of the switch
abbrev pub all_puts : Switch → List (List ℕ)
all_puts switch = lines_put (view_of (other_of switch)) ++ flat_map puts_of switch.ways

-- The switch has these ends of the queues with these indexes, and these ways. It holds nothing and has run no note
pub record IsNew (from : ℕ) (source : QueueEnd 64) (to : ℕ) (other : QueueEnd 64) (given : List Given)
    (switch : Switch) : Type 0 where
  pub from_is : switch.source.index ≡ from
  pub source_is : source_of switch ≡ source
  pub to_is : switch.other.index ≡ to
  pub other_is : other_of switch ≡ other
  pub keys_are : map key_of switch.ways ≡ map given_key given
  pub indexes_are : map index_of switch.ways ≡ map given_index given
  pub ends_are : way_ends switch ≡ map given_end given
  pub none_held : held_of switch ≡ []
  pub none_run : notes_of switch ≡ 0

-- The switch's law. For each way, the lines taken that begin with its key are the lines put there, followed by the held
-- line if it begins so. For the other target this holds of the lines that begin with no key
pub record IsKept (switch : Switch) : Type 0 where
  pub each : RoutesEach switch.ways (lines_taken (view_of (source_of switch))) (held_of switch)
  pub rest : RoutesRest switch.ways (lines_taken (view_of (source_of switch))) (held_of switch)
      (lines_put (view_of (other_of switch)))

-- the switch put nothing at its source, and took nothing at its targets
abbrev pub KeepsSides : Switch → Type 0
KeepsSides switch = (lines_put (view_of (source_of switch)) ≡ [])
    × (lines_taken (view_of (other_of switch)) ≡ []) × AllByRecursion TookNothing switch.ways

-- the switch has run as many notes as this list has, modulo 2^64
abbrev pub HasRun : Switch → List ℕ → Type 0
HasRun switch notes = notes_of switch ≡ length notes % 2 ^ 64

-- each end of the switch is one of the queue that it names
abbrev pub Fits : Queues → Switch → Type 0
Fits world switch = IsEndAt world.small.items switch.source.index (source_of switch)
    × IsEndAt world.small.items switch.other.index (other_of switch) × WaysFit world.small.items switch.ways

-- Both have the same ends of the same queues, with the same shares, and each end has shut its queue equally often. Both
-- have the same keys
pub record SameEnds (old new : Switch) : Type 0 where
  pub source : source_post new ≡ source_post old
  pub other : other_post new ≡ other_post old
  pub ways : way_posts new ≡ way_posts old
  pub keys : map key_of new.ways ≡ map key_of old.ways

-- If nothing was held, there was one try to take a line. Then there was one try to put the line held, if any, at the
-- target that it chooses
pub record RanSwitch (old new : Switch) (answer : Ran) : Type 0 where
  pub line : List ℕ
  pub took : Bool
  pub put : Bool
  pub refilled : Refilled 64 (view_of (source_of old)) (held_of old) took line
      (view_of (source_of new))
  pub switched : Switched old.ways old.other line put (held_of new) new.ways new.other
  pub answered : answer ≡ (if took || put then Worked else Nothing)
  pub noted : notes_of new ≡ (notes_of old + 1) % 2 ^ 64
  pub same : SameEnds old new

-- the second switch results from the first by as many runs as this list has notes
abbrev pub MadeOf : Switch → Switch → List ℕ → Type 0
MadeOf = MadeBy SameEnds HasRun RanSwitch

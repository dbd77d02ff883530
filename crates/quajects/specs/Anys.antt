-- Any quaject: what a caller sees of it, what it keeps, and what it does for a note.
use Rattle.std.specs.Prelude.{◌≡◌, ℕ, List, [], ◌∷◌, ◌++◌, Option, Some, None}
use Rattle.claim_queue.specs.declared.ends.QueueEnd.{QueueEnd}
use Rattle.claim_queue.specs.Handles.{view_of}
use Rattle.claim_queue.specs.Lines.{lines_put, lines_taken}
use Rattle.proc_chain.specs.declared.quaject.Ran.{Ran}
use Rattle.quajects.specs.declared.world.Queues.{Queues}
use Rattle.quajects.specs.declared.any.AnyQuaject.{AnyQuaject}
use Rattle.quajects.specs.declared.any.AnyQuaject.TheVariants as any
use Rattle.quajects.specs.declared.ports.Port.{Port}
use Rattle.quajects.specs.Ports.{Post, NoneShut}
use Rattle.quajects.specs.Runs.{MadeBy}
use Rattle.quajects.specs.Pumps as pumps
use Rattle.quajects.specs.Terminals as terminals
use Rattle.quajects.specs.Switches as switches

-- how many notes the quaject has run, modulo 2^64
abbrev pub notes_of : AnyQuaject → ℕ
notes_of (any.Cooked tty) = terminals.notes_of tty
notes_of (any.Pump pump) = pumps.notes_of pump
notes_of (any.Switch switch) = switches.notes_of switch

-- the lines that the quaject took
abbrev pub all_taken : AnyQuaject → List (List ℕ)
all_taken (any.Cooked tty) = lines_taken (view_of (terminals.raw_of tty))
all_taken (any.Pump pump) = lines_taken (view_of (pumps.source_of pump))
all_taken (any.Switch switch) = lines_taken (view_of (switches.source_of switch))

-- the lines that the quaject put, at all its targets
abbrev pub all_puts : AnyQuaject → List (List ℕ)
all_puts (any.Cooked tty) =
    lines_put (view_of (terminals.line_of tty)) ++ lines_put (view_of (terminals.screen_of tty))
all_puts (any.Pump pump) = lines_put (view_of (pumps.target_of pump))
all_puts (any.Switch switch) = switches.all_puts switch

-- the line that the quaject holds; empty if it holds none
abbrev pub held_of : AnyQuaject → List ℕ
held_of (any.Cooked tty) = terminals.held_of tty
held_of (any.Pump pump) = pumps.held_of pump
held_of (any.Switch switch) = switches.held_of switch

-- the quaject has run as many notes as this list has, modulo 2^64
abbrev pub HasRun : AnyQuaject → List ℕ → Type 0
HasRun (any.Cooked tty) notes = terminals.HasRun tty notes
HasRun (any.Pump pump) notes = pumps.HasRun pump notes
HasRun (any.Switch switch) notes = switches.HasRun switch notes

-- each end of the quaject is one of the queue that it names
abbrev pub Fits : Queues → AnyQuaject → Type 0
Fits world (any.Cooked tty) = terminals.Fits world tty
Fits world (any.Pump pump) = pumps.Fits world pump
Fits world (any.Switch switch) = switches.Fits world switch

-- Both are of one kind, with the same ends of the same queues and the same shares. Each end has shut its queue equally
-- often. A switch has the same keys
abbrev pub SameEnds : AnyQuaject → AnyQuaject → Type 0
SameEnds (any.Cooked old) (any.Cooked new) = terminals.SameEnds old new
SameEnds (any.Pump old) (any.Pump new) = pumps.SameEnds old new
SameEnds (any.Switch old) (any.Switch new) = switches.SameEnds old new
SameEnds _ _ = ⊥

-- the law of the quaject's kind holds
abbrev pub IsKept : AnyQuaject → Type 0
IsKept (any.Cooked tty) = terminals.IsKept tty
IsKept (any.Pump pump) = pumps.IsKept pump
IsKept (any.Switch switch) = switches.IsKept switch

-- the quaject put nothing at an end at which it takes lines, and took nothing at an end at which it puts lines
abbrev pub KeepsSides : AnyQuaject → Type 0
KeepsSides (any.Cooked tty) = terminals.KeepsSides tty
KeepsSides (any.Pump pump) = pumps.KeepsSides pump
KeepsSides (any.Switch switch) = switches.KeepsSides switch

-- none of the quaject's ends has shut its queue
abbrev pub HasShutNothing : AnyQuaject → Type 0
HasShutNothing (any.Cooked tty) =
    NoneShut (Some (terminals.raw_post tty) ∷ Some (terminals.line_post tty) ∷ Some (terminals.screen_post tty) ∷ [])
HasShutNothing (any.Pump pump) = NoneShut (Some (pumps.source_post pump) ∷ Some (pumps.target_post pump) ∷ [])
HasShutNothing (any.Switch switch) =
    NoneShut (Some (switches.source_post switch) ∷ Some (switches.other_post switch) ∷ switches.way_posts switch)

-- the quaject is of the same kind as before, and made the tries of that kind
abbrev pub RanAny : AnyQuaject → AnyQuaject → Ran → Type 0
RanAny (any.Cooked old) (any.Cooked new) answer = terminals.RanCooked old new answer
RanAny (any.Pump old) (any.Pump new) answer = pumps.RanPump old new answer
RanAny (any.Switch old) (any.Switch new) answer = switches.RanSwitch old new answer
RanAny _ _ answer = ⊥

-- The second quaject results from the first by as many runs as this list has notes: its numbers and its ends changed by
-- the tries of these runs and by nothing else
abbrev pub MadeOf : AnyQuaject → AnyQuaject → List ℕ → Type 0
MadeOf = MadeBy SameEnds HasRun RanAny

-- these are the quaject's ends, of small and of large queues, in the order of `new`, followed by None
abbrev pub EndsOf : AnyQuaject → List (Option (QueueEnd 64)) × List (Option (QueueEnd 256)) → Type 0
EndsOf (any.Cooked tty) ends = (ends.0 ≡ Some (terminals.raw_of tty) ∷ None ∷ None ∷ None ∷ None ∷ None ∷ [])
    × (ends.1 ≡ Some (terminals.line_of tty) ∷ Some (terminals.screen_of tty) ∷ [])
EndsOf (any.Pump pump) ends =
    (ends.0 ≡ Some (pumps.source_of pump) ∷ Some (pumps.target_of pump) ∷ None ∷ None ∷ None ∷ None ∷ [])
    × (ends.1 ≡ None ∷ None ∷ [])
EndsOf (any.Switch switch) ends =
    (ends.0 ≡ Some (switches.source_of switch) ∷ Some (switches.other_of switch) ∷ switches.way_ends switch)
    × (ends.1 ≡ None ∷ None ∷ [])

-- these are the parts of the quaject's ends that no note changes, in the same order as the ends
abbrev pub PostsOf : AnyQuaject → List (Option Post) × List (Option Post) → Type 0
PostsOf (any.Cooked tty) posts = (posts.0 ≡ Some (terminals.raw_post tty) ∷ None ∷ None ∷ None ∷ None ∷ None ∷ [])
    × (posts.1 ≡ Some (terminals.line_post tty) ∷ Some (terminals.screen_post tty) ∷ [])
PostsOf (any.Pump pump) posts =
    (posts.0 ≡ Some (pumps.source_post pump) ∷ Some (pumps.target_post pump) ∷ None ∷ None ∷ None ∷ None ∷ [])
    × (posts.1 ≡ None ∷ None ∷ [])
PostsOf (any.Switch switch) posts =
    (posts.0 ≡ Some (switches.source_post switch) ∷ Some (switches.other_post switch) ∷ switches.way_posts switch)
    × (posts.1 ≡ None ∷ None ∷ [])

-- these are the quaject's ends with the indexes of their queues, in the same order as the ends
abbrev pub PortsOf : AnyQuaject → List (Option (Port 64)) × List (Option (Port 256)) → Type 0
PortsOf (any.Cooked tty) ports = (ports.0 ≡ Some (terminals.raw_port tty) ∷ None ∷ None ∷ None ∷ None ∷ None ∷ [])
    × (ports.1 ≡ Some (terminals.line_port tty) ∷ Some (terminals.screen_port tty) ∷ [])
PortsOf (any.Pump pump) ports =
    (ports.0 ≡ Some (pumps.source_port pump) ∷ Some (pumps.target_port pump) ∷ None ∷ None ∷ None ∷ None ∷ [])
    × (ports.1 ≡ None ∷ None ∷ [])
PortsOf (any.Switch switch) ports =
    (ports.0 ≡ Some (switches.source_port switch) ∷ Some (switches.other_port switch) ∷ switches.way_ports switch)
    × (ports.1 ≡ None ∷ None ∷ [])

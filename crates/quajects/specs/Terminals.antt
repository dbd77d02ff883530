-- A cooked tty: what a caller sees of it, and what it does for a note.
use Rattle.std.specs.Prelude.{◌≡◌, ◌≢◌, ℕ, ◌+◌, ◌||◌, ◌%◌, ◌^◌, Bool, true, List, [], ◌++◌, map, length}
use Rattle.std.specs.Prelude.{if◌then◌else◌}
use Rattle.claim_queue.specs.declared.ends.QueueEnd.{QueueEnd}
use Rattle.claim_queue.specs.Handles.{view_of}
use Rattle.claim_queue.specs.Lines.{lines_put, lines_taken}
use Rattle.proc_chain.specs.declared.quaject.Ran.{Ran}
use Rattle.proc_chain.specs.declared.quaject.Ran.TheVariants.{Worked, Nothing}
use Rattle.quajects.specs.declared.world.Queues.{Queues}
use Rattle.quajects.specs.declared.ports.Port.{Port}
use Rattle.quajects.specs.declared.terminal.CookedTty.{CookedTty}
use Rattle.quajects.specs.Cooked.{cooked}
use Rattle.quajects.specs.Lines.{held_line}
use Rattle.quajects.specs.Runs.{MadeBy}
use Rattle.quajects.specs.Ports.{Post, IsEndAt, port, post_of}
use Rattle.quajects.specs.Cooks.{CookedRaw, TriedLine, TriedScreen}

-- the end at which the tty takes raw lines
abbrev pub raw_of : CookedTty → QueueEnd 64
raw_of tty = tty.raw.end

-- the end of the line queue
abbrev pub line_of : CookedTty → QueueEnd 256
line_of tty = tty.line.end

-- the end of the screen queue
abbrev pub screen_of : CookedTty → QueueEnd 256
screen_of tty = tty.screen.end

-- the end of the raw queue with the queue's index
abbrev pub raw_port : CookedTty → Port 64
raw_port tty = port tty.raw.index (raw_of tty)

-- the end of the line queue with the queue's index
abbrev pub line_port : CookedTty → Port 256
line_port tty = port tty.line.index (line_of tty)

-- the end of the screen queue with the queue's index
abbrev pub screen_port : CookedTty → Port 256
screen_port tty = port tty.screen.index (screen_of tty)

-- the parts of the raw queue's end that no note changes
abbrev pub raw_post : CookedTty → Post
raw_post tty = post_of tty.raw.index (raw_of tty)

-- the parts of the line queue's end that no note changes
abbrev pub line_post : CookedTty → Post
line_post tty = post_of tty.line.index (line_of tty)

-- the parts of the screen queue's end that no note changes
abbrev pub screen_post : CookedTty → Post
screen_post tty = post_of tty.screen.index (screen_of tty)

-- the cooked line that the tty holds; empty if it holds none
abbrev pub held_of : CookedTty → List ℕ
held_of tty = tty.held.items

-- the held line is in the line queue already
abbrev pub is_in_line : CookedTty → Bool
is_in_line tty = tty.in_line

-- how many notes the tty has run, modulo 2^64
abbrev pub notes_of : CookedTty → ℕ
notes_of tty = tty.notes

-- the tty has these ends of the queues with these indexes, holds nothing and has run no note
pub record IsNew (raw : ℕ) (raw_end : QueueEnd 64) (line : ℕ) (line_end : QueueEnd 256) (screen : ℕ)
    (screen_end : QueueEnd 256) (tty : CookedTty) : Type 0 where
  pub raw_index : tty.raw.index ≡ raw
  pub raw_is : raw_of tty ≡ raw_end
  pub line_index : tty.line.index ≡ line
  pub line_is : line_of tty ≡ line_end
  pub screen_index : tty.screen.index ≡ screen
  pub screen_is : screen_of tty ≡ screen_end
  pub none_held : held_of tty ≡ []
  pub none_run : notes_of tty ≡ 0

-- The tty's law. The cooked lines of the raw lines taken are the lines put in the screen queue, followed by the held
-- line. They are the lines put in the line queue, followed by the held line if it isn't there yet. If the tty counts
-- its line as put in the line queue, a line is held
pub record IsKept (tty : CookedTty) : Type 0 where
  pub screens : map cooked (lines_taken (view_of (raw_of tty)))
      ≡ lines_put (view_of (screen_of tty)) ++ held_line (held_of tty)
  pub lines : map cooked (lines_taken (view_of (raw_of tty)))
      ≡ lines_put (view_of (line_of tty)) ++ (if is_in_line tty then [] else held_line (held_of tty))
  pub full : is_in_line tty ≡ true → held_of tty ≢ []

-- the tty put nothing in the raw queue, and took nothing from the line queue and the screen queue
abbrev pub KeepsSides : CookedTty → Type 0
KeepsSides tty = (lines_put (view_of (raw_of tty)) ≡ [])
    × (lines_taken (view_of (line_of tty)) ≡ []) × (lines_taken (view_of (screen_of tty)) ≡ [])

-- the tty has run as many notes as this list has, modulo 2^64
abbrev pub HasRun : CookedTty → List ℕ → Type 0
HasRun tty notes = notes_of tty ≡ length notes % 2 ^ 64

-- each end of the tty is one of the queue that it names
abbrev pub Fits : Queues → CookedTty → Type 0
Fits world tty = IsEndAt world.small.items tty.raw.index (raw_of tty)
    × IsEndAt world.large.items tty.line.index (line_of tty)
    × IsEndAt world.large.items tty.screen.index (screen_of tty)

-- both have the same ends of the same queues, with the same shares, and each end has shut its queue equally often
pub record SameEnds (old new : CookedTty) : Type 0 where
  pub raw : raw_post new ≡ raw_post old
  pub line : line_post new ≡ line_post old
  pub screen : screen_post new ≡ screen_post old

-- If nothing was held, there was one try to take a raw line. Then there was one try to put the held line in the line
-- queue, if it wasn't there. Then there was one try to put it in the screen queue, if it was in the line queue
pub record RanCooked (old new : CookedTty) (answer : Ran) : Type 0 where
  pub line : List ℕ
  pub in_line : Bool
  pub took : Bool
  pub put_line : Bool
  pub put_screen : Bool
  pub refilled : CookedRaw (view_of (raw_of old)) (held_of old) took line
      (view_of (raw_of new))
  pub flushed : TriedLine (view_of (line_of old)) line (is_in_line old) put_line in_line
      (view_of (line_of new))
  pub screened : TriedScreen (view_of (screen_of old)) line in_line put_screen (held_of new)
      (is_in_line new) (view_of (screen_of new))
  pub answered : answer ≡ (if took || put_line || put_screen then Worked else Nothing)
  pub noted : notes_of new ≡ (notes_of old + 1) % 2 ^ 64
  pub same : SameEnds old new

-- the second tty results from the first by as many runs as this list has notes
abbrev pub MadeOf : CookedTty → CookedTty → List ℕ → Type 0
MadeOf = MadeBy SameEnds HasRun RanCooked

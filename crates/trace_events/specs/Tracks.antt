-- The turns of threads, and when each begins on the track of its thread.
use Rattle.std.specs.Prelude.{◌≡◌, ◌≤◌, ◌+◌, ◌==◌, ◌&&◌, ◌||◌, ◌⊎◌, nat_lt, max, ℕ, Bool, List, [], ◌∷◌, ◌++◌}
use Rattle.std.specs.Prelude.{if◌then◌else◌, Option, Some, None, option_map}
use Rattle.std.specs.List.{cons_option}
use Rattle.turn_dispatch.specs.declared.dispatch.Idle.{Idle}
use Rattle.turn_dispatch.specs.declared.dispatch.Idle.TheVariants.{NothingReady, Parked, ParkLost}
use Rattle.boot_log.specs.declared.entry.Did.{Did}
use Rattle.boot_log.specs.declared.entry.Did.TheVariants as did
use Rattle.boot_log.specs.declared.entry.Entry.{Entry}
use Rattle.boot_log.specs.declared.line_turn.LineTurn.{LineTurn}
use Rattle.boot_log.specs.Kept.{Kept}
use Rattle.trace_events.specs.declared.tracks.ThreadTurn.{ThreadTurn}

-- the element that a turn without one at hand took from the ready ring, if it took one
abbrev pub element_taken : Idle → Option ℕ
element_taken (NothingReady refusal) = None
element_taken (Parked element) = Some element
element_taken (ParkLost element lost ready) = Some element

-- the element that was at hand, if there was one
abbrev pub element_of : Did → Option ℕ
element_of (did.Idle idle) = element_taken idle
element_of (did.Retired begun freed) = Some begun.element
element_of (did.Stepped begun tried counted moved line) = Some begun.element

-- the turn of a thread that an entry is, if an element was at hand
abbrev pub thread_turn_of : ℕ → ℕ → ℕ → Entry → Option ThreadTurn
thread_turn_of processor number began entry =
    option_map (λ thread. record {
      thread = thread;
      processor = processor;
      number = number;
      began = began;
      ended = entry.at;
    }) (element_of entry.did)

-- the turns of threads on a processor; the first of its turns has this number, and began at this time
abbrev pub thread_turns : ℕ → ℕ → ℕ → List Entry → List ThreadTurn
thread_turns processor number began [] = []
thread_turns processor number began (entry ∷ entries) =
    cons_option (thread_turn_of processor number began entry) (thread_turns processor (number + 1) entry.at entries)

-- the turns of threads on all processors from this number on, whose first turns began at this time
abbrev pub all_thread_turns : ℕ → ℕ → List Kept → List ThreadTurn
all_thread_turns from processor [] = []
all_thread_turns from processor (log ∷ logs) =
    thread_turns processor 0 from log.entries ++ all_thread_turns from (processor + 1) logs

-- a turn comes before another at one time: by the processor, and then by the number
abbrev pub is_first_of : ThreadTurn → ThreadTurn → Bool
is_first_of one other =
    nat_lt one.processor other.processor || (one.processor == other.processor && nat_lt one.number other.number)

-- a turn comes before another: by the clock at its end. The turns of lines have this order in `boot_log`
abbrev pub comes_before : ThreadTurn → ThreadTurn → Bool
comes_before one other = nat_lt one.ended other.ended || (one.ended == other.ended && is_first_of one other)

-- a turn comes before another of its thread
abbrev pub precedes : ThreadTurn → ThreadTurn → Bool
precedes one other = one.thread == other.thread && comes_before one other

-- the latest end of those of these turns that come before this one of its thread; 0 if none does
abbrev pub last_end : List ThreadTurn → ThreadTurn → ℕ
last_end [] turn = 0
last_end (other ∷ turns) turn = max (if precedes other turn then other.ended else 0) (last_end turns turn)

-- when a turn begins on the track of its thread: it has begun, and the thread's turns before it have ended
abbrev pub slice_start : List ThreadTurn → ThreadTurn → ℕ
slice_start turns turn = max turn.began (last_end turns turn)

-- two turns of a thread don't overlap on its track: one has ended when the other begins there
abbrev pub AreApart : (ThreadTurn → ℕ) → ThreadTurn → ThreadTurn → Type 0
AreApart begins one other =
    one.thread ≡ other.thread → (one.ended ≤ begins other) ⊎ (other.ended ≤ begins one)

-- turns are sorted by their threads, and those of a thread as they come
abbrev pub sorts_before : ThreadTurn → ThreadTurn → Bool
sorts_before one other = nat_lt one.thread other.thread || precedes one other

-- the turn of a line, as a turn of its thread
abbrev pub turn_of_line : LineTurn → ThreadTurn
turn_of_line line = record {
  thread = line.thread;
  processor = line.processor;
  number = line.turn;
  began = line.began;
  ended = line.ended;
}

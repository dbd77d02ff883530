-- The turns in which a line was put into a queue or taken from it, and the lines that passed from one to the other.
use Rattle.std.specs.Prelude.{◌≡◌, ◌≢◌, ◌≤◌, ◌<◌, ◌⊎◌, ℕ, ◌+◌, ◌==◌, ◌&&◌, ◌||◌, nat_le, nat_lt, max, Bool, true}
use Rattle.std.specs.Prelude.{List, [], ◌∷◌, ◌++◌, count_by, Option, Some, None, option_map}
use Rattle.std.specs.Str.{bytes_eq}
use Rattle.std.specs.List.{AllByRecursion, cons_option, filter, filter_map, find, slice_get}
use Rattle.boot_data.specs.declared.boot_plan.BootPlan.{BootPlan}
use Rattle.boot_data.specs.declared.plan.QueueIndex.{QueueIndex}
use Rattle.boot_log.specs.declared.entry.Did.{Did}
use Rattle.boot_log.specs.declared.entry.Did.TheVariants as did
use Rattle.boot_log.specs.declared.entry.Entry.{Entry}
use Rattle.boot_log.specs.declared.entry.HeardAnswer.TheVariants as heard
use Rattle.boot_log.specs.declared.entry.SaidAnswer.TheVariants as said
use Rattle.boot_log.specs.declared.entry.Tried.{Tried}
use Rattle.boot_log.specs.declared.entry.Tried.TheVariants as tried
use Rattle.boot_log.specs.declared.line_turn.LineTurn.{LineTurn}
use Rattle.boot_log.specs.declared.line_turn.Way.{Way}
use Rattle.boot_log.specs.declared.line_turn.Way.TheVariants.{Put, Taken}
use Rattle.boot_log.specs.declared.passing.Passing.{Passing}
use Rattle.boot_log.specs.Counting.{is_counted}
use Rattle.boot_log.specs.Kept.{Kept, end_of, part_of}
use Rattle.boot_log.specs.Queues.{has_single_lines, is_of_threads, is_same_queue}

-- the queue into which a step put a line, if it did
abbrev pub queue_put : Tried → Option QueueIndex
queue_put (tried.Say queue (said.Put woken)) = Some queue
queue_put other = None

-- the queue from which a step took a line, if it did
abbrev pub queue_taken : Tried → Option QueueIndex
queue_taken (tried.Hear queue (heard.Taken woken)) = Some queue
queue_taken other = None

-- the queue through which a step passed a line this way, if it did
abbrev pub queue_of : Way → Tried → Option QueueIndex
queue_of Put step = queue_put step
queue_of Taken step = queue_taken step

-- the turn of a line that went this way, if a turn had this result
abbrev pub line_turn_in : Way → ℕ → ℕ → ℕ → ℕ → Did → Option LineTurn
line_turn_in way processor turn began ended (did.Stepped begun step counted moved line) =
    option_map (λ queue. record {
      processor = processor;
      turn = turn;
      thread = begun.element;
      queue = queue;
      line = line;
      began = began;
      ended = ended;
    }) (queue_of way step)
line_turn_in way processor turn began ended other = None

-- the turn of a line that went this way, if the entry has one
abbrev pub line_turn_of : Way → ℕ → ℕ → ℕ → Entry → Option LineTurn
line_turn_of way processor turn began entry = line_turn_in way processor turn began entry.at entry.did

-- the turns of a processor's lines that went this way; the first of these turns has this number, and began at this time
abbrev pub line_turns : Way → ℕ → ℕ → ℕ → List Entry → List LineTurn
line_turns way processor turn began [] = []
line_turns way processor turn began (entry ∷ entries) =
    cons_option (line_turn_of way processor turn began entry) (line_turns way processor (turn + 1) entry.at entries)

-- the turns of all lines that went this way, processor by processor from this number on; all began at this time
abbrev pub all_line_turns : Way → ℕ → ℕ → List Kept → List LineTurn
all_line_turns way from processor [] = []
all_line_turns way from processor (log ∷ logs) =
    line_turns way processor 0 from log.entries ++ all_line_turns way from (processor + 1) logs

-- the turns of all lines that went this way, and that are counted
abbrev pub counted_turns : Way → BootPlan → ℕ → List Kept → List LineTurn
counted_turns way plan from logs = filter (is_counted plan from logs) (all_line_turns way from 0 logs)

-- the text of a turn's line
abbrev pub text_in : Option Kept → LineTurn → List ℕ
text_in None turn = []
text_in (Some log) turn = part_of log.bytes turn.line

abbrev pub text_of : List Kept → LineTurn → List ℕ
text_of logs turn = text_in (slice_get logs turn.processor) turn

-- two turns are of lines of one text and of one queue
abbrev pub are_same : List Kept → LineTurn → LineTurn → Bool
are_same logs one other = is_same_queue one.queue other.queue && bytes_eq (text_of logs one) (text_of logs other)

-- a turn comes before another: by the clock at its end, and at one time by the processor and the turn
abbrev pub is_before : LineTurn → LineTurn → Bool
is_before one other = nat_lt one.ended other.ended
    || (one.ended == other.ended && (nat_lt one.processor other.processor
    || (one.processor == other.processor && nat_lt one.turn other.turn)))

-- how many of these lines are of one text and queue with the line of this turn, and come before it
abbrev pub count_before : List Kept → List LineTurn → LineTurn → ℕ
count_before logs all turn = count_by (λ other. are_same logs other turn && is_before other turn) all

-- A line that was put is taken for the one that was taken: both are of one text and queue, as many lines of this text
-- were put into the queue before as were taken from it before, and the put began no later than the taking ended
abbrev pub is_passed : List Kept → List LineTurn → List LineTurn → LineTurn → LineTurn → Bool
is_passed logs puts takings put taken =
    are_same logs put taken && (count_before logs puts put == count_before logs takings taken)
    && nat_le put.began taken.ended

-- the passing of a line that was taken, if a say of the logs is joined to it
abbrev pub passing_of : List Kept → List LineTurn → List LineTurn → LineTurn → Option Passing
passing_of logs puts takings taken =
    option_map (λ put. record { said = put; heard = taken }) (find (λ put. is_passed logs puts takings put taken) puts)

-- the lines that are taken to have passed, in the order of the turns that took them, processor by processor; the first
-- turns began at this time
abbrev pub passings : BootPlan → ℕ → List Kept → List Passing
passings plan from logs =
    let puts : List LineTurn = counted_turns Put plan from logs in
    let takings : List LineTurn = counted_turns Taken plan from logs in
    filter_map (passing_of logs puts takings) takings

-- each log has all turns of its processor that ended by this time: it missed none, or has one that ended later
abbrev pub HaveAllUntil : ℕ → ℕ → List Kept → Type 0
HaveAllUntil from time logs = AllByRecursion (λ log. (log.missed ≡ 0) ⊎ (time < end_of from log.entries)) logs

-- What is known of a line that passed: only threads use its queue, line by line, its put began no later than its taking
-- ended, and each log has all turns up to both
pub record IsKnownLine (plan : BootPlan) (from : ℕ) (logs : List Kept) (passing : Passing) : Type 0 where
  pub queue : is_of_threads plan passing.said.queue ≡ true
  pub single : has_single_lines plan passing.said.queue ≡ true
  pub order : passing.said.began ≤ passing.heard.ended
  pub whole : HaveAllUntil from (max passing.said.ended passing.heard.ended) logs

-- two lines that passed were said by two turns, and heard by two turns
abbrev pub AreApart : Passing → Passing → Type 0
AreApart one other = (one.said ≢ other.said) × (one.heard ≢ other.heard)

-- each line passes once
abbrev pub PassOnce : List Passing → Type 0
PassOnce [] = Unit {0}
PassOnce (passing ∷ passings) = AllByRecursion (AreApart passing) passings × PassOnce passings

-- The arguments of a turn: what it named, and what came of it.
use Rattle.std.specs.Prelude.{ℕ, ◌==◌, List, [], ◌∷◌, ◌++◌, codes, Bool, Option, Some, None, Result, Ok, Err}
use Rattle.std.specs.Prelude.{if◌then◌else◌}
use Rattle.boot_data.specs.declared.boot_plan.BootPlan.{BootPlan}
use Rattle.boot_data.specs.declared.plan.QueueIndex.{QueueIndex}
use Rattle.boot_data.specs.declared.plan.QueueIndex.TheVariants.{Small}
use Rattle.boot_script.specs.Reports.{heard_text}
use Rattle.claim_queue.specs.declared.claim.ClaimRefusal.{ClaimRefusal}
use Rattle.claim_queue.specs.declared.claim.ClaimRefusal.TheVariants as claims
use Rattle.claim_queue.specs.declared.take.TakeRefusal.{TakeRefusal}
use Rattle.claim_queue.specs.declared.take.TakeRefusal.TheVariants as takes
use Rattle.meters.specs.declared.gauges.AdvanceRefusal.{AdvanceRefusal}
use Rattle.proc_chain.specs.declared.chaining.ChainRefusal.{ChainRefusal}
use Rattle.proc_chain.specs.declared.chaining.ChainRefusal.TheVariants as chains
use Rattle.thread_table.specs.declared.states.Lost.{Lost}
use Rattle.turn_dispatch.specs.declared.counting.Counted.{Counted}
use Rattle.turn_dispatch.specs.declared.counting.Counted.TheVariants.{Undone, Done, Spent}
use Rattle.turn_dispatch.specs.declared.dispatch.Begun.{Begun}
use Rattle.turn_dispatch.specs.declared.dispatch.Idle.{Idle}
use Rattle.turn_dispatch.specs.declared.dispatch.Idle.TheVariants.{NothingReady, Parked, ParkLost}
use Rattle.turn_dispatch.specs.declared.waking.Woken.{Woken}
use Rattle.turn_io.specs.declared.poking.Poked.{Poked}
use Rattle.turn_io.specs.declared.poking.Poked.TheVariants.{Ran, Left}
use Rattle.boot_log.specs.declared.entry.Did.{Did}
use Rattle.boot_log.specs.declared.entry.Did.TheVariants as did
use Rattle.boot_log.specs.declared.entry.Entry.{Entry}
use Rattle.boot_log.specs.declared.entry.HeardAnswer.{HeardAnswer}
use Rattle.boot_log.specs.declared.entry.HeardAnswer.TheVariants as hears
use Rattle.boot_log.specs.declared.entry.SaidAnswer.{SaidAnswer}
use Rattle.boot_log.specs.declared.entry.SaidAnswer.TheVariants as says
use Rattle.boot_log.specs.declared.entry.Tried.{Tried}
use Rattle.boot_log.specs.declared.entry.Tried.TheVariants.{Say, Hear, Wait, Wake, Signal, Stop, Start}
use Rattle.boot_log.specs.declared.entry.Tried.TheVariants.{Tick, Poke, Pass, Close}
use Rattle.trace_events.specs.Names.{gauge_text, mover_text, queue_text, thread_text, threads_text}
use Rattle.trace_events.specs.Objects.{Named, numbered, worded}
use Rattle.trace_events.specs.TurnNames.{way_name}

-- the threads of a mask, by their names
abbrev pub threads_args : BootPlan → List ℕ → ℕ → List Named
threads_args plan name mask = worded name (threads_text plan mask) ∷ []

-- the threads that were woken, if those who wait were woken at all
abbrev pub woken_args : BootPlan → List ℕ → Option Woken → List Named
woken_args plan name None = []
woken_args plan name (Some woken) = threads_args plan name woken.taken

-- a line, as a report writes it
abbrev pub line_args : List ℕ → List Named
line_args line = worded (codes "line") (heard_text line) ∷ []

-- the positions that a refused say found
abbrev pub claim_args : ClaimRefusal → List Named
claim_args claims.NoItems = []
claim_args claims.TooLong = []
claim_args claims.Closed = []
claim_args claims.Spent = []
claim_args (claims.Full head tail) = numbered (codes "head") head ∷ numbered (codes "tail") tail ∷ []
claim_args (claims.Lost head) = numbered (codes "head") head ∷ []

-- the answer to a say
abbrev pub say_args : BootPlan → SaidAnswer → List Named
say_args plan (says.Put woken) = woken_args plan (codes "woken") woken
say_args plan says.Over = []
say_args plan (says.Refused refusal) = claim_args refusal

-- the position that a refused hear found
abbrev pub take_args : TakeRefusal → List Named
take_args (takes.Empty place) = numbered (codes "place") place ∷ []
take_args (takes.Lost tail) = numbered (codes "tail") tail ∷ []
take_args takes.Closed = []

-- the answer to a hear, and the line that was taken
abbrev pub hear_args : BootPlan → List ℕ → HeardAnswer → List Named
hear_args plan line (hears.Taken woken) = line_args line ++ woken_args plan (codes "woken") woken
hear_args plan line (hears.Over woken) = woken_args plan (codes "woken") woken
hear_args plan line (hears.Refused refusal) = take_args refusal

-- the answer to a poke: how many notes were run, or what a refused one found
abbrev pub poke_args : Result Poked ChainRefusal → List Named
poke_args (Ok (Ran notes)) = numbered (codes "notes") notes ∷ []
poke_args (Ok Left) = []
poke_args (Err chains.Spent) = []
poke_args (Err (chains.Full head tail)) = numbered (codes "head") head ∷ numbered (codes "tail") tail ∷ []
poke_args (Err (chains.Lost head)) = numbered (codes "head") head ∷ []

-- a thread that a step names
abbrev pub other_args : BootPlan → ℕ → List Named
other_args plan thread = worded (codes "to") (thread_text plan thread) ∷ []

-- a queue that a step names
abbrev pub queue_args : BootPlan → QueueIndex → List Named
queue_args plan queue = worded (codes "queue") (queue_text plan queue) ∷ []

-- a gauge that grew: by how much, and from which value
abbrev pub gauge_args : BootPlan → ℕ → ℕ → ℕ → List Named
gauge_args plan gauge amount before =
    worded (codes "gauge") (gauge_text plan gauge) ∷ numbered (codes "amount") amount
    ∷ numbered (codes "before") before ∷ []

-- a pump or switch that was poked, and the answer
abbrev pub mover_args : BootPlan → ℕ → Result Poked ChainRefusal → List Named
mover_args plan mover answer = worded (codes "mover") (mover_text plan mover) ∷ poke_args answer

-- a queue that was closed, and the threads that were woken
abbrev pub close_args : BootPlan → ℕ → Option Woken → Option Woken → List Named
close_args plan queue readers writers =
    queue_args plan (Small queue) ++ woken_args plan (codes "readers") readers
    ++ woken_args plan (codes "writers") writers

-- a step: what it named, and the answer
abbrev pub step_args : BootPlan → List ℕ → Tried → List Named
step_args plan line (Say queue answer) = queue_args plan queue ++ line_args line ++ say_args plan answer
step_args plan line (Hear queue answer) = queue_args plan queue ++ hear_args plan line answer
step_args plan line (Wait wait) = numbered (codes "wait") wait ∷ []
step_args plan line (Wake wait woken) =
    numbered (codes "wait") wait ∷ threads_args plan (codes "woken") woken.taken
step_args plan line (Signal thread signal answer) = other_args plan thread ++ numbered (codes "signal") signal ∷ []
step_args plan line (Stop thread was_clear) = other_args plan thread
step_args plan line (Start thread answer) = other_args plan thread
step_args plan line (Tick gauge amount before) = gauge_args plan gauge amount before
step_args plan line (Poke mover answer) = mover_args plan mover answer
step_args plan line Pass = []
step_args plan line (Close queue was_open readers writers) = close_args plan queue readers writers

-- the thread whose turn it is
abbrev pub thread_args : BootPlan → ℕ → List Named
thread_args plan thread = worded (codes "thread") (thread_text plan thread) ∷ []

-- the signals that were delivered: bit s for signal s
abbrev pub delivered_args : Result ℕ Lost → List Named
delivered_args (Ok signals) = numbered (codes "signals") signals ∷ []
delivered_args (Err lost) = []

-- an element whose turn was begun: its thread, how many steps it has done, and the signals that were delivered
abbrev pub begun_args : BootPlan → Begun → List Named
begun_args plan begun =
    thread_args plan begun.element ++ numbered (codes "step") begun.number ∷ delivered_args begun.delivered

-- how many steps are done now, if one more is counted
abbrev pub counted_args : Counted → List Named
counted_args Undone = []
counted_args (Done number) = numbered (codes "done") number ∷ []
counted_args Spent = []

-- where an element went after its turn
abbrev pub went_args : List ℕ → List Named
went_args way = worded (codes "went") way ∷ []

-- where an element went that was retired
abbrev pub retired_name : Bool → List ℕ
retired_name freed = if freed then codes "free" else codes "held"

-- an element that was at hand, if there was one
abbrev pub idle_args : BootPlan → Idle → List Named
idle_args plan (NothingReady refusal) = []
idle_args plan (Parked element) = thread_args plan element
idle_args plan (ParkLost element lost ready) = thread_args plan element

-- what came of an element's turn; the line is the one said or heard
abbrev pub did_args : BootPlan → List ℕ → Did → List Named
did_args plan line (did.Idle idle) = idle_args plan idle
did_args plan line (did.Retired begun freed) = begun_args plan begun ++ went_args (retired_name freed)
did_args plan line (did.Stepped begun tried counted moved part) =
    begun_args plan begun ++ step_args plan line tried ++ counted_args counted ++ went_args (way_name moved)

-- the tick to which the clock was advanced
abbrev pub tick_args : Option (Result ℕ AdvanceRefusal) → List Named
tick_args None = []
tick_args (Some (Err refusal)) = []
tick_args (Some (Ok tick)) = numbered (codes "clock") tick ∷ []

-- how many alarms were fired, if any was
abbrev pub fired_args : ℕ → List Named
fired_args fired = if fired == 0 then [] else numbered (codes "alarms") fired ∷ []

-- the arguments of a turn on a processor; the line is the one said or heard
abbrev pub turn_args : BootPlan → ℕ → List ℕ → Entry → List Named
turn_args plan processor line entry =
    numbered (codes "processor") processor ∷ did_args plan line entry.did ++ tick_args entry.tended
    ++ fired_args entry.fired.len

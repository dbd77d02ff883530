-- The name of a turn: its step, and the answer.
use Rattle.std.specs.Prelude.{ℕ, List, codes, Bool, true, false, Result, Ok, Err}
use Rattle.claim_queue.specs.declared.claim.ClaimRefusal.{ClaimRefusal}
use Rattle.claim_queue.specs.declared.claim.ClaimRefusal.TheVariants as claims
use Rattle.claim_queue.specs.declared.take.TakeRefusal.TheVariants as takes
use Rattle.proc_chain.specs.declared.chaining.ChainRefusal.{ChainRefusal}
use Rattle.proc_chain.specs.declared.chaining.ChainRefusal.TheVariants as chains
use Rattle.processor.specs.declared.phases.Moved.{Moved}
use Rattle.processor.specs.declared.phases.Moved.TheVariants.{Ready, Freed, Waits, Ticketed}
use Rattle.thread_table.specs.declared.states.Lost.{Lost}
use Rattle.thread_table.specs.declared.states.Signalled.{Signalled}
use Rattle.thread_table.specs.declared.states.Signalled.TheVariants.{Raised, Merged}
use Rattle.turn_dispatch.specs.declared.dispatch.Idle.{Idle}
use Rattle.turn_dispatch.specs.declared.dispatch.Idle.TheVariants.{NothingReady, Parked, ParkLost}
use Rattle.turn_dispatch.specs.declared.moving.Waited.TheVariants as waits
use Rattle.turn_dispatch.specs.declared.waking.Resumed.{Resumed}
use Rattle.turn_dispatch.specs.declared.waking.Resumed.TheVariants as starts
use Rattle.turn_io.specs.declared.poking.Poked.{Poked}
use Rattle.turn_io.specs.declared.poking.Poked.TheVariants.{Ran, Left}
use Rattle.boot_log.specs.declared.entry.Did.{Did}
use Rattle.boot_log.specs.declared.entry.Did.TheVariants as did
use Rattle.boot_log.specs.declared.entry.HeardAnswer.{HeardAnswer}
use Rattle.boot_log.specs.declared.entry.HeardAnswer.TheVariants as hears
use Rattle.boot_log.specs.declared.entry.SaidAnswer.{SaidAnswer}
use Rattle.boot_log.specs.declared.entry.SaidAnswer.TheVariants as says
use Rattle.boot_log.specs.declared.entry.Tried.{Tried}
use Rattle.boot_log.specs.declared.entry.Tried.TheVariants.{Say, Hear, Wait, Wake, Signal, Stop, Start}
use Rattle.boot_log.specs.declared.entry.Tried.TheVariants.{Tick, Poke, Pass, Close}

-- the name of a refused say
abbrev pub claim_name : ClaimRefusal → List ℕ
claim_name claims.NoItems = codes "say no items"
claim_name claims.TooLong = codes "say too long"
claim_name claims.Closed = codes "say closed"
claim_name claims.Spent = codes "say spent"
claim_name (claims.Full head tail) = codes "say full"
claim_name (claims.Lost head) = codes "say lost"

-- the name of a say
abbrev pub say_name : SaidAnswer → List ℕ
say_name (says.Put woken) = codes "say put"
say_name says.Over = codes "say over"
say_name (says.Refused refusal) = claim_name refusal

-- the name of a hear
abbrev pub hear_name : HeardAnswer → List ℕ
hear_name (hears.Taken woken) = codes "hear taken"
hear_name (hears.Over woken) = codes "hear over"
hear_name (hears.Refused (takes.Empty place)) = codes "hear empty"
hear_name (hears.Refused (takes.Lost tail)) = codes "hear lost"
hear_name (hears.Refused takes.Closed) = codes "hear closed"

-- the name of a signal
abbrev pub signal_name : Signalled → List ℕ
signal_name Raised = codes "signal raised"
signal_name Merged = codes "signal merged"

-- the name of a start
abbrev pub start_name : Result Resumed Lost → List ℕ
start_name (Ok starts.NotStopped) = codes "start not stopped"
start_name (Ok starts.Cleared) = codes "start cleared"
start_name (Ok starts.Ready) = codes "start ready"
start_name (Ok starts.Held) = codes "start held"
start_name (Err lost) = codes "start lost"

-- the name of a poke
abbrev pub poke_name : Result Poked ChainRefusal → List ℕ
poke_name (Ok (Ran notes)) = codes "poke ran"
poke_name (Ok Left) = codes "poke left"
poke_name (Err chains.Spent) = codes "poke spent"
poke_name (Err (chains.Full head tail)) = codes "poke full"
poke_name (Err (chains.Lost head)) = codes "poke lost"

-- the name of a stop, by whether the stop bit was clear
abbrev pub stop_name : Bool → List ℕ
stop_name true = codes "stop"
stop_name false = codes "stop again"

-- the name of a close, by whether the queue was open
abbrev pub close_name : Bool → List ℕ
close_name true = codes "close"
close_name false = codes "close again"

-- the name of a step
abbrev pub step_name : Tried → List ℕ
step_name (Say queue answer) = say_name answer
step_name (Hear queue answer) = hear_name answer
step_name (Wait wait) = codes "wait"
step_name (Wake wait woken) = codes "wake"
step_name (Signal thread signal answer) = signal_name answer
step_name (Stop thread was_clear) = stop_name was_clear
step_name (Start thread answer) = start_name answer
step_name (Tick gauge amount before) = codes "tick"
step_name (Poke mover answer) = poke_name answer
step_name Pass = codes "pass"
step_name (Close queue was_open readers writers) = close_name was_open

-- the name of a turn with no element at hand
abbrev pub idle_name : Idle → List ℕ
idle_name (NothingReady refusal) = codes "idle"
idle_name (Parked element) = codes "parked"
idle_name (ParkLost element lost ready) = codes "park lost"

-- the name of a turn
abbrev pub turn_name : Did → List ℕ
turn_name (did.Idle idle) = idle_name idle
turn_name (did.Retired begun freed) = codes "retired"
turn_name (did.Stepped begun tried counted moved line) = step_name tried

-- where an element went after its turn
abbrev pub way_name : Moved → List ℕ
way_name (Ready true) = codes "ready"
way_name (Ready false) = codes "held"
way_name (Freed true) = codes "free"
way_name (Freed false) = codes "held"
way_name (Waits true) = codes "wait queue"
way_name (Waits false) = codes "held"
way_name (Ticketed waits.Waiting) = codes "wait queue"
way_name (Ticketed (waits.Moved mark true)) = codes "ready"
way_name (Ticketed (waits.Moved mark false)) = codes "held"
way_name (Ticketed waits.Spent) = codes "held"

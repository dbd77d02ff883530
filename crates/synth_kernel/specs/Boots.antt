-- Answers and output of a boot.
use Rattle.std.specs.Prelude.{◌≡◌, ◌+◌, ◌<◌, ◌==◌, ℕ, zero, suc, List, [], ◌∷◌, length, Option, Result, Ok, Err}
use Rattle.std.specs.Prelude.{IsOk, IfSome}
use Rattle.std.specs.List.{AllByRecursion}
use Rattle.std.specs.Option.{is_some}
use Rattle.std.specs.Io.KnownBytes.{Appends}
use Rattle.boot_data.specs.declared.boot_plan.BootPlan.{BootPlan}
use Rattle.boot_data.specs.declared.plan.QueueIndex.TheVariants.{Small, Large}
use Rattle.boot_data.specs.declared.report.Report.{Report}
use Rattle.boot_data.specs.BootPlans.{plan_of}
use Rattle.boot_data.specs.Hearing.{Line}
use Rattle.boot_data.specs.Plans.{Plan}
use Rattle.boot_script.specs.declared.fault.ScriptFault.{ScriptFault}
use Rattle.boot_script.specs.Plans.{text_plan}
use Rattle.boot_script.specs.Reports.{report_text}
use Rattle.boot_objects.specs.declared.closing.all.TornDown.{TornDown}
use Rattle.turn_io.specs.declared.gate.NoGate.{NoGate}
use Rattle.processor.specs.declared.shared.Shared.{Shared}
use Rattle.processor.specs.declared.station.Parts.{Parts}
use Rattle.processor.specs.declared.station.Station.{Station}
use Rattle.processor.specs.Accounts.{Account, account}
use Rattle.processor.specs.Entries.{LogEntry}
use Rattle.processor.specs.Logs.{IsFresh, Leaves, RanTurns}
use Rattle.processor.specs.Manning.{IsRunnable, KeepsStation}
use Rattle.processor.specs.Points.{Calls, calls}
use Rattle.processor.specs.Stations.{ArePartsOf}
use Rattle.quajects.specs.declared.any.AnyQuaject.{AnyQuaject}
use Rattle.quajects.specs.Homes.{homes_in}
use Rattle.boot_threads.specs.declared.work.Work.TheVariants as works
use Rattle.boot_threads.specs.declared.work.Worked.{Worked}
use Rattle.boot_threads.specs.declared.work.Worked.TheVariants as worked
use Rattle.boot_threads.specs.Crews.{WasRun}
use Rattle.boot_report.specs.declared.ttys.Typed.{Typed}
use Rattle.boot_report.specs.Shown.{Shows}
use Rattle.boot_laws.specs.Boots.{Boot}
use Rattle.boot_laws.specs.ClosedTables.{ClosedTables, Device}
use Rattle.boot_laws.specs.Closings.{closed_of}
use Rattle.boot_laws.specs.Endings.{WorkedTogether}
use Rattle.boot_laws.specs.Reports.{IsReport}
use Rattle.boot_laws.specs.Saying.{live_threads}
use Rattle.synth_kernel.specs.declared.outcome.Ended.{Ended}
use Rattle.synth_kernel.specs.declared.outcome.Ended.TheVariants.{AllEnded, Unfinished}
use Rattle.synth_kernel.specs.declared.outcome.BootFault.{BootFault}
use Rattle.synth_kernel.specs.declared.outcome.BootFault.TheVariants.{Script, Memory, Read, Write}
use Rattle.synth_kernel.specs.declared.printing.Booted.{Booted}
pub use Rattle.boot_threads.specs.Works.{RunsOf}

-- THE WORK OF ITS PROCESSORS

-- The log of the processor p has an entry for each of `turns` turns. Processor 0 tended the alarms in each of its
-- turns, and no other processor did. The log says all that was left on a station that had done nothing
pub record IsLogOf (plan : BootPlan) (p turns : ℕ) (log : List LogEntry) : Type 0 where
  pub many : length log ≡ turns
  pub tends : AllByRecursion (λ (entry : LogEntry). is_some entry.tended ≡ (p == 0)) log
  pub station : Parts
  pub left : Leaves plan log station

-- these are the logs of the processors from the number p on, in their order
abbrev pub AreLogs : BootPlan → ℕ → ℕ → List (List LogEntry) → Type 0
AreLogs plan p turns [] = Unit {0}
AreLogs plan p turns (log ∷ logs) = IsLogOf plan p turns log × AreLogs plan (p + 1) turns logs

-- each of so many processors had so many turns; the closed tables may be any
pub record LogsHaveTurns (processors turns : ℕ) (plan : BootPlan) (closed : ClosedTables) (logs : List (List LogEntry))
    : Type 0 where
  pub many : length logs ≡ processors
  pub each : AreLogs plan 0 turns logs

-- THE RESULTS OF A BOOT WITH GATES

-- The processor p had so many turns on a station of these objects. The processor could use the station, still can, and
-- the station had done nothing. `log` is the log of these turns. The gate observed these turns, got this log entry by
-- entry, and nothing else, and so became `gate'`. The thread of exactly this work, on these objects, was joined
-- and gave back the station and the gate, as `ran` says. A proof knows of `ran` only what joining a thread ensures
pub record HookSaw {G : Type 0} (ran : RunsOf G) (T : Calls G) (shared : Shared) (p turns : ℕ) (gate gate' : G)
    (log : List LogEntry) : Type 0 where
  pub old : Station
  pub manned : IsRunnable shared p old.parts
  pub fresh : IsFresh old.parts
  pub new : Station
  pub joined : WasRun {B = Worked G} ran shared (works.Process old p turns gate)
      (worked.Processed (record { station = new; gate = gate' }))
  pub stays : KeepsStation shared p old.parts new.parts
  pub turned : RanTurns T shared p turns gate gate' old.parts new.parts
  pub log_is : turned.log ≡ log

-- each of these gates observed the turns of its processor, from the number p on, in their order
abbrev pub HooksSaw : {G : Type 0} → RunsOf G → Calls G → Shared → ℕ → ℕ → List G → List G → List (List LogEntry)
    → Type 0
HooksSaw ran T shared p turns [] [] [] = Unit {0}
HooksSaw ran T shared p turns (gate ∷ gates) (gate' ∷ gates') (log ∷ logs) =
    HookSaw ran T shared p turns gate gate' log × HooksSaw ran T shared (p + 1) turns gates gates' logs
HooksSaw ran T shared p turns gates gates' logs = ⊥

-- These ends did `did` at all objects of the plan, except the raw queue and the chain of each tty. The tty's device had
-- ends of these two too
pub record DidAll (plan : BootPlan) (did : Account) (parts : Parts) : Type 0 where
  pub hand : (account parts).hand ≡ did.hand
  pub meters : (account parts).meters ≡ did.meters
  pub shown : (account parts).shown ≡ did.shown
  pub small : (q : ℕ) → q < length plan.queues → (account parts).queues (Small q) ≡ did.queues (Small q)
  pub large : (q : ℕ) → (account parts).queues (Large q) ≡ did.queues (Large q)
  pub chains : (k : ℕ) → k < length plan.movers → (account parts).chains k ≡ did.chains k

-- Each gate observed the turns of its processor on objects of the plan, and got its log, in a thread that was
-- joined, and came back at its place. `ended` is the result of closing these objects, and was shown to the runtime. The
-- ends that closed all belong to these objects. They did the work before the turns, followed by what the logs come to.
-- The closed tables are made from `ended` and from the work of ends, quajects and devices, and show the numbers of
-- `ended`
pub record BootWithHooks {G : Type 0} (ran : RunsOf G) (shown : TornDown → Type 0) (T : Calls G) (turns : ℕ)
    (gates back : List G) (ended : TornDown) (plan : BootPlan) (closed : ClosedTables) (logs : List (List LogEntry))
    : Type 0 where
  pub shared : Shared
  pub plan_is : shared.plan ≡ plan
  pub reported : HooksSaw ran T shared 0 turns gates back logs
  pub boot : Boot
  pub worked : WorkedTogether plan logs boot.done
  pub was_shown : shown ended
  pub ends_are : ArePartsOf shared ended.last.value
  pub ends_did : DidAll plan boot.done.in_all ended.last.value
  pub homes_are : boot.homes ≡ homes_in ended.counts.items
  pub quajects : List AnyQuaject
  pub devices : List Device
  pub made : closed ≡ closed_of plan boot ended quajects devices
  pub typed : List Typed
  pub shows : Shows closed ended typed

-- the calls of the gate that does nothing: it allows any, and keeps nothing of what it gets
abbrev pub SawNothing : Calls NoGate
SawNothing = calls (λ old p point new. Unit {0}) (λ old p entry new. new ≡ old)

-- a boot without gates: its gates are so many gates that do nothing, which came back
pub record CameBackPlain (ran : RunsOf NoGate) (shown : TornDown → Type 0)
    (processors turns : ℕ) (back : List NoGate) (ended : TornDown) (plan : BootPlan) (closed : ClosedTables)
    (logs : List (List LogEntry)) : Type 0 where
  pub gates : List NoGate
  pub many : length gates ≡ processors
  pub came : BootWithHooks ran shown SawNothing turns gates back ended plan closed logs

-- the boot had so many processors, and so many turns on each
abbrev pub HasNumbers : {G : Type 0} → ℕ → ℕ → Booted G → Type 0
HasNumbers processors turns booted = (booted.processors ≡ processors) × (booted.turns ≡ turns)

-- THE REPORT

-- The report agrees with the plan, with some closed tables and with some logs of processors, for which `Did` holds
pub record IsBootOf (Did : BootPlan → ClosedTables → List (List LogEntry) → Type 0) (plan : BootPlan) (report : Report)
    : Type 0 where
  pub closed : ClosedTables
  pub logs : List (List LogEntry)
  pub heard : List Line
  pub did : Did plan closed logs
  pub agrees : IsReport plan closed logs heard report

-- the answer if so many threads are live
abbrev pub ended_of : ℕ → Ended
ended_of zero = AllEnded
ended_of (suc others) = Unfinished (suc others)

-- the answer is by the number of live threads in the report of such a boot; this report was printed, and nothing else
pub record IsRun (Did : BootPlan → ClosedTables → List (List LogEntry) → Type 0) (plan : BootPlan) (ended : Ended)
    (old new : Option (List ℕ)) : Type 0 where
  pub report : Report
  pub booted : IsBootOf Did plan report
  pub ends : ended ≡ ended_of (live_threads report)
  pub printed : Appends old new (report_text report)

-- if the reader reports the bytes read, they parse as this plan
abbrev pub Says : Option (List ℕ) → BootPlan → Type 0
Says read plan = IfSome read (λ bytes. text_plan bytes ≡ Ok (plan_of plan))

-- a boot of some plan gave the answer and the output; the bytes read, if the reader reports them, parse as this plan
pub record IsBoot (Did : BootPlan → ClosedTables → List (List LogEntry) → Type 0) (read : Option (List ℕ))
    (ended : Ended) (old new : Option (List ℕ)) : Type 0 where
  pub plan : BootPlan
  pub says : Says read plan
  pub run : IsRun Did plan ended old new

-- the answer of a boot alone
abbrev pub ended_in : {G : Type 0} → Result (Booted G) BootFault → Result Ended BootFault
ended_in (Ok booted) = Ok booted.ended
ended_in (Err fault) = Err fault

-- FAILURES

-- a script fault is the first fault of the text; a boot is out of memory, or its writer fails, only if the text is
-- valid; the reader may fail with any text
abbrev pub IsBootFault : Result Plan ScriptFault → BootFault → Type 0
IsBootFault said (Script fault) = said ≡ Err fault
IsBootFault said Memory = IsOk said
IsBootFault said Read = Unit {0}
IsBootFault said Write = IsOk said

-- the plan is the plan of the text, or the fault is one that the text allows
abbrev pub IsRead : Result Plan ScriptFault → Result BootPlan BootFault → Type 0
IsRead said (Ok plan) = said ≡ Ok (plan_of plan)
IsRead said (Err fault) = IsBootFault said fault

-- a fault that needs a valid text: out of memory, or a failed write
abbrev pub IsLate : BootFault → Type 0
IsLate (Script fault) = ⊥
IsLate Memory = Unit {0}
IsLate Read = ⊥
IsLate Write = Unit {0}

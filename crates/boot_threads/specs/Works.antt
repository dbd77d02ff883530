-- The works that the threads of a kernel may do, and their results.
use Rattle.std.specs.Prelude.{◌≡◌, ℕ, Some, false, Result}
use Rattle.std.specs.List.{slice_get}
use Rattle.proc_chain.specs.declared.ends.ProcChain.{ProcChain}
use Rattle.proc_chain.specs.Handles.{turn_of, IsEndOf}
use Rattle.processor.specs.declared.shared.Shared.{Shared}
use Rattle.processor.specs.declared.station.Parts.{Parts}
use Rattle.processor.specs.Logs.{RanTurns}
use Rattle.processor.specs.Manning.{IsRunnable, KeepsStation}
use Rattle.processor.specs.Points.{Calls}
use Rattle.quajects.specs.declared.any.AnyQuaject.{AnyQuaject}
use Rattle.quajects.specs.declared.raw.RawTty.{RawTty}
use Rattle.quajects.specs.declared.world.Queues.{Queues}
use Rattle.quajects.specs.Ports.{IsEndAt}
use Rattle.quajects.specs.Raws.{end_of}
use Rattle.spsc_line.specs.declared.line_out.LineOut.{LineOut}
use Rattle.spsc_line.specs.Lines.{SameOut}
use Rattle.boot_threads.specs.declared.starting.NotStarted.{NotStarted}
use Rattle.boot_threads.specs.declared.work.Work.{Work}
use Rattle.boot_threads.specs.declared.work.Work.TheVariants as works
use Rattle.boot_threads.specs.declared.work.Worked.{Worked}
use Rattle.boot_threads.specs.declared.work.Worked.TheVariants as worked
use Rattle.boot_threads.specs.Crews.{Runs, Refusals}
use Rattle.boot_threads.specs.Devices.{Served}

-- a relation: a thread of the kernel with this promise was joined and gave this back
abbrev pub RunsOf : Type 0 → Type 1
RunsOf G = Runs Shared (Work G) (Worked G)

-- a relation: a thread of the kernel with this promise was refused
abbrev pub RefusalsOf : Type 0 → Type 1
RefusalsOf G = Refusals Shared (Work G)

-- A processor had so many turns. Its gate observed each, got its result, and became `gate'`. The turns left on
-- its station what their log says. The processor can still use the station
abbrev pub HasRun : {G : Type 0} → Calls G → Shared → ℕ → ℕ → G → G → Parts → Parts → Type 0
HasRun T shared p turns gate gate' old new =
    KeepsStation shared p old new × RanTurns T shared p turns gate gate' old new

-- the raw tty has an end of a small queue of these objects, and an end of the chain with this index
pub record IsServable (shared : Shared) (chain : ℕ) (tty : RawTty) : Type 0 where
  pub its : ProcChain AnyQuaject Queues
  pub is : slice_get shared.chains.items chain ≡ Some its
  pub raw : IsEndAt shared.queues.small.items tty.index (end_of tty)
  pub chain_end : IsEndOf its tty.chain

-- a device popped so many bytes, each an interrupt of the raw tty, which keeps its queue and chain and has no Turn
pub record HasServed (shared : Shared) (chain count : ℕ) (line : LineOut) (tty : RawTty) (line' : LineOut)
    (tty' : RawTty) : Type 0 where
  pub its : ProcChain AnyQuaject Queues
  pub is : slice_get shared.chains.items chain ≡ Some its
  pub same : SameOut line line'
  pub index : tty'.index ≡ tty.index
  pub raw : IsEndAt shared.queues.small.items tty'.index (end_of tty')
  pub chain_end : IsEndOf its tty'.chain
  pub idle : turn_of tty'.chain ≡ false
  pub served : Served its count line tty line' tty'

abbrev pub MayWork : {G : Type 0} → Shared → Work G → Type 0
MayWork shared (works.Process station p turns gate) = IsRunnable shared p station.parts
MayWork shared (works.Serve chain line tty count) = IsServable shared chain tty

abbrev pub HasWorked : {G : Type 0} → Calls G → Shared → Work G → Worked G → Type 0
HasWorked T shared (works.Process station p turns gate) (worked.Processed back) =
    HasRun T shared p turns gate back.gate station.parts back.station.parts
HasWorked T shared (works.Serve chain line tty count) (worked.Served line' tty') =
    HasServed shared chain count line tty line' tty'
HasWorked T shared work back = ⊥

-- the result of a thread of the kernel, or the substitute for a thread that can't be started
abbrev pub Back : Type 0 → Type 0
Back G = Result (Worked G) (NotStarted Shared (Work G))

-- Results of the threads of a kernel, and what follows from them if the threads began with new objects.
use Rattle.std.specs.Prelude.{◌≡◌, ◌++◌, ◌+◌, ◌<◌, ℕ, List, [], ◌∷◌, map, length, Ok}
use Rattle.boot_data.specs.declared.plan.PlannedTty.{PlannedTty}
use Rattle.boot_data.specs.QueueLists.{raw_queue}
use Rattle.turn_io.specs.EndLists.{end_share, chain_end_share}
use Rattle.turn_dispatch.specs.Holdings.{IsFree}
use Rattle.boot_objects.specs.declared.device.Device.{Device}
use Rattle.boot_objects.specs.DeviceEndings as ended
use Rattle.boot_objects.specs.DeviceEndings.{DeviceEnded}
use Rattle.processor.specs.declared.shared.Shared.{Shared}
use Rattle.processor.specs.declared.station.Parts.{Parts}
use Rattle.processor.specs.declared.station.Station.{Station}
use Rattle.processor.specs.Accounts.{Account, nothing, ◌⊕◌, account, unheard, shares}
use Rattle.processor.specs.Logs.{IsFresh}
use Rattle.processor.specs.Manning.{IsRunnable}
use Rattle.processor.specs.Points.{Calls}
use Rattle.processor.specs.RawEnds.{IsRawAt}
use Rattle.quajects.specs.declared.raw.RawTty.{RawTty}
use Rattle.quajects.specs.Raws.{end_of, overruns_of}
use Rattle.spsc_line.specs.declared.line_in.LineIn.{LineIn}
use Rattle.spsc_line.specs.declared.line_out.LineOut.{LineOut}
use Rattle.spsc_line.specs.Lines.{bytes_sent, bytes_received, bytes_left, IsLine}
use Rattle.thread_table.specs.Handles as threads
use Rattle.boot_threads.specs.declared.work.Processed.{Processed}
use Rattle.boot_threads.specs.declared.work.Work.TheVariants as works
use Rattle.boot_threads.specs.declared.work.Worked.{Worked}
use Rattle.boot_threads.specs.declared.work.Worked.TheVariants as worked
use Rattle.boot_threads.specs.Crews.{WasRun}
use Rattle.boot_threads.specs.Works.{Back, HasRun, HasServed, RunsOf}

-- the bytes that a device popped, and how many bytes were refused
abbrev pub device_of : LineOut → RawTty → ended.Device
device_of line tty = record { popped = bytes_received line; refused = overruns_of tty }

-- The device of this tty served it. Its ends are ends of the tty's queue and chain, with the shares that they had.
-- `input` and `line` are the two ends of one line. If the bytes received and the bytes left are the bytes sent, the
-- device ended as a report requires
pub record IsDeviceBack (shared : Shared) (t : ℕ) (p : PlannedTty) (device : Device) (input : LineIn) (line : LineOut)
    (tty : RawTty) : Type 0 where
  pub served : HasServed shared device.chain (length p.typed) device.output device.tty line tty
  pub raw_at : IsRawAt shared (raw_queue (length shared.plan.queues) t) (length shared.plan.movers + t) tty
  pub shares : (end_share (end_of tty) ≡ end_share (end_of device.tty))
      × (chain_end_share tty.chain ≡ chain_end_share device.tty.chain)
  pub pair : IsLine input line
  pub all : bytes_received line ++ bytes_left input line ≡ bytes_sent input
      → DeviceEnded p (end_of tty) (device_of line tty)

-- the work of these stations together, except the lines that they heard
abbrev pub all_done : List Parts → Account
all_done [] = nothing
all_done (parts ∷ stations) = unheard (account parts) ⊕ all_done stations

module _ {G : Type 0} where
  -- what a processor gave back
  abbrev pub back_of : Processed G → Back G
  back_of one = Ok (worked.Processed one)

  -- the parts of the processor's station
  abbrev pub parts_of : Processed G → Parts
  parts_of one = one.station.parts

  -- the processor's gate
  abbrev pub gate_of : Processed G → G
  gate_of one = one.gate

  -- Each processor, from the number p on, had so many turns on a station of these objects. The processor could use the
  -- station, and the station had done nothing. Its gate observed these turns. The thread of exactly this work gave back
  -- the station and the gate as the turns left them
  abbrev pub AllTurned : RunsOf G → Calls G → Shared → ℕ → ℕ → List G
      → List (Processed G) → Type 0
  AllTurned ran T shared p turns [] [] = Unit {0}
  AllTurned ran T shared p turns (gate ∷ gates) (one ∷ came) =
      ((old : Station) × IsRunnable shared p old.parts × IsFresh old.parts
      × WasRun ran shared (works.Process old p turns gate) (worked.Processed one)
      × HasRun T shared p turns gate one.gate old.parts one.station.parts)
      × AllTurned ran T shared (p + 1) turns gates came
  AllTurned ran T shared p turns gates came = ⊥

  -- Each processor left on its station what its log says. After all stations are joined to what the first station had
  -- kept, `last` has the shares that the first station had before its splits. It has done the work that it had done and
  -- theirs. It serves each processor, and no element is on one
  pub record CameTogether (ran : RunsOf G) (T : Calls G) (shared : Shared)
      (turns : ℕ) (gates : List G) (old last : Parts) (came : List (Processed G)) : Type 0 where
    pub turned : AllTurned ran T shared 0 turns gates came
    pub shares_are : shares last ≡ shares old
    pub did : account last ≡ account old ⊕ all_done (map parts_of came)
    pub free : (p : ℕ) → p < 8 → IsFree p (threads.view_of last.hand)

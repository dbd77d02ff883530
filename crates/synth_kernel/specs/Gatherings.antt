-- The results of a kernel's threads, sorted and joined.
use Rattle.std.specs.Prelude.{◌≡◌, ◌≤◌, ◌++◌, ◌%◌, ◌^◌, map, flat_map, length, vec_capacity, List, [], ◌∷◌}
use Rattle.std.specs.Prelude.{Ok, Err, Bool, true, false}
use Rattle.stations.specs.Splits.{AllThree}
use Rattle.processor.specs.declared.shared.Shared.{Shared}
use Rattle.processor.specs.declared.station.Station.{Station}
use Rattle.stations.specs.Partings.{AllJoined}
use Rattle.processor.specs.Stations.{ArePartsOf}
use Rattle.processor.specs.Turns.{heard_lines}
use Rattle.quajects.specs.declared.raw.RawTty.{RawTty}
use Rattle.boot_threads.specs.declared.work.Processed.{Processed}
use Rattle.boot_threads.specs.declared.work.Worked.TheVariants as worked
use Rattle.boot_threads.specs.Backs.{parts_of, gate_of}
use Rattle.boot_threads.specs.Works.{Back}
use Rattle.quajects.specs.Raws.{overruns_of}
use Rattle.boot_report.specs.Reported.{lines_of}
use Rattle.boot_report.specs.declared.ttys.Typed.{Typed}
use Rattle.spsc_line.specs.declared.line_in.LineIn.{LineIn}
use Rattle.spsc_line.specs.Lines.{bytes_sent, bytes_received, bytes_left}
use Rattle.synth_kernel.specs.declared.gathering.Gathered.{Gathered}
use Rattle.synth_kernel.specs.declared.gathering.Lists.{Lists}
use Rattle.synth_kernel.specs.declared.gathering.Served.{Served}

-- the results of the processors, in their order
abbrev pub processed_in : {G : Type 0} → List (Back G) → List (Processed G)
processed_in [] = []
processed_in (Ok (worked.Processed one) ∷ backs) = one ∷ processed_in backs
processed_in (Ok (worked.Served line tty) ∷ backs) = processed_in backs
processed_in (Err lost ∷ backs) = processed_in backs

-- the results of the devices, in their order
abbrev pub served_in : {G : Type 0} → List (Back G) → List Served
served_in [] = []
served_in (Ok (worked.Processed one) ∷ backs) = served_in backs
served_in (Ok (worked.Served line tty) ∷ backs) = record { line = line; tty = tty } ∷ served_in backs
served_in (Err lost ∷ backs) = served_in backs

-- whether each thread gave a result
abbrev pub all_there : {G : Type 0} → List (Back G) → Bool
all_there [] = true
all_there (Ok back ∷ backs) = all_there backs
all_there (Err lost ∷ backs) = false

abbrev pub tty_of : Served → RawTty
tty_of served = served.tty

-- The totals of a device: the number of bytes popped, modulo 2^64, and the number of bytes refused. The bytes popped
-- and the bytes left in the line are the bytes sent
pub record TotalsAre (served : Served) (input : LineIn) (reported : Typed) : Type 0 where
  pub whole : bytes_received served.line ++ bytes_left input served.line ≡ bytes_sent input
  pub popped : reported.popped ≡ length (bytes_received served.line) % 2 ^ 64
  pub refused : reported.refused ≡ overruns_of served.tty

-- the lists are empty, and have room for the sorted results of all threads, and for what is made from them
pub record HaveRoomFor {G : Type 0} (backs : List (Back G)) (lists : Lists G) : Type 0 where
  pub processed : (lists.processed.items ≡ []) × (length (processed_in backs) ≤ vec_capacity lists.processed)
  pub served : (lists.served.items ≡ []) × (length (served_in backs) ≤ vec_capacity lists.served)
  pub ttys : (lists.ttys.items ≡ []) × (length (served_in backs) ≤ vec_capacity lists.ttys)
  pub heards : (lists.heards.items ≡ []) × (length (processed_in backs) ≤ vec_capacity lists.heards)
  pub gates : (lists.gates.items ≡ []) × (length (processed_in backs) ≤ vec_capacity lists.gates)
  pub reported : (lists.reported.items ≡ []) × (length (served_in backs) ≤ vec_capacity lists.reported)

-- Each thread gave a result. The stations were joined to the first, which became `gathered.station`. The lines that
-- they heard, their gates, the raw ttys and the devices' totals are in `gathered`, in order
pub record IsGathered {G : Type 0} (shared : Shared) (first : Station) (backs : List (Back G))
    (inputs : List LineIn) (gathered : Gathered G) : Type 0 where
  pub all : all_there backs ≡ true
  pub parts : ArePartsOf shared gathered.station.parts
  pub joined : AllJoined first.parts (map parts_of (processed_in backs)) gathered.station.parts
  pub heard : flat_map lines_of gathered.heards.items ≡ flat_map heard_lines (map parts_of (processed_in backs))
  pub gates : gathered.gates.items ≡ map gate_of (processed_in backs)
  pub ttys : gathered.ttys.items ≡ map tty_of (served_in backs)
  pub reported : AllThree TotalsAre (served_in backs) inputs gathered.reported.items

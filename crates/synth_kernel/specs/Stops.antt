-- The objects of a boot when its threads have stopped.
use Rattle.std.specs.Prelude.{◌≡◌, ℕ, List, drop}
use Rattle.std.specs.List.{AllZip}
use Rattle.boot_threads.specs.Crews.{GaveBack}
use Rattle.boot_threads.specs.Typings.{AreTyped}
use Rattle.boot_threads.specs.Works.{Back, HasWorked, RunsOf, RefusalsOf}
use Rattle.processor.specs.Points.{Calls}
use Rattle.spsc_line.specs.declared.line_in.LineIn.{LineIn}
use Rattle.synth_kernel.specs.declared.gathering.Lists.{Lists}
use Rattle.synth_kernel.specs.declared.ready.Ready.{Ready}
use Rattle.synth_kernel.specs.declared.ready.Room.{Room}
use Rattle.synth_kernel.specs.declared.running.Stopped.{Stopped}
use Rattle.synth_kernel.specs.Gatherings.{IsGathered}

-- these are the lists of the room for what is gathered
pub record AreListsOf {G : Type 0} (room : Room G) (lists : Lists G) : Type 0 where
  pub processed : lists.processed ≡ room.processed
  pub served : lists.served ≡ room.served
  pub ttys : lists.ttys ≡ room.ttys
  pub heards : lists.heards ≡ room.heards
  pub gates : lists.gates ≡ room.gates
  pub reported : lists.reported ≡ room.reported

-- A thread did each work and was joined, or was refused. Meanwhile the ttys' bytes were typed into the inputs of the
-- devices, whose works follow those of so many processors. The results were gathered. The objects, and the room for
-- answers and report, are those that were ready
pub record HasStopped {G : Type 0} (ran : RunsOf G) (refused : RefusalsOf G)
    (T : Calls G) (processors : ℕ) (ready : Ready G) (stopped : Stopped G) : Type 0 where
  pub shared_is : stopped.shared ≡ ready.shared
  pub backs : List (Back G)
  pub worked : AllZip (GaveBack ran refused (HasWorked T) ready.shared) ready.works.items backs
  pub inputs : List LineIn
  pub typed : AreTyped ready.shared.plan.ttys (drop processors backs) ready.inputs.items inputs
  pub gathered : IsGathered ready.shared ready.station backs inputs stopped.gathered
  pub answers_are : stopped.answers ≡ ready.room.answers
  pub report_is : stopped.report ≡ ready.room.report

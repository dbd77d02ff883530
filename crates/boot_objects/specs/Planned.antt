-- The quajects that a plan asks for.
use Rattle.std.specs.Prelude.{◌≡◌, ◌≤◌, ◌-◌, ℕ, List, [], ◌∷◌, length, map, Option, Some, None}
use Rattle.std.specs.List.{slice_get}
use Rattle.boot_data.specs.declared.boot_plan.BootPlan.{BootPlan}
use Rattle.boot_data.specs.declared.plan.Mover.{Mover}
use Rattle.boot_data.specs.declared.plan.Mover.TheVariants as mover
use Rattle.boot_data.specs.declared.plan.PlannedMover.{PlannedMover}
use Rattle.boot_data.specs.declared.plan.Way.{Way}
use Rattle.boot_data.specs.QueueLists.{raw_queue, line_queue, screen_queue}
use Rattle.quajects.specs.declared.any.AnyQuaject.{AnyQuaject}
use Rattle.quajects.specs.declared.any.AnyQuaject.TheVariants as any
use Rattle.quajects.specs.declared.piping.Pump.{Pump}
use Rattle.quajects.specs.declared.switching.Switch.{Switch}
use Rattle.quajects.specs.declared.terminal.CookedTty.{CookedTty}
use Rattle.quajects.specs.declared.world.Queues.{Queues}
use Rattle.quajects.specs.Anys.{Fits, HasShutNothing, all_taken, all_puts, held_of, notes_of}
use Rattle.quajects.specs.Routes.{key_of, index_of}

-- the quaject's ends are of the queues that it names; it has taken, put and shut nothing, holds nothing and ran no note
pub record IsReady (world : Queues) (quaject : AnyQuaject) : Type 0 where
  pub fits : Fits world quaject
  pub none_taken : all_taken quaject ≡ []
  pub none_put : all_puts quaject ≡ []
  pub none_shut : HasShutNothing quaject
  pub none_held : held_of quaject ≡ []
  pub none_run : notes_of quaject ≡ 0

-- the ways of a switch in the order of the plan, followed by None up to four
abbrev pub four_ways : List Way → List (Option Way)
four_ways ways = slice_get ways 0 ∷ slice_get ways 1 ∷ slice_get ways 2 ∷ slice_get ways 3 ∷ []

-- the key of a way, if there is one
abbrev pub way_key : Option Way → Option ℕ
way_key None = None
way_key (Some way) = Some way.key

-- the queue that a way leads to, if there is one
abbrev pub way_to : Option Way → Option ℕ
way_to None = None
way_to (Some way) = Some way.to

-- the pump takes from the small queue `from`, and puts into the small queue `to`
pub record IsPump (from to : ℕ) (pump : Pump) : Type 0 where
  pub from_is : pump.source.index ≡ from
  pub to_is : pump.target.index ≡ to

-- the switch takes from `from`; each of these keys, at most four, leads to its queue, and other lines go to `other`
pub record IsSwitch (from other : ℕ) (ways : List Way) (switch : Switch) : Type 0 where
  pub few : length ways ≤ 4
  pub from_is : switch.source.index ≡ from
  pub other_is : switch.other.index ≡ other
  pub keys_are : map key_of switch.ways ≡ map way_key (four_ways ways)
  pub indexes_are : map index_of switch.ways ≡ map way_to (four_ways ways)

-- the cooked tty takes from the small queue `raw`, and puts into the line queue and the screen queue of this tty
pub record IsCooked (raw tty : ℕ) (cooked : CookedTty) : Type 0 where
  pub raw_is : cooked.raw.index ≡ raw
  pub line_is : cooked.line.index ≡ line_queue tty
  pub screen_is : cooked.screen.index ≡ screen_queue tty

-- the quaject is this pump or switch of the plan
abbrev pub IsMover : Mover → AnyQuaject → Type 0
IsMover (mover.Pump from to) (any.Pump pump) = IsPump from to pump
IsMover (mover.Switch from other ways) (any.Switch switch) = IsSwitch from other ways switch
IsMover _ _ = ⊥

-- the quaject is the cooked tty of this tty
abbrev pub IsTty : ℕ → ℕ → AnyQuaject → Type 0
IsTty raw tty (any.Cooked cooked) = IsCooked raw tty cooked
IsTty raw tty _ = ⊥

-- the quaject is the planned pump or switch; if none is planned, it is this tty's cooked tty, after so many small
-- queues
abbrev pub IsPlanned : ℕ → ℕ → Option PlannedMover → AnyQuaject → Type 0
IsPlanned queues tty (Some planned) quaject = IsMover planned.mover quaject
IsPlanned queues tty None quaject = IsTty (raw_queue queues tty) tty quaject

-- the quaject is the one of the plan with this number: the pumps and switches come first, and then the cooked ttys
abbrev pub IsPlannedAt : BootPlan → ℕ → AnyQuaject → Type 0
IsPlannedAt plan number quaject =
    IsPlanned (length plan.queues) (number - length plan.movers) (slice_get plan.movers number) quaject

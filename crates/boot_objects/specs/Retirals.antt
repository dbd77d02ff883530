-- Chains that were closed, each by its only end.
use Rattle.std.specs.Prelude.{◌<◌, List}
use Rattle.table_theory.specs.declared.positions.TheConstants.{POSITIONS}
use Rattle.stations.specs.Splits.{AllThree}
use Rattle.proc_chain.specs.declared.ends.ChainEnd.{ChainEnd}
use Rattle.proc_chain.specs.declared.ends.ProcChain.{ProcChain}
use Rattle.proc_chain.specs.declared.quaject.Quaject.{Ghosts}
use Rattle.proc_chain.specs.Handles.{view_of, pact_of, first_of}
use Rattle.quajects.specs.declared.any.AnyQuaject.{AnyQuaject}
use Rattle.quajects.specs.declared.home.Home.{Home}
use Rattle.quajects.specs.declared.world.Queues.{Queues}
use Rattle.quajects.specs.Homes.{CameHome}

-- fewer notes were chained than a chain has positions
abbrev pub IsFew : Home → Type 0
IsFew home = home.chained < POSITIONS

module _ {g : Ghosts AnyQuaject Queues} where
  -- the chain is closed by this end, and `home` is its quaject come home
  abbrev pub HasRetired : ProcChain AnyQuaject Queues → ChainEnd AnyQuaject Queues g → Home → Type 0
  HasRetired chain end home = CameHome (pact_of chain) (first_of chain) (view_of end) home

  -- each chain is closed by the end at its place
  abbrev pub HaveRetired : List (ProcChain AnyQuaject Queues) → List (ChainEnd AnyQuaject Queues g) → List Home → Type 0
  HaveRetired chains ends homes = AllThree HasRetired chains ends homes

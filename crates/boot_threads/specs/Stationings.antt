-- A station for each processor, split off from the first.
use Rattle.std.specs.Prelude.{◌≡◌, ℕ, ◌+◌, ◌*◌, ◌^◌, ◌<◌, ◌≤◌, List, [], ◌∷◌, length}
use Rattle.boot_data.specs.declared.plan.QueueIndex.TheVariants.{Small, Large}
use Rattle.table_theory.specs.declared.shares.TheConstants.{MOST_GIVEN}
use Rattle.table_theory.specs.Sharing.{given, kept}
use Rattle.processor.specs.declared.shared.Shared.{Shared}
use Rattle.processor.specs.declared.station.Parts.{Parts}
use Rattle.processor.specs.declared.station.Station.{Station}
use Rattle.processor.specs.Accounts.{account, shares}
use Rattle.stations.specs.Shares.{each_share}
use Rattle.processor.specs.Logs.{IsFresh}
use Rattle.processor.specs.Manning.{IsRunnable}
use Rattle.stations.specs.Partings.{AreSplit}
use Rattle.thread_table.specs.Handles.{view_of}
use Rattle.thread_table.specs.Rules.{nothing_on}
use Rattle.boot_threads.specs.declared.work.Work.{Work}
use Rattle.boot_threads.specs.declared.work.Work.TheVariants as works

-- the share can be split so many times
abbrev pub IsAmple : ℕ → ℕ → Type 0
IsAmple splits share = splits * MOST_GIVEN + 2 ≤ share

-- each end of the station can be split so many times
pub record CanSplit (splits : ℕ) (parts : Parts) : Type 0 where
  pub hand : IsAmple splits (shares parts).hand
  pub small : (q : ℕ) → q < length parts.queues.small.items → IsAmple splits ((shares parts).queues (Small q))
  pub large : (q : ℕ) → q < length parts.queues.large.items → IsAmple splits ((shares parts).queues (Large q))
  pub chains : (q : ℕ) → q < length parts.chains.items → IsAmple splits ((shares parts).chains q)
  pub meters : IsAmple splits (shares parts).meters

-- no element is on a processor
abbrev pub NoneOn : Parts → Type 0
NoneOn parts = (view_of parts.hand).own.on ≡ nothing_on

-- The work of a processor on a station that it can use, and that has done nothing. The first station gave it a part of
-- each end, and of the processors only this one. The first station has done what it had done, and nothing else
pub record IsPosted {G : Type 0} (shared : Shared) (p turns : ℕ) (gate : G) (old new : Parts) (work : Work G)
    : Type 0 where
  pub station : Station
  pub is : work ≡ works.Process station p turns gate
  pub manned : IsRunnable shared p station.parts
  pub fresh : IsFresh station.parts
  pub split : AreSplit (2 ^ p) old new station.parts
  pub did : account new ≡ account old
  pub kept_are : shares new ≡ each_share kept (shares old)
  pub given_are : shares station.parts ≡ each_share given (shares old)

-- each gate has such a work, for the processors from p on; each station is split off from what the last split left
abbrev pub ArePosted : {G : Type 0} → Shared → ℕ → ℕ → List G → Parts → Parts → List (Work G) → Type 0
ArePosted shared p turns [] old new [] = new ≡ old
ArePosted shared p turns (gate ∷ gates) old new (work ∷ works) =
    (mid : Parts) × IsPosted shared p turns gate old mid work × ArePosted shared (p + 1) turns gates mid new works
ArePosted shared p turns gates old new works = ⊥

-- A station that a processor can use, and the parts of it that its turns leave unchanged.
use Rattle.std.specs.Prelude.{◌≡◌, ℕ}
use Rattle.turn_dispatch.specs.Holdings.{IsFree}
use Rattle.thread_table.specs.Handles.{view_of}
use Rattle.processor.specs.declared.shared.Shared.{Shared}
use Rattle.processor.specs.declared.station.Parts.{Parts}
use Rattle.processor.specs.Accounts.{shares, seat_parted}
use Rattle.processor.specs.Rooms.{HasRoom}
use Rattle.processor.specs.Stations.{ArePartsOf, AreSameParts}

-- The station's ends are of these objects, and it has room for the lines that are heard. Its hand serves the processor,
-- on which there is no element
pub record IsRunnable (shared : Shared) (p : ℕ) (parts : Parts) : Type 0 where
  pub parts_are : ArePartsOf shared parts
  pub free : IsFree p (view_of parts.hand)
  pub room : HasRoom shared.plan parts

-- The station can still be used. It has the same ends with the same shares, and its seat was neither split nor joined.
-- Its hand serves the same processors, with the same elements on them
pub record KeepsStation (shared : Shared) (p : ℕ) (old new : Parts) : Type 0 where
  pub manned : IsRunnable shared p new
  pub same : AreSameParts old new
  pub serves : (view_of new.hand).own.serves ≡ (view_of old.hand).own.serves
  pub on : (view_of new.hand).own.on ≡ (view_of old.hand).own.on
  pub shares_are : shares new ≡ shares old
  pub seat : seat_parted new ≡ seat_parted old

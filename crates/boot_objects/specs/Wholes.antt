-- One owner has the whole of each object, by its own ends and by the ends of the quajects.
use Rattle.std.specs.Prelude.{◌≡◌, ℕ, List, map}
use Rattle.turn_io.specs.Accounts.{stake, chain_stake}
use Rattle.boot_objects.specs.declared.device.Device.{Device}
use Rattle.boot_objects.specs.Shares.{opening_shares, AreWhole}
use Rattle.processor.specs.declared.shared.Shared.{Shared}
use Rattle.processor.specs.declared.station.Parts.{Parts}
use Rattle.stations.specs.Shares.{both_shares}
use Rattle.processor.specs.Accounts.{shares}
use Rattle.quajects.specs.declared.raw.RawTty.{RawTty}
use Rattle.quajects.specs.Raws.{end_of}

-- these parts have the whole of all objects, together with the quajects that were given to the chains
abbrev pub HasWholes : Shared → Parts → Type 0
HasWholes shared parts = AreWhole shared (both_shares (shares parts) (opening_shares shared.chains.items))

-- the shares that a raw tty has, of its queue and of its chain
abbrev pub tty_shares : RawTty → ℕ × ℕ
tty_shares tty = ((stake (end_of tty)).share, (chain_stake tty.chain).share)

-- the raw ttys have the shares that the raw ttys of the devices had, in their order
abbrev pub HaveBack : List Device → List RawTty → Type 0
HaveBack devices ttys = map tty_shares ttys ≡ map (λ (device : Device). tty_shares device.tty) devices

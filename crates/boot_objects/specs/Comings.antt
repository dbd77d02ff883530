-- The ends that come home with quajects.
use Rattle.std.specs.Prelude.{◌≡◌, ℕ, List, Option}
use Rattle.std.specs.List.{flat_map}
use Rattle.boot_objects.specs.Gains.{port_stakes}
use Rattle.quajects.specs.declared.home.Home.{Home}
use Rattle.quajects.specs.declared.ports.Port.{Port}
use Rattle.quajects.specs.declared.world.Queues.{Queues}
use Rattle.quajects.specs.Ports.{AllFit}

-- each end that came home is one of the queue that it names
abbrev pub FitsHome : Queues → Home → Type 0
FitsHome world home = AllFit world.small.items home.small × AllFit world.large.items home.large

-- the ends of small queues that came home, home by home
abbrev pub small_ports : List Home → List (Option (Port 64))
small_ports homes = flat_map (λ (home : Home). home.small) homes

-- the ends of large queues that came home, home by home
abbrev pub large_ports : List Home → List (Option (Port 256))
large_ports homes = flat_map (λ (home : Home). home.large) homes

-- the ends that came home shut no queue
abbrev pub ShutNothing : Home → Type 0
ShutNothing home =
    (q : ℕ) → ((port_stakes home.small q).did.shuts ≡ 0) × ((port_stakes home.large q).did.shuts ≡ 0)

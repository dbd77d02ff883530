-- What the ends of quajects that came home put and took, queue by queue.
use Rattle.boot_laws.proofs.Common.{◌≡◌, ◌≢◌, ℕ, ◌+◌, ◌<◌, ◌≤◌, Bool, true, false, List, [], ◌∷◌, ◌++◌, map, refl, ap, ◌∙◌, arith, append-nil, Option, Some, None, flat_map, ne_eqb, if◌then◌else◌, ◌==◌, AllZip, AllByRecursion, map-append, flat_map-append, QueueIndex, Small, Large, QueueEnd, lines_put, lines_taken, at_one, only, AnyQuaject, Home, Port, Way, runs_of, taken_from, routes_of, put_in, ends_at, home_at, device_at, ChainEnded, view_of, KeepsSides, PortsOf, all_taken, port_of, TookNothing, source_of, way_target, targets}
use Rattle.claim_queue.specs.Own.{View}
use Rattle.turn_io.proofs.Shares.{none_of as no_lines}
use Rattle.quajects.specs.declared.any.AnyQuaject.TheVariants as any
use Rattle.quajects.specs.Pumps as pumps
use Rattle.quajects.specs.Switches as switches
use Rattle.quajects.specs.Terminals as terminals
use Rattle.boot_laws.specs.ClosedTables as closed

-- WHAT ENDS LIST

-- nothing at one place is nothing anywhere
nothing_at : {E : Type 0} (b : Bool) → ◌≡◌ {A = List E} (if b then [] else []) []
nothing_at true = refl
nothing_at false = refl

module _ {E : Type 0} (f : View → List E) where
  -- what these ends list
  abbrev pub of_ends : {n : ℕ} → List (QueueEnd n) → List E
  of_ends ends = flat_map f (map view_of ends)

  pub of_more : {n : ℕ} (a b : List (QueueEnd n)) → of_ends (a ++ b) ≡ of_ends a ++ of_ends b
  of_more a b = ap (flat_map f) (map-append view_of a b) ∙ flat_map-append f (map view_of a) (map view_of b)

  abbrev pub of_ports : {n : ℕ} → ℕ → List (Option (Port n)) → List E
  of_ports number ports = of_ends (ends_at number ports)

  of_one : {n : ℕ} (b : Bool) (end : QueueEnd n) → of_ends (if b then end ∷ [] else []) ≡ (if b then f (view_of end) else [])
  of_one true end = append-nil (f (view_of end))
  of_one false end = refl

  -- with one more end, if it is an end of the queue
  pub of_next : {n : ℕ} (index number : ℕ) (end : QueueEnd n) (rest : List (QueueEnd n)) → of_ends (at_one [] index (end ∷ []) number ++ rest) ≡ at_one [] index (f (view_of end)) number ++ of_ends rest
  of_next index number end rest = of_more (at_one [] index (end ∷ []) number) rest ∙ ap (λ z. z ++ of_ends rest) (of_one (number == index) end)

  pub idle : {n : ℕ} (index number : ℕ) (end : QueueEnd n) (rest : List (QueueEnd n)) → f (view_of end) ≡ [] → of_ends (at_one [] index (end ∷ []) number ++ rest) ≡ of_ends rest
  idle index number end rest none = of_next index number end rest ∙ ap (λ z. z ++ of_ends rest) (ap (λ z. at_one [] index z number) none ∙ nothing_at (number == index))

  pub elsewhere : {n : ℕ} (index number : ℕ) (end : QueueEnd n) (rest : List (QueueEnd n)) → number ≢ index → of_ends (at_one [] index (end ∷ []) number ++ rest) ≡ of_ends rest
  elsewhere index number end rest other = ap (λ (b : Bool). of_ends ((if b then end ∷ [] else []) ++ rest)) (ne_eqb number index other)

  pub of_homes : {n : ℕ} (ends : Home → List (QueueEnd n)) (homes : List Home) → of_ends (flat_map ends homes) ≡ flat_map (λ home. of_ends (ends home)) homes
  of_homes ends [] = refl
  of_homes ends (home ∷ homes) = of_more (ends home) (flat_map ends homes) ∙ ap (λ z. of_ends (ends home) ++ z) (of_homes ends homes)

  -- the devices' ends list nothing, if each lists nothing
  pub devices_none : (index : QueueIndex) (raw : ℕ) (ends : List (QueueEnd 64)) → AllByRecursion (λ (end : QueueEnd 64). f (view_of end) ≡ []) ends → of_ends (device_at index raw ends) ≡ []
  devices_none (Large q) raw ends h = refl
  devices_none (Small q) raw [] h = refl
  devices_none (Small q) raw (end ∷ ends) h = idle raw q end (device_at (Small q) (raw + 1) ends) h.0 ∙ devices_none (Small q) (raw + 1) ends h.1

  -- no device has an end of a queue below the raw ones
  pub no_device : (number raw : ℕ) (ends : List (QueueEnd 64)) → number < raw → of_ends (device_at (Small number) raw ends) ≡ []
  no_device number raw [] low = refl
  no_device number raw (end ∷ ends) low = elsewhere raw number end (device_at (Small number) (raw + 1) ends) (λ e. omega arith) ∙ no_device number (raw + 1) ends (omega arith)

-- what each home lists by its quaject, all do
homes_list : {E : Type 0} {n : ℕ} (f : View → List E) (ends : Home → List (QueueEnd n)) (by : AnyQuaject → List E)
    → ((quaject : AnyQuaject) (home : Home) → PortsOf quaject (home.small, home.large) → KeepsSides quaject → of_ends f (ends home) ≡ by quaject)
    → (homes : List Home) (chains : List closed.Chain) → AllZip ChainEnded homes chains → of_ends f (flat_map ends homes) ≡ flat_map (λ (chain : closed.Chain). by chain.quaject) chains
homes_list f ends by one homes chains z = of_homes f ends homes ∙ each homes chains z
  where
    each : (homes : List Home) (chains : List closed.Chain) → AllZip ChainEnded homes chains → flat_map (λ home. of_ends f (ends home)) homes ≡ flat_map (λ (chain : closed.Chain). by chain.quaject) chains
    each [] [] z = refl
    each [] (c ∷ cs) z = absurd z
    each (h ∷ hs) [] z = absurd z
    each (h ∷ hs) (c ∷ cs) z = λ k. one c.quaject h z.0.ports z.0.sides k ++ each hs cs z.1 k

-- TAKINGS

ways_took_none : (number : ℕ) (ways : List (Option Way)) → AllByRecursion TookNothing ways → of_ends lines_taken (ends_at number (map port_of ways)) ≡ []
ways_took_none number [] h = refl
ways_took_none number (None ∷ ways) h = ways_took_none number ways h.1
ways_took_none number (Some way ∷ ways) h = idle lines_taken way.outlet.index number way.outlet.end (ends_at number (map port_of ways)) h.0 ∙ ways_took_none number ways h.1

-- the first end took these, and the ends after it took nothing
first_took : (index number : ℕ) (end : QueueEnd 64) (rest : List (QueueEnd 64)) → of_ends lines_taken rest ≡ []
    → of_ends lines_taken (at_one [] index (end ∷ []) number ++ rest) ≡ at_one [] index (lines_taken (view_of end)) number
first_took index number end rest none = of_next lines_taken index number end rest
    ∙ (ap (λ z. at_one [] index (lines_taken (view_of end)) number ++ z) none ∙ append-nil (at_one [] index (lines_taken (view_of end)) number))

home_took : (index : QueueIndex) (quaject : AnyQuaject) (home : Home) → PortsOf quaject (home.small, home.large) → KeepsSides quaject
    → of_ends lines_taken (home_at index home) ≡ only [] (Small (source_of quaject)) (all_taken quaject) index
home_took (Small q) (any.Cooked tty) home h k = ap (of_ports lines_taken q) h.0 ∙ first_took tty.raw.index q (terminals.raw_of tty) [] refl
home_took (Small q) (any.Pump pump) home h k = ap (of_ports lines_taken q) h.0
    ∙ first_took pump.source.index q (pumps.source_of pump) (ends_at q (Some (pumps.target_port pump) ∷ [])) (idle lines_taken pump.target.index q (pumps.target_of pump) [] k.1)
home_took (Small q) (any.Switch switch) home h k = ap (of_ports lines_taken q) h.0
    ∙ first_took switch.source.index q (switches.source_of switch) (ends_at q (Some (switches.other_port switch) ∷ switches.way_ports switch))
    (idle lines_taken switch.other.index q (switches.other_of switch) (ends_at q (switches.way_ports switch)) k.1 ∙ ways_took_none q switch.ways k.2)
home_took (Large q) (any.Cooked tty) home h k = ap (of_ports lines_taken q) h.1
    ∙ (idle lines_taken tty.line.index q (terminals.line_of tty) (ends_at q (Some (terminals.screen_port tty) ∷ [])) k.1 ∙ idle lines_taken tty.screen.index q (terminals.screen_of tty) [] k.2)
home_took (Large q) (any.Pump pump) home h k = ap (of_ports lines_taken q) h.1
home_took (Large q) (any.Switch switch) home h k = ap (of_ports lines_taken q) h.1

pub homes_took : (index : QueueIndex) (homes : List Home) (chains : List closed.Chain) → AllZip ChainEnded homes chains
    → of_ends lines_taken (flat_map (home_at index) homes) ≡ flat_map (taken_from index) chains
homes_took index = homes_list lines_taken (home_at index) (λ (quaject : AnyQuaject). only [] (Small (source_of quaject)) (all_taken quaject) index) (home_took index)

-- PUTS

-- the lines at these targets that were put in the queue
abbrev puts_at : QueueIndex → List (QueueIndex × List (List ℕ)) → List (List ℕ)
puts_at index list = flat_map (λ (target : QueueIndex × List (List ℕ)). only [] target.0 target.1 index) list

small_ways : (q : ℕ) (ways : List (Option Way)) → of_ends lines_put (ends_at q (map port_of ways)) ≡ puts_at (Small q) (flat_map way_target ways)
small_ways q [] = refl
small_ways q (None ∷ ways) = small_ways q ways
small_ways q (Some way ∷ ways) = of_next lines_put way.outlet.index q way.outlet.end (ends_at q (map port_of ways)) ∙ ap (λ z. at_one [] way.outlet.index (lines_put (view_of way.outlet.end)) q ++ z) (small_ways q ways)

large_ways : (q : ℕ) (ways : List (Option Way)) → [] ≡ puts_at (Large q) (flat_map way_target ways)
large_ways q [] = refl
large_ways q (None ∷ ways) = large_ways q ways
large_ways q (Some way ∷ ways) = large_ways q ways

home_put : (index : QueueIndex) (quaject : AnyQuaject) (home : Home) → PortsOf quaject (home.small, home.large) → KeepsSides quaject → of_ends lines_put (home_at index home) ≡ puts_at index (targets quaject)
home_put (Small q) (any.Cooked tty) home h k = ap (of_ports lines_put q) h.0 ∙ idle lines_put tty.raw.index q (terminals.raw_of tty) [] k.0
home_put (Small q) (any.Pump pump) home h k = ap (of_ports lines_put q) h.0
    ∙ (idle lines_put pump.source.index q (pumps.source_of pump) (ends_at q (Some (pumps.target_port pump) ∷ [])) k.0 ∙ of_next lines_put pump.target.index q (pumps.target_of pump) [])
home_put (Small q) (any.Switch switch) home h k = ap (of_ports lines_put q) h.0
    ∙ (idle lines_put switch.source.index q (switches.source_of switch) (ends_at q (Some (switches.other_port switch) ∷ switches.way_ports switch)) k.0
    ∙ (of_next lines_put switch.other.index q (switches.other_of switch) (ends_at q (switches.way_ports switch)) ∙ ap (λ z. at_one [] switch.other.index (lines_put (view_of (switches.other_of switch))) q ++ z) (small_ways q switch.ways)))
home_put (Large q) (any.Cooked tty) home h k = ap (of_ports lines_put q) h.1
    ∙ (of_next lines_put tty.line.index q (terminals.line_of tty) (ends_at q (Some (terminals.screen_port tty) ∷ []))
    ∙ ap (λ z. at_one [] tty.line.index (lines_put (view_of (terminals.line_of tty))) q ++ z) (of_next lines_put tty.screen.index q (terminals.screen_of tty) []))
home_put (Large q) (any.Pump pump) home h k = ap (of_ports lines_put q) h.1
home_put (Large q) (any.Switch switch) home h k = ap (of_ports lines_put q) h.1 ∙ large_ways q switch.ways

pub homes_put : (index : QueueIndex) (homes : List Home) (chains : List closed.Chain) → AllZip ChainEnded homes chains
    → of_ends lines_put (flat_map (home_at index) homes) ≡ flat_map (put_in index) chains
homes_put index = homes_list lines_put (home_at index) (λ (quaject : AnyQuaject). puts_at index (targets quaject)) (home_put index)

-- WHAT WAS PUT IN A RAW QUEUE

-- the small queues of a pump or switch are among the first so many; a cooked tty takes from the one small queue that it has
abbrev pub IsBelow : ℕ → AnyQuaject → Type 0
IsBelow many (any.Cooked tty) = Unit {0}
IsBelow many (any.Pump pump) = (pump.source.index < many) × (pump.target.index < many)
IsBelow many (any.Switch switch) = (switch.source.index < many) × (switch.other.index < many) × AllByRecursion (λ (r : ℕ × ℕ). r.1 < many) (flat_map routes_of switch.ways)

ways_put_none : (number many : ℕ) (ways : List (Option Way)) → many ≤ number → AllByRecursion (λ (r : ℕ × ℕ). r.1 < many) (flat_map routes_of ways) → of_ports runs_of number (map port_of ways) ≡ []
ways_put_none number many [] low h = refl
ways_put_none number many (None ∷ ways) low h = ways_put_none number many ways low h
ways_put_none number many (Some way ∷ ways) low h = elsewhere runs_of way.outlet.index number way.outlet.end (ends_at number (map port_of ways)) (λ e. let b = h.0 in omega arith)
    ∙ ways_put_none number many ways low h.1

home_put_none : (number many : ℕ) (quaject : AnyQuaject) (home : Home) → PortsOf quaject (home.small, home.large) → KeepsSides quaject → many ≤ number → IsBelow many quaject
    → of_ends runs_of (home_at (Small number) home) ≡ []
home_put_none number many (any.Cooked tty) home h k low b = ap (of_ports runs_of number) h.0 ∙ idle runs_of tty.raw.index number (terminals.raw_of tty) [] (no_lines (runs_of (view_of (terminals.raw_of tty))) k.0)
home_put_none number many (any.Pump pump) home h k low b = ap (of_ports runs_of number) h.0
    ∙ (elsewhere runs_of pump.source.index number (pumps.source_of pump) (ends_at number (Some (pumps.target_port pump) ∷ [])) (λ e. let c = b.0 in omega arith)
    ∙ elsewhere runs_of pump.target.index number (pumps.target_of pump) [] (λ e. let c = b.1 in omega arith))
home_put_none number many (any.Switch switch) home h k low b = ap (of_ports runs_of number) h.0
    ∙ (elsewhere runs_of switch.source.index number (switches.source_of switch) (ends_at number (Some (switches.other_port switch) ∷ switches.way_ports switch)) (λ e. let c = b.0 in omega arith)
    ∙ (elsewhere runs_of switch.other.index number (switches.other_of switch) (ends_at number (switches.way_ports switch)) (λ e. let c = b.1 in omega arith)
    ∙ ways_put_none number many switch.ways low b.2))

-- if each quaject's small queues are among the first so many, no end of a quaject put in a queue after those
pub homes_put_none : (number many : ℕ) (homes : List Home) (chains : List closed.Chain) → AllZip ChainEnded homes chains → many ≤ number
    → AllByRecursion (λ (chain : closed.Chain). IsBelow many chain.quaject) chains → of_ends runs_of (flat_map (home_at (Small number)) homes) ≡ []
homes_put_none number many homes chains z far below = of_homes runs_of (home_at (Small number)) homes ∙ each homes chains z below
  where
    each : (homes : List Home) (chains : List closed.Chain) → AllZip ChainEnded homes chains → AllByRecursion (λ (chain : closed.Chain). IsBelow many chain.quaject) chains
        → flat_map (λ home. of_ends runs_of (home_at (Small number) home)) homes ≡ []
    each [] [] z b = refl
    each [] (c ∷ cs) z b = absurd z
    each (h ∷ hs) [] z b = absurd z
    each (h ∷ hs) (c ∷ cs) z b = λ k. home_put_none number many c.quaject h z.0.ports z.0.sides far b.0 k ++ each hs cs z.1 b.1 k

-- What is known when a boot is shut down is what the laws of its report ask for.
use Rattle.boot_laws.proofs.Common.{◌<◌, true, concat, AllZip, AllByRecursion, no_stake, was_shut, Account, account, LogEntry, FreedSpare, WorkedTogether, ◌≡◌, ℕ, zero, suc, ◌+◌, ◌-◌, List, [], ◌∷◌, ◌++◌, map, take, length, refl, sym, ap, ◌∙◌, subst, arith, Option, Some, flat_map, IsPermutation, if◌then◌else◌, ◌==◌, Bool, false, All, range_with_len, le_prop, ∥∥₁_elim, length-map, BootPlan, PlannedMover, PlannedTty, QueueIndex, Small, Large, Report, plan_of, IsPlan, raw_queue, line_queue, screen_queue, QueueEnd, IsClosed, Gained, Stake, at_one, ProcChain, DeviceEnded, Parts, Line, heard_lines, there, AnyQuaject, Home, Port, Queues, shuts_of, IsTty, MadeOfNew, Boot, BootEnded, others_at, ClosedTables, queue_at, queue_of, QueueEnded, ThreadsEnded, MetersEnded, MoverEnded, ChainEnded, ends_at, device_at, thread_of, Ascend, stake, slice_get, take-append-drop, QueueOps, view_of, AreQuajectsOf, quajects_of, port_stakes, nothing_did, end_table, queue_table, AtChain, chain_stake, idle_chain, zip_from, homes_in, shown_in, notes_long, chains_of, closed_of, Says}
use Rattle.std.proofs.lemmas.Option.{get_or_from_slice_get, slice_get_past, slice_get_within as within}
use Rattle.boot_objects.specs.declared.closing.all.TornDown.{TornDown}
use Rattle.boot_objects.specs.Endings.{AllClosed}
use Rattle.quajects.proofs.Routes.{mapped_at}
use Rattle.boot_objects.specs.Comings.{ShutNothing, small_ports, large_ports}
use Rattle.boot_objects.specs.RawEnds.{TookRaws, raw_ports}
use Rattle.boot_objects.specs.Retirals.{HasRetired, HaveRetired, IsFew}
use Rattle.boot_objects.proofs.Drawing.{three_long}
use Rattle.boot_objects.proofs.Unshut.{homes_unshut}
use Rattle.boot_objects.proofs.PortGains.{gained_both, stakes_append}
use Rattle.turn_io.proofs.Places.{as_long}
use Rattle.turn_dispatch.specs.Holdings.{IsFree}
use Rattle.boot_laws.proofs.Settling.Named.{none_on}
use Rattle.boot_laws.proofs.Settling.Reading.{closed_settles}
use Rattle.meters.specs.Closings as seats
use Rattle.meters.specs.Handles as meters
use Rattle.proc_chain.specs.declared.ends.ChainEnd.{ChainEnd}
use Rattle.proc_chain.specs.declared.quaject.Quaject.{Ghosts}
use Rattle.proc_chain.specs.Handles as chains
use Rattle.proc_chain.specs.Own as chain_views
use Rattle.proc_chain.specs.Shown.{notes_of}
use Rattle.event_theory.proofs.Lists.Histories.{slice_get-drop}
use Rattle.quajects.specs.Anys.{notes_of as quaject_notes}
use Rattle.processor.specs.declared.shared.Shared.{Shared}
use Rattle.processor.specs.Stations.{ArePartsOf}
use Rattle.quajects.specs.declared.raw.RawTty.{RawTty}
use Rattle.quajects.specs.Raws.{end_of}
use Rattle.thread_table.specs.Closings as tables
use Rattle.thread_table.specs.Handles as threads
use Rattle.boot_laws.specs.ClosedTables as closed
use Rattle.boot_laws.proofs.Boots.Planning.{all_got, IsPlanned, IsOfPlan, planned_stay, made_new}
use Rattle.boot_laws.proofs.Joined.{at_its, WereJoined, worked_together}
use Rattle.boot_laws.proofs.Queues.Notes.{notes_are}
use Rattle.boot_laws.proofs.Queues.QueueEnds.{shut_at, boot_of, queue_ended}
use Rattle.boot_laws.proofs.Queues.Stakes.{ends_more}

-- LISTS

taken_at : {A : Type 0} (m : ℕ) (xs : List A) (k : ℕ) (x : A) → slice_get (take m xs) k ≡ Some x → (k < m) × (slice_get xs k ≡ Some x)
taken_at zero xs k x e = absurd (cc)
taken_at (suc m) [] k x e = absurd (cc)
taken_at (suc m) (y ∷ xs) zero x e = (omega arith, e)
taken_at (suc m) (y ∷ xs) (suc k) x e = let h = taken_at m xs k x e in let l = h.0 in (omega arith, h.1)

pub of_range : {A : Type 0} (f : ℕ → A) (a n k : ℕ) (x : A) → slice_get (map f (range_with_len a n)) k ≡ Some x → x ≡ f (a + k)
of_range f a zero k x e = absurd (cc)
of_range f a (suc n) zero x e = let same : f a ≡ x = cc in sym same ∙ ap f (let z : a ≡ a + 0 = omega arith in z)
of_range f a (suc n) (suc k) x e = of_range f (a + 1) n k x e ∙ ap f (let z : a + 1 + k ≡ a + suc k = omega arith in z)

pub range_long : {A : Type 0} (f : ℕ → A) (a n : ℕ) → length (map f (range_with_len a n)) ≡ n
range_long f a zero = refl
range_long f a (suc n) = ap suc (range_long f (a + 1) n)

-- CHAINS

module _ {g : Ghosts AnyQuaject Queues} where
  -- the quajects that came home of these chains
  abbrev pub came_home : (chains : List (ProcChain AnyQuaject Queues)) (ends : List (ChainEnd AnyQuaject Queues g)) (homes : List Home) → HaveRetired chains ends homes → List AnyQuaject
  came_home (chain ∷ chains) (end ∷ ends) (home ∷ homes) retired = retired.0.quaject ∷ came_home chains ends homes retired.1
  came_home [] ends homes retired = []
  came_home (chain ∷ chains) [] homes retired = []
  came_home (chain ∷ chains) (end ∷ ends) [] retired = []

  -- a closed chain, by its place
  record ChainShut (list : List (ProcChain AnyQuaject Queues)) (ends : List (ChainEnd AnyQuaject Queues g)) (homes : List Home) (k : ℕ) (chain : closed.Chain) : Type 0 where
    its : ProcChain AnyQuaject Queues
    end : ChainEnd AnyQuaject Queues g
    home : Home
    at : slice_get list k ≡ Some its
    end_at : slice_get ends k ≡ Some end
    home_at : slice_get homes k ≡ Some home
    came : HasRetired its end home
    is : chain ≡ record { quaject = came.quaject; left = home.left }

  chain_shut : (list : List (ProcChain AnyQuaject Queues)) (ends : List (ChainEnd AnyQuaject Queues g)) (homes : List Home) (r : HaveRetired list ends homes) (k : ℕ) (chain : closed.Chain)
      → slice_get (chains_of (came_home list ends homes r) homes) k ≡ Some chain → ChainShut list ends homes k chain
  chain_shut [] ends homes r k chain e = absurd (cc)
  chain_shut (x ∷ list) [] homes r k chain e = absurd (cc)
  chain_shut (x ∷ list) (y ∷ ends) [] r k chain e = absurd r
  chain_shut (x ∷ list) (y ∷ ends) (z ∷ homes) r zero chain e = let same : record { quaject = r.0.quaject; left = z.left } ≡ chain = cc in
      record { its = x; end = y; home = z; at = refl; end_at = refl; home_at = refl; came = r.0; is = sym same }
  chain_shut (x ∷ list) (y ∷ ends) (z ∷ homes) r (suc k) chain e = let h = chain_shut list ends homes r.1 k chain e in
      record { its = h.its; end = h.end; home = h.home; at = h.at; end_at = h.end_at; home_at = h.home_at; came = h.came; is = h.is }

  pub chains_long : (list : List (ProcChain AnyQuaject Queues)) (ends : List (ChainEnd AnyQuaject Queues g)) (homes : List Home) (r : HaveRetired list ends homes) → length (chains_of (came_home list ends homes r) homes) ≡ length homes
  chains_long [] [] [] r = refl
  chains_long [] [] (z ∷ homes) r = absurd r
  chains_long [] (y ∷ ends) [] r = absurd r
  chains_long [] (y ∷ ends) (z ∷ homes) r = absurd r
  chains_long (x ∷ list) [] [] r = absurd r
  chains_long (x ∷ list) [] (z ∷ homes) r = absurd r
  chains_long (x ∷ list) (y ∷ ends) [] r = absurd r
  chains_long (x ∷ list) (y ∷ ends) (z ∷ homes) r = ap suc (chains_long list ends homes r.1)

  -- the quaject came home from its chain, if only its notes made it, from a quaject that had done nothing
  chain_ended : (list : List (ProcChain AnyQuaject Queues)) (ends : List (ChainEnd AnyQuaject Queues g)) (homes : List Home) (k : ℕ) (chain : closed.Chain) (c : ChainShut list ends homes k chain)
      → MadeOfNew c.came.quaject → (home : Home) → slice_get homes k ≡ Some home → ChainEnded home chain
  chain_ended list ends homes k chain c new home at = let e = c.home_at in let same : c.home ≡ home = cc in
      subst (λ (z : Home). ChainEnded z chain) same (subst (ChainEnded c.home) (sym c.is) (record { ports = c.came.its.ports; of_new = new; kept = c.came.kept; sides = c.came.sides; none_left = c.came.none_left }))

-- WHAT THE OTHERS' ENDS ARE, AND THAT THEY SHUT NOTHING

-- the devices' ends of the queue with this number
raws_at : (number raw : ℕ) (ttys : List RawTty) → ends_at number (raw_ports raw ttys) ≡ device_at (Small number) raw (map end_of ttys)
raws_at number raw [] = refl
raws_at number raw (tty ∷ ttys) = ap (λ (z : List (QueueEnd 64)). at_one [] raw (end_of tty ∷ []) number ++ z) (raws_at number (raw + 1) ttys)

-- the ends of the queue that came home are those of all homes
homes_at : {n : ℕ} (ports : Home → List (Option (Port n))) (number : ℕ) (homes : List Home) → ends_at number (flat_map ports homes) ≡ flat_map (λ home. ends_at number (ports home)) homes
homes_at ports number [] = refl
homes_at ports number (home ∷ homes) = ends_more number (ports home) (flat_map ports homes) ∙ ap (λ z. ends_at number (ports home) ++ z) (homes_at ports number homes)

unshut_if : {n : ℕ} (b : Bool) (end : QueueEnd n) → shuts_of (view_of end) ≡ 0 → (if b then stake end else no_stake nothing_did).did.shuts ≡ 0
unshut_if true end h = h
unshut_if false end h = refl

raws_unshut : (raw : ℕ) (ttys : List RawTty) → ((k : ℕ) (tty : RawTty) → slice_get ttys k ≡ Some tty → shuts_of (view_of (end_of tty)) ≡ 0) → (q : ℕ) → (port_stakes (raw_ports raw ttys) q).did.shuts ≡ 0
raws_unshut raw [] h q = refl
raws_unshut raw (tty ∷ ttys) h q = λ i. unshut_if (q == raw) (end_of tty) (h 0 tty refl) i + raws_unshut (raw + 1) ttys (λ k. h (suc k)) q i

ports_unshut : {n : ℕ} (ports : Home → List (Option (Port n))) (homes : List Home) (q : ℕ) → All (λ home. (port_stakes (ports home) q).did.shuts ≡ 0) homes → (port_stakes (flat_map ports homes) q).did.shuts ≡ 0
ports_unshut ports [] q all = refl
ports_unshut ports (home ∷ homes) q all = ap (λ (f : ℕ → Stake QueueOps). (f q).did.shuts) (stakes_append (ports home) (flat_map ports homes))
    ∙ (λ i. all 0 home (omega arith) i + ports_unshut ports homes q (λ k d l. all (suc k) d (omega arith)) i)

-- A BOOT THAT WAS SHUT DOWN

-- A boot that was shut down: its objects, the logs of its processors, the first station, the processors' stations, and
-- all of them joined; the raw ttys of the devices and the devices' work; the parts of all ends joined, and the result
-- of closing these parts
pub record Shutdown : Type 0 where
  pub shared : Shared
  pub logs : List (List LogEntry)
  pub first : Parts
  pub stations : List Parts
  pub last : Parts
  pub ttys : List RawTty
  pub devices : List closed.Device
  pub parts : Parts
  pub ended : TornDown

-- The stations were joined, and the first had freed the other elements; no element is on a processor then. The raw ttys
-- of the devices were joined to the last station, and all was closed. The chains were given the quajects of the plan,
-- over ends that had done nothing
pub record IsShutDown (shut : Shutdown) : Type 0 where
  pub worked : WereJoined shut.shared.plan shut.logs shut.first shut.stations shut.last
  pub spare : FreedSpare shut.shared.plan (account shut.first)
  pub free : (p : ℕ) → p < 8 → IsFree p (threads.view_of shut.last.hand)
  pub its : ArePartsOf shut.shared shut.last
  pub all_ttys : length shut.ttys ≡ length shut.shared.plan.ttys
  pub all_devices : length shut.devices ≡ length shut.shared.plan.ttys
  pub ttys_ended : (tty : ℕ) (p : PlannedTty) (raw : RawTty) (d : closed.Device) → slice_get shut.shared.plan.ttys tty ≡ Some p → slice_get shut.ttys tty ≡ Some raw
      → slice_get shut.devices tty ≡ Some d → DeviceEnded p (end_of raw) d
  pub took : TookRaws (length shut.shared.plan.queues) (length shut.shared.plan.movers) shut.ttys shut.last shut.parts
  pub closed : AllClosed shut.shared shut.parts shut.ended
  pub quajects : AreQuajectsOf shut.shared.plan shut.shared.queues (quajects_of shut.shared.chains.items)

-- what such a boot had, and its closed tables
abbrev pub boot_shut : Shutdown → Boot
boot_shut shut = boot_of shut.first shut.stations shut.last (homes_in shut.ended.counts.items) (map end_of shut.ttys)

abbrev pub closed_shut : (shut : Shutdown) → IsShutDown shut → ClosedTables
closed_shut shut is_shut = closed_of shut.shared.plan (boot_shut shut) shut.ended (came_home shut.shared.chains.items shut.parts.chains.items (homes_in shut.ended.counts.items) is_shut.closed.homes) shut.devices

module _ (shut : Shutdown) (s : IsShutDown shut) where
  abbrev plan : BootPlan
  plan = shut.shared.plan

  abbrev homes : List Home
  homes = homes_in shut.ended.counts.items

  abbrev list : List (ProcChain AnyQuaject Queues)
  list = shut.shared.chains.items

  abbrev quajects : List AnyQuaject
  quajects = came_home list shut.parts.chains.items homes s.closed.homes

  abbrev boot : Boot
  boot = boot_shut shut

  abbrev c : ClosedTables
  c = closed_shut shut s

  abbrev did : Account
  did = boot.done.in_all

  -- QUEUES

  -- the ports of the ends that were joined to those of the last station
  abbrev small_others : List (Option (Port 64))
  small_others = raw_ports (length plan.queues) shut.ttys ++ small_ports homes

  small_gained : Gained small_others shut.last.queues.small.items shut.ended.ends.value.small.items
  small_gained = gained_both (raw_ports (length plan.queues) shut.ttys) (small_ports homes) shut.last.queues.small.items shut.parts.queues.small.items shut.ended.ends.value.small.items s.took.small s.closed.small.gained

  large_gained : Gained (large_ports homes) shut.last.queues.large.items shut.ended.ends.value.large.items
  large_gained = subst (λ (z : Parts). Gained (large_ports homes) z.queues.large.items shut.ended.ends.value.large.items) s.took.rest s.closed.large.gained

  tty_shut_none : (k : ℕ) (tty : RawTty) → slice_get shut.ttys k ≡ Some tty → shuts_of (view_of (end_of tty)) ≡ 0
  tty_shut_none k tty at = let l = within shut.ttys k tty at in let a = s.all_ttys in let b = s.all_devices in
      let p = there plan.ttys k (omega arith) in let d = there shut.devices k (omega arith) in (s.ttys_ended k p.0 tty d.0 p.1 at d.1).shut_none

  all_unshut : All ShutNothing homes
  all_unshut = homes_unshut list shut.parts.chains.items homes s.closed.homes (λ k d l. (s.quajects.ready k d l).none_shut)

  small_unshut : (q : ℕ) → (port_stakes small_others q).did.shuts ≡ 0
  small_unshut q = ap (λ (f : ℕ → Stake QueueOps). (f q).did.shuts) (stakes_append (raw_ports (length plan.queues) shut.ttys) (small_ports homes))
      ∙ (λ i. raws_unshut (length plan.queues) shut.ttys tty_shut_none q i + ports_unshut (λ (home : Home). home.small) homes q (λ k d l. (all_unshut k d l q).0) i)

  abbrev Known : (index : QueueIndex) → closed.Queue → Type 0
  Known index q = QueueEnded index boot.done.by_each (others_at plan boot index) q × AllByRecursion (λ log. was_shut log index ≡ true → 0 < (did.queues index).shuts) shut.logs

  known : (index : QueueIndex) (q : closed.Queue) → queue_at c index ≡ Some q → Known index q
  known (Small number) q at =
      let x = shut_at (λ q. queue_of plan boot (Small q)) small_others shut.shared.queues.small.items shut.last.queues.small.items shut.ended.ends.value.small.items shut.ended.small.items number q
      (as_long end_table queue_table shut.last.queues.small.items shut.shared.queues.small.items s.its.queues.small ∙ sym (three_long IsClosed shut.shared.queues.small.items shut.ended.ends.value.small.items shut.ended.small.items s.closed.small.each).0)
      small_gained s.closed.small.each at in
      subst (Known (Small number)) (sym x.is)
      (queue_ended plan shut.logs shut.first shut.stations shut.last s.worked homes (map end_of shut.ttys) (Small number) x.queue x.was x.end x.shut x.its x.closes small_others number x.has
      (ends_more number (raw_ports (length plan.queues) shut.ttys) (small_ports homes) ∙ (λ k. raws_at number (length plan.queues) shut.ttys k ++ homes_at (λ (home : Home). home.small) number homes k)) x.known (small_unshut number))
  known (Large number) q at =
      let x = shut_at (λ q. queue_of plan boot (Large q)) (large_ports homes) shut.shared.queues.large.items shut.last.queues.large.items shut.ended.ends.value.large.items shut.ended.large.items number q
      (as_long end_table queue_table shut.last.queues.large.items shut.shared.queues.large.items s.its.queues.large ∙ sym (three_long IsClosed shut.shared.queues.large.items shut.ended.ends.value.large.items shut.ended.large.items s.closed.large.each).0)
      large_gained s.closed.large.each at in
      subst (Known (Large number)) (sym x.is)
      (queue_ended plan shut.logs shut.first shut.stations shut.last s.worked homes (map end_of shut.ttys) (Large number) x.queue x.was x.end x.shut x.its x.closes (large_ports homes) number x.has
      (homes_at (λ (home : Home). home.large) number homes) x.known (ports_unshut (λ (home : Home). home.large) homes number (λ k d l. (all_unshut k d l number).1)))

  -- THREADS

  threads_closed : tables.ClosedNow (threads.call_of shut.last.hand) (threads.view_of shut.last.hand) shut.ended.threads.places shut.ended.threads.pcs shut.ended.threads.pending shut.ended.threads.stops
  threads_closed = subst (λ (z : Parts). tables.ClosedNow (threads.call_of z.hand) (threads.view_of z.hand) shut.ended.threads.places shut.ended.threads.pcs shut.ended.threads.pending shut.ended.threads.stops) s.took.rest s.closed.threads

  pub threads_ended : ThreadsEnded did c
  threads_ended = record {
    reported = shut.ended.threads;
    signals = shut.ended.signals;
    settles = closed_settles (threads.call_of shut.last.hand) (threads.view_of shut.last.hand) shut.ended.threads.places shut.ended.threads.pcs shut.ended.threads.pending shut.ended.threads.stops threads_closed;
    none_on = none_on (threads.call_of shut.last.hand) (threads.view_of shut.last.hand) shut.ended.threads.places shut.ended.threads.pcs shut.ended.threads.pending shut.ended.threads.stops threads_closed s.free;
    shown = ap shown_in (sym (s.closed.rest.1 ∙ ap (λ (z : Parts). z.signals) s.took.rest));
    few = ∥∥₁_elim plan.within le_prop (λ (h : IsPlan (plan_of plan)). let r = range_long (thread_of shut.ended.threads shut.ended.signals) 0 (length plan.threads) in let f = h.threads in omega arith);
    each = λ thread t at. of_range (thread_of shut.ended.threads shut.ended.signals) 0 (length plan.threads) thread t at
        ∙ ap (thread_of shut.ended.threads shut.ended.signals) (let z : 0 + thread ≡ thread = omega arith in z);
  }

  -- METERS

  meters_closed : seats.ClosedNow (meters.first_of shut.shared.meters) (meters.view_of shut.last.meters) shut.ended.meters.gauges shut.ended.meters.clock shut.ended.meters.alarms.items
  meters_closed = subst (λ (z : Parts). seats.ClosedNow (meters.first_of shut.shared.meters) (meters.view_of z.meters) shut.ended.meters.gauges shut.ended.meters.clock shut.ended.meters.alarms.items) s.took.rest s.closed.meters

  pub meters_ended : MetersEnded did c
  meters_ended = record {
    gauges = λ g value at. let h = taken_at (length plan.gauges) shut.ended.meters.gauges g value at in
        sym (get_or_from_slice_get shut.ended.meters.gauges g value 0 h.1) ∙ meters_closed.all.sums g (∥∥₁_elim plan.within le_prop (λ (p : IsPlan (plan_of plan)). let low = h.0 in let few = p.gauges in omega arith));
    alarms = meters_closed.all.once;
    fired = refl;
  }

  -- PUMPS, SWITCHES AND TTYS

  of_plan : (k : ℕ) (chain : closed.Chain) (d : ChainShut list shut.parts.chains.items homes k chain) → IsOfPlan plan k chain.quaject
  of_plan k chain d = subst (IsOfPlan plan k) (sym (ap (λ (z : closed.Chain). z.quaject) d.is)) (planned_stay plan shut.shared.queues list s.quajects k d.its d.came.quaject d.at d.came.closed.home.0.same_ends)

  of_new : (k : ℕ) (chain : closed.Chain) (d : ChainShut list shut.parts.chains.items homes k chain) → MadeOfNew d.came.quaject
  of_new k chain d = made_new plan shut.shared.queues list s.quajects k d.its d.came.quaject (notes_of (chain_views.queue_of (chains.view_of d.end))) d.at d.came.closed.home.0
      (let e = notes_long d.came.closed in let f = all_got IsFew homes k d.home s.closed.few d.home_at in omega (arith, e))

  shut_chain : (k : ℕ) (chain : closed.Chain) → slice_get (chains_of quajects homes) k ≡ Some chain → ChainShut list shut.parts.chains.items homes k chain
  shut_chain = chain_shut list shut.parts.chains.items homes s.closed.homes

  chains_ended : AllZip ChainEnded homes (c.movers ++ c.ttys)
  chains_ended = subst (AllZip ChainEnded homes) (sym (take-append-drop (length plan.movers) (chains_of quajects homes)))
      (zip_from ChainEnded homes (chains_of quajects homes) (sym (chains_long list shut.parts.chains.items homes s.closed.homes))
      (λ k home chain at at'. let d = shut_chain k chain at' in chain_ended list shut.parts.chains.items homes k chain d (of_new k chain d) home at))

  movers_ended : (k : ℕ) (p : PlannedMover) (m : closed.Chain) → slice_get plan.movers k ≡ Some p → slice_get c.movers k ≡ Some m → MoverEnded k p did m
  movers_ended k p m at at' =
      let h = taken_at (length plan.movers) (chains_of quajects homes) k m at' in let d = shut_chain k m h.1 in record {
        of_plan = subst (λ (z : Option PlannedMover). IsPlanned (length plan.queues) (k - length plan.movers) z m.quaject) at (of_plan k m d);
        ran = ap (λ (z : closed.Chain). quaject_notes z.quaject) d.is
            ∙ (notes_are _ _ (chains.view_of d.end) d.home d.came (let f = all_got IsFew homes k d.home s.closed.few d.home_at in omega arith)
            ∙ ap (λ (x : Stake AtChain). length (concat x.did.notes)) (sym (at_its chain_stake shut.last.chains.items k d.end (no_stake idle_chain) (sym (s.took.before k h.0) ∙ d.end_at))));
      }

  ttys_planned : (tty : ℕ) (t : closed.Chain) → slice_get c.ttys tty ≡ Some t → IsTty (raw_queue (length plan.queues) tty) (line_queue tty) (screen_queue tty) t.quaject
  ttys_planned tty t at =
      let m : ℕ = length plan.movers in
      subst (λ (z : ℕ). IsTty (raw_queue (length plan.queues) z) (line_queue z) (screen_queue z) t.quaject) (let z : m + tty - m ≡ tty = omega arith in z)
      (subst (λ (z : Option PlannedMover). IsPlanned (length plan.queues) (m + tty - m) z t.quaject) (slice_get_past plan.movers (m + tty) (omega arith))
      (of_plan (m + tty) t (shut_chain (m + tty) t (sym (slice_get-drop (chains_of quajects homes) m tty) ∙ at))))

  devices_ended : (tty : ℕ) (p : PlannedTty) (raw : QueueEnd 64) (d : closed.Device) → slice_get plan.ttys tty ≡ Some p → slice_get boot.raws tty ≡ Some raw → slice_get c.devices tty ≡ Some d
      → DeviceEnded p raw d
  devices_ended tty p raw d at at' at'' = let x = mapped_at end_of shut.ttys tty raw at' in subst (λ (z : QueueEnd 64). DeviceEnded p z d) x.2 (s.ttys_ended tty p x.0 d at x.1 at'')

  pub worked : WorkedTogether plan shut.logs boot.done
  worked = worked_together plan shut.logs shut.first shut.stations shut.last s.worked

  pub boot_ended : (heard : List Line) (r : Report) → IsPermutation (flat_map heard_lines shut.stations) heard → Ascend heard → Says plan c heard r → BootEnded plan shut.logs boot c heard r
  boot_ended heard r all up says = record {
    worked = worked;
    spare = s.spare;
    threads = threads_ended;
    queues = λ index q at. (known index q at).0;
    shut_by = λ index q at. (known index q at).1;
    chains = chains_ended;
    movers = movers_ended;
    ttys = ttys_planned;
    all_raws = length-map shut.ttys end_of ∙ s.all_ttys;
    devices = devices_ended;
    meters = meters_ended;
    all_heard = all;
    ascend = up;
    says = says;
  }

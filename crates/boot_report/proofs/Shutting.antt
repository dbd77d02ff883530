-- What was closed when a boot was shut down shows the numbers of its closed tables.
use Rattle.boot_report.proofs.Common.{◌≡◌, ℕ, zero, suc, ◌+◌, ◌*◌, ◌≤◌, List, [], ◌∷◌, ◌++◌, length, take, refl, sym, ap, ◌∙◌, subst, arith, Some, slice_get, flat_map, Report, length-map, length-drop, length-take-le, slice_get_within, BootPlan, IsNamed, program, hear_count, heard_lines, Came, ClosedTables, ThreadsEnded, Says, Typed, Shows, ShowsQueue, ShowsQueues, ShowsChains, ShowsDevices, take-append-drop, thread_of, IsReported, AreAll, ShowsChain, ShowsThread}
use Rattle.boot_data.specs.declared.plan.QueueIndex.{QueueIndex}
use Rattle.boot_data.specs.declared.plan.QueueIndex.TheVariants.{Small, Large}
use Rattle.claim_queue.specs.declared.close.Closed.{Closed as Shut}
use Rattle.claim_queue.specs.Plain.{ClaimQueue}
use Rattle.claim_queue.specs.declared.ends.QueueEnd.{QueueEnd}
use Rattle.claim_queue.specs.Handles.{view_of}
use Rattle.boot_objects.specs.ClosedQueues.{IsClosed, AreClosed}
use Rattle.boot_objects.specs.Retirals.{HasRetired, HaveRetired}
use Rattle.boot_objects.proofs.Drawing.{three_long}
use Rattle.proc_chain.specs.declared.ends.ChainEnd.{ChainEnd}
use Rattle.proc_chain.specs.declared.ends.ProcChain.{ProcChain}
use Rattle.proc_chain.specs.declared.quaject.Quaject.{Ghosts}
use Rattle.turn_io.specs.Accounts.{room_of}
use Rattle.boot_laws.proofs.Settling.Named.{all_named}
use Rattle.quajects.specs.declared.any.AnyQuaject.{AnyQuaject}
use Rattle.quajects.specs.declared.world.Queues.{Queues}
use Rattle.quajects.specs.Homes.{home_in, homes_in}
use Rattle.quajects.specs.Settled.{runs_of}
use Rattle.table_theory.specs.declared.queues.Batch.{Batch}
use Rattle.boot_laws.specs.Boots.{Boot, BootEnded}
use Rattle.boot_laws.specs.ClosedTables as closed
use Rattle.boot_laws.specs.Closings.{items_from, queue_of, queues_from, chains_of}
use Rattle.boot_laws.proofs.Meters.{alarms_agree}
use Rattle.boot_laws.proofs.Boots.ShutDown.{of_range, range_long, came_home, chains_long, Shutdown, IsShutDown, boot_shut, closed_shut, worked, threads_ended, meters_ended, boot_ended}
use Rattle.boot_report.proofs.Fitting.{steps_fit, all_alarms}
use Rattle.boot_report.proofs.Hearings.{few_heard}

items_long : (runs : List Batch) (p n : ℕ) → length (items_from runs p n) ≡ n
items_long runs p zero = refl
items_long runs p (suc n) = ap suc (items_long runs (suc p) n)

-- QUEUES

counted : (plan : BootPlan) (boot : Boot) (index : QueueIndex) (e : QueueEnd (room_of index)) (s : Shut (room_of index)) (queue : ClaimQueue (room_of index)) → IsClosed queue e s → ShowsQueue (queue_of plan boot index e s) s
counted plan boot index e s queue is = let long = items_long (runs_of (view_of e)) s.first s.put in let put = is.put_is in let following = is.settled.taken_within in
    record { put = sym long; taken = refl; taken_within = omega arith; left = is.left_number }

module _ {n : ℕ} (make : ℕ → QueueEnd n → Shut n → closed.Queue) (counts : (number : ℕ) (e : QueueEnd n) (s : Shut n) (queue : ClaimQueue n) → IsClosed queue e s → ShowsQueue (make number e s) s) where
  many_queues : (number : ℕ) (queues : List (ClaimQueue n)) (lasts : List (QueueEnd n)) (shuts : List (Shut n)) → AreClosed queues lasts shuts → length (queues_from make number lasts shuts) ≡ length shuts
  many_queues number [] [] [] all = refl
  many_queues number [] [] (s ∷ shuts) all = absurd all
  many_queues number [] (e ∷ lasts) [] all = absurd all
  many_queues number [] (e ∷ lasts) (s ∷ shuts) all = absurd all
  many_queues number (q ∷ queues) [] [] all = absurd all
  many_queues number (q ∷ queues) [] (s ∷ shuts) all = absurd all
  many_queues number (q ∷ queues) (e ∷ lasts) [] all = absurd all
  many_queues number (q ∷ queues) (e ∷ lasts) (s ∷ shuts) all = ap suc (many_queues (number + 1) queues lasts shuts all.1)

  each_queue : (number : ℕ) (queues : List (ClaimQueue n)) (lasts : List (QueueEnd n)) (shuts : List (Shut n)) → AreClosed queues lasts shuts
      → (k : ℕ) (x : closed.Queue) (its : Shut n) → slice_get (queues_from make number lasts shuts) k ≡ Some x → slice_get shuts k ≡ Some its → ShowsQueue x its
  each_queue number queues [] shuts all k x its here there = absurd (cc)
  each_queue number queues (e ∷ lasts) [] all k x its here there = absurd (cc)
  each_queue number [] (e ∷ lasts) (s ∷ shuts) all k x its here there = absurd all
  each_queue number (q ∷ queues) (e ∷ lasts) (s ∷ shuts) all zero x its here there =
      let same : make number e s ≡ x = cc in let same' : s ≡ its = cc in
      subst (λ (z : closed.Queue). ShowsQueue z its) same (subst (λ (z : Shut n). ShowsQueue (make number e s) z) same' (counts number e s q all.0))
  each_queue number (q ∷ queues) (e ∷ lasts) (s ∷ shuts) all (suc k) x its here there = each_queue (number + 1) queues lasts shuts all.1 k x its here there

  queues_show : (queues : List (ClaimQueue n)) (lasts : List (QueueEnd n)) (shuts : List (Shut n)) → AreClosed queues lasts shuts → ShowsQueues (queues_from make 0 lasts shuts) shuts
  queues_show queues lasts shuts all = record { as_many = sym (many_queues 0 queues lasts shuts all); each = each_queue 0 queues lasts shuts all }

-- CHAINS

module _ {g : Ghosts AnyQuaject Queues} where
  came_shows : (chain : ProcChain AnyQuaject Queues) (end : ChainEnd AnyQuaject Queues g) (came : Came) (r : HasRetired chain end (home_in came))
      → ShowsChain (record { quaject = r.quaject; left = (home_in came).left }) came
  came_shows chain end came r = let none = r.none_left in
      record { notes = came.notes_is ∙ r.its.notes; taken = came.taken_is ∙ r.its.taken; put = came.put_is ∙ r.its.put; held = came.held_is ∙ r.its.held; left = came.left_is; few = omega arith }

  each_chain : (chains : List (ProcChain AnyQuaject Queues)) (ends : List (ChainEnd AnyQuaject Queues g)) (all : List Came) (r : HaveRetired chains ends (homes_in all))
      → (k : ℕ) (x : closed.Chain) (its : Came) → slice_get (chains_of (came_home chains ends (homes_in all) r) (homes_in all)) k ≡ Some x → slice_get all k ≡ Some its → ShowsChain x its
  each_chain [] ends all r k x its here there = absurd (cc)
  each_chain (c ∷ chains) [] all r k x its here there = absurd (cc)
  each_chain (c ∷ chains) (e ∷ ends) [] r k x its here there = absurd (cc)
  each_chain (c ∷ chains) (e ∷ ends) (a ∷ all) r zero x its here there =
      let same : record { quaject = r.0.quaject; left = (home_in a).left } ≡ x = cc in let same' : a ≡ its = cc in
      subst (λ (z : closed.Chain). ShowsChain z its) same (subst (λ (z : Came). ShowsChain (record { quaject = r.0.quaject; left = (home_in a).left }) z) same' (came_shows c e a r.0))
  each_chain (c ∷ chains) (e ∷ ends) (a ∷ all) r (suc k) x its here there = each_chain chains ends all r.1 k x its here there

  chains_show : (chains : List (ProcChain AnyQuaject Queues)) (ends : List (ChainEnd AnyQuaject Queues g)) (all : List Came) (r : HaveRetired chains ends (homes_in all))
      → ShowsChains (chains_of (came_home chains ends (homes_in all) r) (homes_in all)) all
  chains_show chains ends all r = record { as_many = sym (chains_long chains ends (homes_in all) r ∙ length-map all home_in); each = each_chain chains ends all r }

-- ALL

module _ (shut : Shutdown) (is_shut : IsShutDown shut) where
  abbrev plan : BootPlan
  plan = shut.shared.plan

  abbrev tables : ClosedTables
  tables = closed_shut shut is_shut

  abbrev numbers : List Came
  numbers = shut.ended.counts.items

  abbrev all_chains : List closed.Chain
  all_chains = chains_of (came_home shut.shared.chains.items shut.parts.chains.items (homes_in numbers) is_shut.closed.homes) (homes_in numbers)

  plan_is : shut.ended.plan ≡ plan
  plan_is = is_shut.closed.rest.2

  -- what is so of the shared plan is so of that which closing gave back
  by_plan : (P : BootPlan → Type 0) → P plan → P shut.ended.plan
  by_plan P h = subst P (sym plan_is) h

  chain_count : length all_chains ≡ length plan.movers + length plan.ttys
  chain_count = let many = chains_long shut.shared.chains.items shut.parts.chains.items (homes_in numbers) is_shut.closed.homes in
      let t = (three_long HasRetired shut.shared.chains.items shut.parts.chains.items (homes_in numbers) is_shut.closed.homes).1 in let o = shut.shared.objects.2 in omega arith

  abbrev small_queue : ℕ → QueueEnd 64 → Shut 64 → closed.Queue
  small_queue q = queue_of plan (boot_shut shut) (Small q)

  abbrev large_queue : ℕ → QueueEnd 256 → Shut 256 → closed.Queue
  large_queue q = queue_of plan (boot_shut shut) (Large q)

  small_count : length tables.small ≡ length plan.queues + length plan.ttys
  small_count = many_queues small_queue (λ q. counted plan (boot_shut shut) (Small q)) 0 shut.shared.queues.small.items shut.ended.ends.value.small.items shut.ended.small.items is_shut.closed.small.each
      ∙ ((three_long IsClosed shut.shared.queues.small.items shut.ended.ends.value.small.items shut.ended.small.items is_shut.closed.small.each).1 ∙ shut.shared.objects.0)

  large_count : length tables.large ≡ length plan.ttys * 2
  large_count = many_queues large_queue (λ q. counted plan (boot_shut shut) (Large q)) 0 shut.shared.queues.large.items shut.ended.ends.value.large.items shut.ended.large.items is_shut.closed.large.each
      ∙ ((three_long IsClosed shut.shared.queues.large.items shut.ended.ends.value.large.items shut.ended.large.items is_shut.closed.large.each).1 ∙ shut.shared.objects.1)

  all_there : AreAll shut.ended tables
  all_there = record {
    small = by_plan (λ p. length tables.small ≡ length p.queues + length p.ttys) small_count;
    large = by_plan (λ p. length tables.large ≡ length p.ttys * 2) large_count;
    movers = by_plan (λ p. length tables.movers ≡ length p.movers) (length-take-le (length plan.movers) all_chains (let n = chain_count in omega arith));
    ttys = by_plan (λ p. length tables.ttys ≡ length p.ttys) (let d = length-drop (length plan.movers) all_chains in let n = chain_count in omega arith);
    devices = by_plan (λ p. length shut.devices ≡ length p.ttys) is_shut.all_devices;
    threads = by_plan (λ p. length tables.threads ≡ length p.threads) (range_long (thread_of shut.ended.threads shut.ended.signals) 0 (length plan.threads));
  }

  chains_shown : ShowsChains (tables.movers ++ tables.ttys) numbers
  chains_shown = subst (λ (z : List closed.Chain). ShowsChains z numbers) (sym (take-append-drop (length plan.movers) all_chains))
      (chains_show shut.shared.chains.items shut.parts.chains.items numbers is_shut.closed.homes)

  ended_threads : ThreadsEnded (boot_shut shut).done.in_all tables
  ended_threads = threads_ended shut is_shut

  pub heard_is_few : length (flat_map heard_lines shut.stations) ≤ hear_count plan
  heard_is_few = few_heard plan shut.logs (boot_shut shut).done (worked shut is_shut) tables ended_threads

  threads_shown : (thread : ℕ) (t : closed.Thread) → slice_get tables.threads thread ≡ Some t → ShowsThread shut.ended thread t
  threads_shown thread t at =
      let is : t ≡ thread_of shut.ended.threads shut.ended.signals thread = of_range (thread_of shut.ended.threads shut.ended.signals) 0 (length plan.threads) thread t at
      ∙ ap (thread_of shut.ended.threads shut.ended.signals) (let z : 0 + thread ≡ thread = omega arith in z) in record {
        place = ap (λ (z : closed.Thread). z.place) is;
        named = subst IsNamed (sym (ap (λ (z : closed.Thread). z.place) is))
            (all_named _ _ _ _ _ _ is_shut.closed.threads thread (let low = slice_get_within tables.threads thread t at in let few = ended_threads.few in omega arith));
        steps = ap (λ (z : closed.Thread). z.steps) is;
        prefix = by_plan (λ p. t.steps ≤ length (program p thread)) (steps_fit plan shut.logs (boot_shut shut).done tables thread t (worked shut is_shut) ended_threads at);
        shown = ap (λ (z : closed.Thread). z.shown) is;
      }

  pub shown : (typed : List Typed) → ShowsDevices shut.devices typed → Shows tables shut.ended typed
  shown typed did = record {
    all = all_there;
    small = queues_show small_queue (λ q. counted plan (boot_shut shut) (Small q)) shut.shared.queues.small.items shut.ended.ends.value.small.items shut.ended.small.items is_shut.closed.small.each;
    large = queues_show large_queue (λ q. counted plan (boot_shut shut) (Large q)) shut.shared.queues.large.items shut.ended.ends.value.large.items shut.ended.large.items is_shut.closed.large.each;
    chains = chains_shown;
    threads = threads_shown;
    devices = did;
    gauges = by_plan (λ p. tables.gauges ≡ take (length p.gauges) shut.ended.meters.gauges) refl;
    left = refl;
    alarms = by_plan (λ p. length p.alarms ≡ length tables.fired + length tables.left)
        (all_alarms plan tables shut.logs (alarms_agree plan shut.logs (boot_shut shut).done (worked shut is_shut) tables (meters_ended shut is_shut)));
  }

  pub ends : (typed : List Typed) (r : Report) → ShowsDevices shut.devices typed → (reported : IsReported shut.ended (flat_map heard_lines shut.stations) typed r)
      → BootEnded plan shut.logs (boot_shut shut) tables reported.heard r
  ends typed r did reported = boot_ended shut is_shut reported.heard r reported.all_heard reported.ascend
      (subst (λ (p : BootPlan). Says p tables reported.heard r) plan_is (reported.says tables (shown typed did)))

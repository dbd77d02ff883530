-- A closed queue was ended: its last end has what the stations' ends, the devices' and the quajects' had.
use Rattle.boot_laws.proofs.Common.{Home, take, ◌<◌, Bool, if◌then◌else◌, AllByRecursion, Batch, AtQueue, Parts, account, LogEntry, was_shut, ◌≡◌, ◌≤◌, ℕ, zero, suc, ◌+◌, true, false, List, [], ◌∷◌, ◌++◌, map, length, refl, sym, ap, ◌∙◌, subst, arith, Option, Some, flat_map, length-map, BootPlan, QueueIndex, QueueEnd, ClosedNow, IsClosed, Gained, Stake, both_stakes, stake, room_of, no_stake, end_knows_shut, there, Port, runs_of, takings_of, item_of, Boot, others_at, items_from, queue_of, QueueEnded, ends_at, slice_get, QueueOps, did_both, nothing_did, view_of, AreClosed, queues_from, port_stakes, joined, IsListed}
use Rattle.std.proofs.lemmas.Option.{slice_get_within as within}
use Rattle.claim_queue.specs.declared.close.Closed.{Closed as Shut}
use Rattle.claim_queue.specs.Plain.{ClaimQueue}
use Rattle.claim_queue.proofs.Certain.{seen_room}
use Rattle.boot_laws.specs.ClosedTables as closed
use Rattle.boot_laws.proofs.Joined.{at_its}
use Rattle.boot_laws.proofs.Queues.Items.{items_are}
use Rattle.boot_laws.proofs.Queues.Stakes.{ports_list}
use Rattle.boot_laws.proofs.Queues.Takings.{of_ends}
use Rattle.boot_laws.proofs.Joined.{joined_lists, WereJoined, done_by}
use Rattle.boot_laws.proofs.Queues.Dids.{end_at, did_at, did_joined, lines_are, its_did, none_first, runs_up, takes_up}
use Rattle.boot_laws.proofs.Queues.Stations.{of_each, all_in_order, lines_all, all_of_them, all_told, its_knowing}

-- WHAT AN END GAINED

module _ {n : ℕ} where
  -- what closed the queue at a place, by an end that gained what the others had
  pub record ShutAt (make : ℕ → QueueEnd n → Shut n → closed.Queue) (olds : List (QueueEnd n)) (gained : Stake QueueOps) (k : ℕ) (q : closed.Queue) : Type 0 where
    pub queue : ClaimQueue n
    pub was : QueueEnd n
    pub end : QueueEnd n
    pub shut : Shut n
    pub its : slice_get olds k ≡ Some was
    pub closes : IsClosed queue end shut
    pub is : q ≡ make k end shut
    pub has : stake end ≡ both_stakes did_both (stake was) gained
    pub known : end_knows_shut was ≡ true → end_knows_shut end ≡ true

  module _ (make : ℕ → QueueEnd n → Shut n → closed.Queue) where
    record Placed (from k : ℕ) (lasts : List (QueueEnd n)) (q : closed.Queue) : Type 0 where
      queue : ClaimQueue n
      end : QueueEnd n
      shut : Shut n
      its : slice_get lasts k ≡ Some end
      closes : IsClosed queue end shut
      is : q ≡ make (from + k) end shut

    placed : (from : ℕ) (queues : List (ClaimQueue n)) (lasts : List (QueueEnd n)) (shuts : List (Shut n)) (k : ℕ) (q : closed.Queue) → AreClosed queues lasts shuts
        → slice_get (queues_from make from lasts shuts) k ≡ Some q → Placed from k lasts q
    placed from queues [] shuts k q a e = absurd (cc)
    placed from queues (y ∷ lasts) [] k q a e = absurd (cc)
    placed from [] (y ∷ lasts) (z ∷ shuts) k q a e = absurd a
    placed from (x ∷ queues) (y ∷ lasts) (z ∷ shuts) zero q a e = let same : make from y z ≡ q = cc in record {
      queue = x;
      end = y;
      shut = z;
      its = refl;
      closes = a.0;
      is = sym same ∙ ap (λ (m : ℕ). make m y z) (let m : from ≡ from + 0 = omega arith in m);
    }
    placed from (x ∷ queues) (y ∷ lasts) (z ∷ shuts) (suc k) q a e = let h = placed (from + 1) queues lasts shuts k q a.1 e in record {
      queue = h.queue;
      end = h.end;
      shut = h.shut;
      its = h.its;
      closes = h.closes;
      is = h.is ∙ ap (λ (m : ℕ). make m h.end h.shut) (let m : from + 1 + k ≡ from + suc k = omega arith in m);
    }

    pub shut_at : (ports : List (Option (Port n))) (queues : List (ClaimQueue n)) (olds lasts : List (QueueEnd n)) (shuts : List (Shut n)) (k : ℕ) (q : closed.Queue)
        → length olds ≡ length lasts → Gained ports olds lasts → AreClosed queues lasts shuts → slice_get (queues_from make 0 lasts shuts) k ≡ Some q → ShutAt make olds (port_stakes ports k) k q
    shut_at ports queues olds lasts shuts k q long g a at =
        let s = placed 0 queues lasts shuts k q a at in
        let was = there olds k (let low = within lasts k s.end s.its in omega arith) in record {
          queue = s.queue;
          was = was.0;
          end = s.end;
          shut = s.shut;
          its = was.1;
          closes = s.closes;
          is = s.is ∙ ap (λ (m : ℕ). make m s.end s.shut) (let m : 0 + k ≡ k = omega arith in m);
          has = sym (at_its stake lasts k s.end (no_stake nothing_did) s.its) ∙ (ap (λ (f : ℕ → Stake QueueOps). f k) g.stakes_are ∙ ap (λ (z : Stake QueueOps). both_stakes did_both z (port_stakes ports k)) (at_its stake olds k was.0 (no_stake nothing_did) was.1));
          known = λ shut. sym (at_its end_knows_shut lasts k s.end false s.its) ∙ g.known k (at_its end_knows_shut olds k was.0 false was.1 ∙ shut);
        }

  -- no more is left than there are places
  few_left : (end : QueueEnd n) (shut : Shut n) (c : ClosedNow (view_of end) shut.first shut.put shut.taken shut.left.items) → length (items_from (view_of end).own.runs shut.first shut.put) ≤ shut.taken + n
  few_left end shut c =
      let items = ap length (items_are (view_of end) shut.first shut.put shut.taken shut.left.items c) ∙ length-map (view_of end).seen.object.places item_of in
      let room = seen_room end in let put = c.puts in let within = c.within in omega arith

-- the boot of these stations, with what came home and the ends that devices had
abbrev pub boot_of : Parts → List Parts → Parts → List Home → List (QueueEnd 64) → Boot
boot_of first stations last homes raws = record { done = done_by first stations last; homes = homes; raws = raws }

-- a queue that is closed by an end which has what the last station's end had, and what the others had
module _ (plan : BootPlan) (logs : List (List LogEntry)) (first : Parts) (stations : List Parts) (last : Parts) (w : WereJoined plan logs first stations last) (homes : List Home)
    (raws : List (QueueEnd 64)) (index : QueueIndex) (queue : ClaimQueue (room_of index)) (was end : QueueEnd (room_of index)) (shut : Shut (room_of index)) (its : end_at index last ≡ Some was)
    (closes : IsClosed queue end shut) (ports : List (Option (Port (room_of index)))) (number : ℕ) (has : stake end ≡ both_stakes did_both (stake was) (port_stakes ports number))
    (same : ends_at number ports ≡ others_at plan (boot_of first stations last homes raws) index) where
  abbrev boot : Boot
  boot = boot_of first stations last homes raws

  abbrev others : List (QueueEnd (room_of index))
  others = others_at plan boot index

  runs : (view_of end).own.runs ≡ joined (of_each index (λ d. d.runs) stations) ++ flat_map runs_of (map view_of others)
  runs = all_of_them index (λ d. d.runs) stations last was (flat_map runs_of (map view_of others)) (view_of end).own.runs its (ap (λ (s : Stake QueueOps). s.did.runs) has ∙ ap (λ z. (view_of was).own.runs ++ z) (ports_list (λ d. d.runs) refl (λ a b. refl) ports number ∙ ap (of_ends runs_of) same))
      (joined_lists (λ s. (did_at index s).runs) (λ a b c j. ap (λ (d : QueueOps). d.runs) (did_joined index a b c j)) first stations last w.joined
      ∙ ap (λ z. z ++ flat_map (λ s. (did_at index s).runs) stations) (none_first index plan first w.prepared).0)

  takes : (view_of end).own.takes ≡ joined (of_each index (λ d. d.takes) stations) ++ flat_map takings_of (map view_of others)
  takes = all_of_them index (λ d. d.takes) stations last was (flat_map takings_of (map view_of others)) (view_of end).own.takes its (ap (λ (s : Stake QueueOps). s.did.takes) has ∙ ap (λ z. (view_of was).own.takes ++ z) (ports_list (λ d. d.takes) refl (λ a b. refl) ports number ∙ ap (of_ends takings_of) same))
      (joined_lists (λ s. (did_at index s).takes) (λ a b c j. ap (λ (d : QueueOps). d.takes) (did_joined index a b c j)) first stations last w.joined
      ∙ ap (λ z. z ++ flat_map (λ s. (did_at index s).takes) stations) (none_first index plan first w.prepared).1)

  ended : QueueEnded index (map account stations) others (queue_of plan boot index end shut)
  ended =
      let v = view_of end in let c = closes.now in let items = items_are v shut.first shut.put shut.taken shut.left.items c in record {
        first = v.seen.object.first;
        places = v.seen.object.places;
        items = items;
        taken_within = subst (λ (z : List ℕ). shut.taken ≤ length z) (sym items) c.settled.taken_within;
        within = few_left end shut c;
        claims = record {
          own = of_each index (λ d. d.runs) stations;
          lines = lines_all index (λ d. d.runs) (λ a. a.put) (λ d. refl) stations;
          ascend = all_in_order index (λ d. d.runs) plan (λ log s l. runs_up index s l.queues) logs stations w.left;
          order = c.listed.runs;
          listed = subst (λ (z : List Batch). IsListed v.seen.object.first v.seen.object.places c.listed.runs (z ∷ [])) runs c.listed.runs_are;
        };
        takings = record {
          own = of_each index (λ d. d.takes) stations;
          lines = lines_all index (λ d. d.takes) (λ a. a.taken) (λ d. refl) stations;
          ascend = all_in_order index (λ d. d.takes) plan (λ log s l. takes_up index s l.queues) logs stations w.left;
          order = c.listed.takes;
          listed = subst (λ (n : ℕ). IsListed v.seen.object.first (take n v.seen.object.places) c.listed.takes ((joined (of_each index (λ d. d.takes) stations) ++ flat_map takings_of (map view_of others)) ∷ [])) (sym c.taken_is)
              (subst (λ (z : List Batch). IsListed v.seen.object.first (take v.seen.object.taken v.seen.object.places) c.listed.takes (z ∷ [])) takes c.listed.takes_are);
        };
        put_by = refl;
        taken_by = refl;
        put_by_others = refl;
        taken_by_others = refl;
      }

  -- the queue was ended, and if a log reports that it is shut, a processor shut it
  pub queue_ended : (end_knows_shut was ≡ true → end_knows_shut end ≡ true) → (port_stakes ports number).did.shuts ≡ 0
      → QueueEnded index (map account stations) others (queue_of plan boot index end shut) × AllByRecursion (λ log. was_shut log index ≡ true → 0 < ((account last).queues index).shuts) logs
  queue_ended known none = (
    ended,
    all_told index plan (0 < ((account last).queues index).shuts) logs first stations last w.left w.joined (λ knows.
        let one : (view_of end).own.shuts ≡ 1 = closes.now.shut_once ∙ ap (λ (b : Bool). if b then 1 else 0) (known (sym (its_knowing index last was its) ∙ knows)) in
        let all : (view_of end).own.shuts ≡ (view_of was).own.shuts + (port_stakes ports number).did.shuts = ap (λ (s : Stake QueueOps). s.did.shuts) has in
        let own : ((account last).queues index).shuts ≡ (view_of was).own.shuts = ap (λ (a : AtQueue). a.shuts) (lines_are index last) ∙ ap (λ (d : QueueOps). d.shuts) (its_did index last was its) in
        omega arith),
  )

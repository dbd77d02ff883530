-- What a boot knows at its end makes its report agree.
use Rattle.boot_laws.proofs.Common.{zero, ◌+◌, Account, ChainEnded, ◌≡◌, ℕ, suc, ◌≤◌, List, [], ◌∷◌, ◌++◌, length, refl, sym, ap, ◌∙◌, subst, arith, append-nil, Some, flat_map, sum_by, IsPermutation, le_prop, ∥∥₁_elim, AllZip, AllByRecursion, concat, sum_by-cons, BootPlan, PlannedMover, PlannedTty, QueueIndex, Small, Large, Report, plan_of, IsPlan, IsMoverOf, many_of, raw_queue, QueueEnd, lines_put, lines_taken, DeviceEnded, AnyQuaject, Home, runs_of, LogEntry, Line, there, all_at, taken_from, put_in, IsTty, Boot, BootEnded, others_at, ClosedTables, queue_at, home_at, device_at, IsReport, total_of, slice_get, view_of, AreWithout, TtyAgrees, TablesAgree, IsNoRaw}
use Rattle.std.proofs.lemmas.Option.{slice_get_within as within}
use Rattle.quajects.specs.declared.any.AnyQuaject.TheVariants as any
use Rattle.boot_laws.specs.ClosedTables as closed
use Rattle.boot_laws.proofs.Queues.Chains.{mover_agrees}
use Rattle.boot_laws.proofs.Meters.{gauges_agree, alarms_agree}
use Rattle.boot_laws.proofs.Threads.{thread_agrees}
use Rattle.boot_laws.proofs.Queues.Raws.{none_claimed, stays_below, its_device}
use Rattle.boot_laws.proofs.Queues.Shutting.{never_shut}
use Rattle.boot_laws.proofs.Queues.Weaving.{queue_agrees, alone}
use Rattle.boot_laws.proofs.Boots.Sorting.{sorted}
use Rattle.boot_laws.proofs.Queues.Takings.{IsBelow, of_ends, of_more, homes_took, homes_put, no_device, devices_none, homes_put_none}
use Rattle.boot_laws.proofs.Totals.{all_did}

-- LISTS BESIDE LISTS

zip_back : {A B : Type 0} (R : A → B → Type 0) (xs : List A) (ys : List B) (k : ℕ) (y : B) → AllZip R xs ys → slice_get ys k ≡ Some y → (x : A) × R x y
zip_back R [] [] k y z at = absurd (cc)
zip_back R [] (v ∷ ys) k y z at = absurd z
zip_back R (u ∷ xs) [] k y z at = absurd z
zip_back R (u ∷ xs) (v ∷ ys) zero y z at = let same : v ≡ y = cc in (u, subst (R u) same z.0)
zip_back R (u ∷ xs) (v ∷ ys) (suc k) y z at = zip_back R xs ys k y z.1 at

all_here : {A : Type 0} (P : A → Type 0) (xs : List A) → ((k : ℕ) (x : A) → slice_get xs k ≡ Some x → P x) → AllByRecursion P xs
all_here P [] h = tt
all_here P (x ∷ xs) h = (h 0 x refl, all_here P xs (λ k. h (suc k)))

empty : {A : Type 0} (l : List A) → length l ≤ 0 → l ≡ []
empty [] h = refl
empty (x ∷ l) h = absurd (omega arith)

abbrev pub left_of : closed.Chain → ℕ
left_of chain = chain.left

abbrev NoneLeft : closed.Chain → Type 0
NoneLeft chain = chain.left ≡ 0

no_sum : (chains : List closed.Chain) → AllByRecursion NoneLeft chains → sum_by left_of chains ≡ 0
no_sum [] h = refl
no_sum (c ∷ chains) h = sum_by-cons left_of c chains ∙ (let a = h.0 in let b = no_sum chains h.1 in omega arith)

at_first : {A : Type 0} (xs ys : List A) (k : ℕ) (x : A) → slice_get xs k ≡ Some x → slice_get (xs ++ ys) k ≡ Some x
at_first [] ys k x at = absurd (cc)
at_first (y ∷ xs) ys zero x at = at
at_first (y ∷ xs) ys (suc k) x at = at_first xs ys k x at

at_second : {A : Type 0} (xs ys : List A) (k : ℕ) (x : A) → slice_get ys k ≡ Some x → slice_get (xs ++ ys) (length xs + k) ≡ Some x
at_second [] ys k x at = ap (slice_get ys) (let z : 0 + k ≡ k = omega arith in z) ∙ at
at_second (y ∷ xs) ys k x at = ap (slice_get (y ∷ xs ++ ys)) (let z : suc (length xs) + k ≡ suc (length xs + k) = omega arith in z) ∙ at_second xs ys k x at

-- an entry of two lists is one of the first, or one of the second
at_either : {A P : Type 0} (xs ys : List A) (k : ℕ) (x : A) → slice_get (xs ++ ys) k ≡ Some x → (slice_get xs k ≡ Some x → P) → ((j : ℕ) → slice_get ys j ≡ Some x → P) → P
at_either [] ys k x at f g = g k at
at_either (y ∷ xs) ys zero x at f g = f at
at_either (y ∷ xs) ys (suc k) x at f g = at_either xs ys k x at f g

tty_below : (many raw line screen : ℕ) (quaject : AnyQuaject) → IsTty raw line screen quaject → IsBelow many quaject
tty_below many raw line screen (any.Cooked tty) h = tt
tty_below many raw line screen (any.Pump pump) h = absurd h
tty_below many raw line screen (any.Switch switch) h = absurd h

module _ (plan : BootPlan) (logs : List (List LogEntry)) (boot : Boot) (c : ClosedTables) (heard : List Line) (r : Report) (b : BootEnded plan logs boot c heard r) where
  device_there : (tty : ℕ) (raw : QueueEnd 64) → slice_get boot.raws tty ≡ Some raw → (p : PlannedTty) × (d : closed.Device) × DeviceEnded p raw d
  device_there tty raw at = let w = within boot.raws tty raw at in let x = b.all_raws in let y = b.says.whole.all_ttys.1 in
      let p = there plan.ttys tty (omega arith) in let d = there c.devices tty (omega arith) in (p.0, d.0, b.devices tty p.0 raw d.0 p.1 at d.1)

  came_there : (k : ℕ) (chain : closed.Chain) → slice_get (c.movers ++ c.ttys) k ≡ Some chain → (home : Home) × ChainEnded home chain
  came_there k chain at = zip_back ChainEnded boot.homes (c.movers ++ c.ttys) k chain b.chains at

  taken : (index : QueueIndex) (q : closed.Queue) → queue_at c index ≡ Some q → q.taken_by_others ≡ flat_map (taken_from index) (c.movers ++ c.ttys)
  taken index q at =
      (b.queues index q at).taken_by_others
      ∙ (of_more lines_taken (device_at index (length plan.queues) boot.raws) (flat_map (home_at index) boot.homes)
      ∙ (λ k. devices_none lines_taken index (length plan.queues) boot.raws (all_here (λ (end : QueueEnd 64). lines_taken (view_of end) ≡ []) boot.raws (λ k raw at. (device_there k raw at).2.took_none)) k
      ++ homes_took index boot.homes (c.movers ++ c.ttys) b.chains k))

  no_devices : (index : QueueIndex) → IsNoRaw plan index → of_ends lines_put (device_at index (length plan.queues) boot.raws) ≡ []
  no_devices (Small q) low = no_device lines_put q (length plan.queues) boot.raws low
  no_devices (Large q) low = refl

  put : (index : QueueIndex) (q : closed.Queue) → IsNoRaw plan index → queue_at c index ≡ Some q → q.put_by_others ≡ flat_map (put_in index) (c.movers ++ c.ttys)
  put index q low at =
      (b.queues index q at).put_by_others
      ∙ (of_more lines_put (device_at index (length plan.queues) boot.raws) (flat_map (home_at index) boot.homes)
      ∙ (λ k. no_devices index low k ++ homes_put index boot.homes (c.movers ++ c.ttys) b.chains k))

  -- RAW QUEUES

  put_none : (number : ℕ) → length plan.queues ≤ number → of_ends runs_of (flat_map (home_at (Small number)) boot.homes) ≡ []
  put_none number far = empty (of_ends runs_of (flat_map (home_at (Small number)) boot.homes)) (∥∥₁_elim plan.within le_prop by)
    where
      below : IsPlan (plan_of plan) → (k : ℕ) (chain : closed.Chain) → slice_get (c.movers ++ c.ttys) k ≡ Some chain → IsBelow (length plan.queues) chain.quaject
      below h k chain at = at_either c.movers c.ttys k chain at
          (λ its. let w = within c.movers k chain its in let y = b.says.whole.all_movers in let p = there plan.movers k (omega arith) in
          stays_below (plan_of plan) p.0.mover chain.quaject (b.movers k p.0 chain p.1 its).of_plan (all_at (λ (planned : PlannedMover). IsMoverOf (many_of (plan_of plan)) planned.mover) plan.movers k p.0 h.moved p.1))
          (λ j its. tty_below (length plan.queues) _ _ _ chain.quaject (b.ttys j chain its))

      by : IsPlan (plan_of plan) → length (of_ends runs_of (flat_map (home_at (Small number)) boot.homes)) ≤ 0
      by h = let none = ap length (homes_put_none number (length plan.queues) boot.homes (c.movers ++ c.ttys) b.chains far (all_here (λ (chain : closed.Chain). IsBelow (length plan.queues) chain.quaject) (c.movers ++ c.ttys) (below h))) in omega arith

  raw_items : (tty : ℕ) (p : PlannedTty) (end : QueueEnd 64) (d : closed.Device) (raw : closed.Queue) → slice_get boot.raws tty ≡ Some end → DeviceEnded p end d
      → queue_at c (Small (raw_queue (length plan.queues) tty)) ≡ Some raw → raw.items ≡ concat (lines_put (view_of end))
  raw_items tty p end d raw at e at' =
      let number : ℕ = raw_queue (length plan.queues) tty in
      let q = b.queues (Small number) raw at' in
      let far : length plan.queues ≤ number = omega arith in
      let said = (queue_agrees plan logs boot.done b.worked (Small number) (others_at plan boot (Small number)) raw q).said in
      let others : of_ends runs_of (others_at plan boot (Small number)) ≡ runs_of (view_of end) =
      of_more runs_of (device_at (Small number) (length plan.queues) boot.raws) (flat_map (home_at (Small number)) boot.homes)
      ∙ ((λ k. its_device number (length plan.queues) tty boot.raws end refl at k ++ put_none number far k) ∙ append-nil (runs_of (view_of end))) in
      q.items ∙ alone q.first q.places raw.put_by (of_ends runs_of (others_at plan boot (Small number))) q.claims (none_claimed plan number far q.claims.own logs b.worked.planned (q.claims.lines ∙ said)) (runs_of (view_of end)) others e.ascends

  tty_agrees : (tty : ℕ) (p : PlannedTty) (t : closed.Chain) (d : closed.Device) (raw : closed.Queue) → slice_get plan.ttys tty ≡ Some p → slice_get c.ttys tty ≡ Some t
      → slice_get c.devices tty ≡ Some d → queue_at c (Small (raw_queue (length plan.queues) tty)) ≡ Some raw → TtyAgrees (length plan.queues) tty p t d raw
  tty_agrees tty p t d raw at at' at'' is =
      let w = within plan.ttys tty p at in let y = b.all_raws in let end = there boot.raws tty (omega arith) in
      let came = (came_there (length c.movers + tty) t (at_second c.movers c.ttys tty t at')).1 in let f = b.devices tty p end.0 d at end.1 at'' in record {
        typed = f.popped;
        bytes = subst (AreWithout d.popped d.refused) (sym (raw_items tty p end.0 d raw end.1 f is)) f.put;
        its = b.ttys tty t at';
        made = came.of_new;
        cooked = came.kept;
      }

  -- ALL

  tables_agree : TablesAgree plan c logs
  tables_agree = record {
    planned = b.worked.planned;
    threads = λ x t at. let w = within c.threads x t at in let e = b.says.whole.all_threads in
        thread_agrees plan logs boot.done b.worked c b.threads b.spare x (omega arith) t at;
    queues = λ index q at. queue_agrees plan logs boot.done b.worked index (others_at plan boot index) q (b.queues index q at);
    taken = taken;
    put = put;
    left_open = λ index q at. never_shut index plan logs boot.done b.worked (b.shut_by index q at);
    ttys = tty_agrees;
    movers = λ k p m at at'. let came = came_there k m (at_first c.movers c.ttys k m at') in mover_agrees plan logs boot.done b.worked k p came.0 m came.1 (b.movers k p m at at');
    gauges = gauges_agree plan logs boot.done b.worked c b.meters;
    alarms = alarms_agree plan logs boot.done b.worked c b.meters;
    none_left = λ chain k at. (came_there k chain at).1.none_left;
  }

  all_heard : IsPermutation (total_of logs).heard heard
  all_heard = subst (λ (l : List Line). IsPermutation l heard) (ap (λ (a : Account). a.heard) (all_did plan logs boot.done b.worked)) b.all_heard

  pub report_agrees : IsReport plan c logs heard r
  report_agrees = record {
    tables = tables_agree;
    all_heard = all_heard;
    sorted = sorted plan logs boot.done b.worked c b.threads heard all_heard b.ascend;
    says = b.says;
    chained = b.says.chained ∙ (let x = no_sum c.movers (all_here NoneLeft c.movers (λ k m at. (came_there k m (at_first c.movers c.ttys k m at)).1.none_left)) in
        let y = no_sum c.ttys (all_here NoneLeft c.ttys (λ k t at. (came_there (length c.movers + k) t (at_second c.movers c.ttys k t at)).1.none_left)) in omega arith);
  }

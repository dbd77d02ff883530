-- Lines that are made of what was closed say the numbers of the closed tables that it shows.
use Rattle.boot_report.proofs.Common.{◌≡◌, ℕ, zero, suc, ◌+◌, List, [], ◌∷◌, ◌++◌, length, map, take, get_or, refl, sym, ap, ◌∙◌, subst, arith, Some, slice_get, length-take-le, length-map, PlannedTty, Report, Line, ClosedTables, Says, Typed, queue_line, gauge_line, mover_line, tty_lines, thread_line, heard_line, Shows, NamedLine, AreWhole, QueueSaid, TtySaid, TtyQueuesSaid, MoverSaid, GaugeSaid, AlarmsSaid, ThreadSaid, HeardSaid, name_in, IsMade, name_of, few_ttys}
use Rattle.boot_data.specs.declared.plan.PlannedMover.{PlannedMover}
use Rattle.boot_data.specs.declared.plan.PlannedQueue.{PlannedQueue}
use Rattle.boot_data.specs.declared.plan.PlannedThread.{PlannedThread}
use Rattle.boot_data.specs.declared.report.GaugeLine.{GaugeLine}
use Rattle.boot_data.specs.declared.report.MoverLine.{MoverLine}
use Rattle.boot_data.specs.declared.report.QueueLine.{QueueLine}
use Rattle.boot_data.specs.declared.report.ThreadLine.{ThreadLine}
use Rattle.boot_data.specs.declared.report.TtyLines.{TtyLines}
use Rattle.boot_data.specs.QueueLists.{raw_queue, line_queue, screen_queue}
use Rattle.boot_objects.specs.declared.closing.all.TornDown.{TornDown}
use Rattle.processor.proofs.Fitted.{few_steps}
use Rattle.boot_laws.specs.ClosedTables as closed
use Rattle.boot_report.proofs.Limits.{few_movers, few_gauges}
use Rattle.boot_report.proofs.Numbering.{as_many, made_at, mapped_at}
use Rattle.boot_report.proofs.Shown.{got_left, got_right, counts_are, chain_is, device_is, all_left, said_at, few_is}

-- the element at a place among the first of a list
got_take : {A : Type 0} (n : ℕ) (l : List A) (k : ℕ) (x d : A) → slice_get (take n l) k ≡ Some x → get_or l k d ≡ x
got_take zero l k x d e = absurd (cc)
got_take (suc n) [] k x d e = absurd (cc)
got_take (suc n) (y ∷ l) zero x d e = cc
got_take (suc n) (y ∷ l) (suc k) x d e = got_take n l k x d e

-- the name of a thread, among all names
name_got : (threads : List PlannedThread) (thread : ℕ) → get_or (map name_of threads) thread [] ≡ name_in (slice_get threads thread)
name_got [] thread = refl
name_got (t ∷ threads) zero = refl
name_got (t ∷ threads) (suc thread) = name_got threads thread

module _ (c : ClosedTables) (ended : TornDown) (heard : List Line) (typed : List Typed) (r : Report) (s : Shows c ended typed) (m : IsMade ended heard typed r) (eight : length ended.meters.gauges ≡ 8) where
  whole : AreWhole ended.plan c r
  whole = record {
    queues = ap length m.queues ∙ as_many (queue_line ended.small.items) 0 ended.plan.queues;
    ttys = ap length m.ttys ∙ as_many (tty_lines ended typed) 0 ended.plan.ttys;
    movers = ap length m.movers ∙ as_many (mover_line ended.counts.items) 0 ended.plan.movers;
    gauges = ap length m.gauges ∙ as_many (gauge_line ended.meters.gauges) 0 ended.plan.gauges;
    threads = ap length m.threads ∙ as_many (thread_line ended) 0 ended.plan.threads;
    small = s.all.small;
    large = s.all.large;
    all_ttys = (s.all.ttys, s.all.devices);
    all_movers = s.all.movers;
    all_gauges = let few = few_gauges ended.plan in let e = eight in ap length s.gauges ∙ length-take-le (length ended.plan.gauges) ended.meters.gauges (omega arith);
    all_threads = s.all.threads;
  }

  queues_said : (k : ℕ) (p : PlannedQueue) (q : closed.Queue) (line : QueueLine) → slice_get ended.plan.queues k ≡ Some p
      → slice_get c.small k ≡ Some q → slice_get r.queues k ≡ Some line → QueueSaid p q line
  queues_said k p q line here there mine =
      let is : line ≡ queue_line ended.small.items k p = made_at (queue_line ended.small.items) k ended.plan.queues p line here (subst (λ l. slice_get l k ≡ Some line) m.queues mine) in
      subst (λ z. QueueSaid p q z) (sym is) (record { kind = refl; name = refl; items = counts_are c.small ended.small.items s.small k q there })

  ttys_said : (k : ℕ) (p : PlannedTty) (t : closed.Chain) (d : closed.Device) (lines : TtyLines) → slice_get ended.plan.ttys k ≡ Some p
      → slice_get c.ttys k ≡ Some t → slice_get c.devices k ≡ Some d → slice_get r.ttys k ≡ Some lines
      → TtySaid p t d lines × TtyQueuesSaid (length ended.plan.queues) k c lines
  ttys_said k p t d lines here chain device mine =
      let is : lines ≡ tty_lines ended typed k p = made_at (tty_lines ended typed) k ended.plan.ttys p lines here (subst (λ l. slice_get l k ≡ Some lines) m.ttys mine) in
      let place : slice_get (c.movers ++ c.ttys) (length ended.plan.movers + k) ≡ Some t =
      subst (λ n. slice_get (c.movers ++ c.ttys) (n + k) ≡ Some t) s.all.movers (got_right c.movers c.ttys k t chain) in
      let its = chain_is (c.movers ++ c.ttys) ended.counts.items s.chains (length ended.plan.movers + k) t place in
      let did = device_is c.devices typed s.devices k d device in
      subst (λ z. TtySaid p t d z × TtyQueuesSaid (length ended.plan.queues) k c z) (sym is) (
        record { name = refl; typed = did.popped; overrun = did.refused; notes = its.notes; held = its.held },
        record {
          raw = λ q at. counts_are c.small ended.small.items s.small (raw_queue (length ended.plan.queues) k) q at;
          line = λ q at. counts_are c.large ended.large.items s.large (line_queue k) q at;
          screen = λ q at. counts_are c.large ended.large.items s.large (screen_queue k) q at;
        },
      )

  movers_said : (k : ℕ) (p : PlannedMover) (mover : closed.Chain) (line : MoverLine) → slice_get ended.plan.movers k ≡ Some p
      → slice_get c.movers k ≡ Some mover → slice_get r.movers k ≡ Some line → MoverSaid p mover line
  movers_said k p mover line here chain mine =
      let is : line ≡ mover_line ended.counts.items k p = made_at (mover_line ended.counts.items) k ended.plan.movers p line here (subst (λ l. slice_get l k ≡ Some line) m.movers mine) in
      let its = chain_is (c.movers ++ c.ttys) ended.counts.items s.chains k mover (got_left c.movers c.ttys k mover chain) in
      subst (λ z. MoverSaid p mover z) (sym is) (record { kind = refl; name = refl; notes = its.notes; taken = its.taken; put = its.put; held = its.held })

  gauges_said : (k : ℕ) (name : List ℕ) (value : ℕ) (line : GaugeLine) → slice_get ended.plan.gauges k ≡ Some name
      → slice_get c.gauges k ≡ Some value → slice_get r.gauges k ≡ Some line → GaugeSaid name value line
  gauges_said k name value line here there mine =
      let is : line ≡ gauge_line ended.meters.gauges k name = made_at (gauge_line ended.meters.gauges) k ended.plan.gauges name line here (subst (λ l. slice_get l k ≡ Some line) m.gauges mine) in
      let shown = got_take (length ended.plan.gauges) ended.meters.gauges k value 0 (subst (λ l. slice_get l k ≡ Some value) s.gauges there) in
      subst (λ z. GaugeSaid name value z) (sym is) (record { name_is = refl; value_is = shown })

  alarms_said : AlarmsSaid ended.plan c r.alarms
  alarms_said = let left = s.left in let all = s.alarms in
      subst (λ z. AlarmsSaid ended.plan c z) (sym m.alarms) (record { set = refl; fired = omega arith; left = left })

  threads_said : (k : ℕ) (p : PlannedThread) (t : closed.Thread) (line : ThreadLine) → slice_get ended.plan.threads k ≡ Some p
      → slice_get c.threads k ≡ Some t → slice_get r.threads k ≡ Some line → ThreadSaid p t line
  threads_said k p t line here there mine =
      let is : line ≡ thread_line ended k p = made_at (thread_line ended) k ended.plan.threads p line here (subst (λ l. slice_get l k ≡ Some line) m.threads mine) in
      let its = s.threads k t there in
      let done = its.steps in let prefix = its.prefix in let most = few_steps ended.plan k in
      subst (λ z. ThreadSaid p t z) (sym is) (record {
        name = refl;
        state = said_at ended.threads.places k t.place its.place its.named;
        steps = few_is (get_or ended.threads.pcs k 0) (omega arith) ∙ sym done;
        signals = sym its.shown;
      })

  heard_said : (k : ℕ) (line : Line) (said : NamedLine) → slice_get heard k ≡ Some line
      → slice_get r.heard k ≡ Some said → HeardSaid ended.plan line said
  heard_said k line said here mine =
      let is : said ≡ heard_line ended.plan.threads line = mapped_at (heard_line ended.plan.threads) heard k line said here
      (subst (λ l. slice_get l k ≡ Some said) m.heard_is mine) in
      subst (λ z. HeardSaid ended.plan line z) (sym is) (record { thread = name_got ended.plan.threads line.0.0; step = refl; bytes = refl })

  pub says : Says ended.plan c heard r
  says = record {
    whole = whole;
    queues = queues_said;
    ttys = ttys_said;
    movers = movers_said;
    gauges = gauges_said;
    alarms = alarms_said;
    threads = threads_said;
    many_heard = ap length m.heard_is ∙ length-map heard (heard_line ended.plan.threads);
    heard_lines = heard_said;
    chained = m.chained ∙ all_left c.movers c.ttys ended.counts.items s.chains (let a = few_movers ended.plan in let b = few_ttys ended.plan in let d = s.all.movers in let e = s.all.ttys in omega arith);
  }

-- What a boot knows of all that it has when its threads have stopped.
use Rattle.synth_kernel.proofs.Common.{◌≤◌, ℕ, List, length, flat_map, map, sym, subst, BootPlan, Report, TornDown, AllClosed, AreRawsOf, TookRaws, HasWholes, Calls, parts_of, gate_of, Shared, Parts, hear_count, heard_lines, RawTty, IsReported, lines_of, Ready, IsBootOf, BootWithHooks, processed_in, served_in, tty_of, IsReady, HasStopped, Line, RunsOf, RefusalsOf}
use Rattle.boot_report.specs.Rooms as reporting
use Rattle.synth_kernel.specs.declared.running.Stopped.{Stopped}
use Rattle.synth_kernel.proofs.Shut.{raws_came, wholes, few_lines, booted}

module _ {G : Type 0} (ran : RunsOf G) (refused : RefusalsOf G) (shown : TornDown → Type 0) (T : Calls G) (plan : BootPlan) (turns : ℕ) (gates : List G) (ready : Ready G) (r : IsReady plan turns gates ready) (stopped : Stopped G) (s : HasStopped ran refused T (length gates) ready stopped) where
  -- the known facts, if these are the objects, and these raw ttys, gates and lines came back
  pub record Knows (shared : Shared) (ttys : List RawTty) (back : List G) (lines : List Line) : Type 0 where
    pub raws : AreRawsOf shared ttys
    pub wholes : (parts : Parts) → TookRaws (length shared.plan.queues) (length shared.plan.movers) ttys stopped.gathered.station.parts parts → HasWholes shared parts
    pub report : reporting.HasAllRoom shared.plan stopped.report
    pub few : (parts : Parts) (ended : TornDown) → TookRaws (length shared.plan.queues) (length shared.plan.movers) ttys stopped.gathered.station.parts parts → AllClosed shared parts ended → length lines ≤ hear_count ended.plan
    pub booted : (parts : Parts) (ended : TornDown) → TookRaws (length shared.plan.queues) (length shared.plan.movers) ttys stopped.gathered.station.parts parts → AllClosed shared parts ended
        → shown ended → (report : Report) → IsReported ended lines stopped.gathered.reported.items report → IsBootOf (BootWithHooks ran shown T turns gates back ended) plan report

  came : Knows ready.shared (map tty_of (served_in s.backs)) (map gate_of (processed_in s.backs)) (flat_map heard_lines (map parts_of (processed_in s.backs)))
  came = record {
    raws = raws_came ran refused shown T plan turns gates ready r s.backs s.inputs s.worked s.typed s.gathered.all;
    wholes = wholes ran refused shown T plan turns gates ready r s.backs s.inputs s.worked s.typed s.gathered.all stopped.gathered.station.parts s.gathered.joined;
    report = subst (reporting.HasAllRoom ready.shared.plan) (sym s.report_is) r.room.report;
    few = λ parts ended took closes. few_lines ran refused shown T plan turns gates ready r s.backs s.inputs s.worked s.typed s.gathered.all stopped.gathered.station.parts s.gathered.joined
        s.gathered.parts stopped.gathered.reported.items s.gathered.reported parts took ended closes;
    booted = λ parts ended took closes. booted ran refused shown T plan turns gates ready r s.backs s.inputs s.worked s.typed s.gathered.all stopped.gathered.station.parts s.gathered.joined
        s.gathered.parts stopped.gathered.reported.items s.gathered.reported parts took ended closes;
  }

  pub knows : Knows stopped.shared stopped.gathered.ttys.items stopped.gathered.gates.items (flat_map lines_of stopped.gathered.heards.items)
  knows = subst (λ (z : Shared). Knows z stopped.gathered.ttys.items stopped.gathered.gates.items (flat_map lines_of stopped.gathered.heards.items)) (sym s.shared_is)
      (subst (λ (z : List RawTty). Knows ready.shared z stopped.gathered.gates.items (flat_map lines_of stopped.gathered.heards.items)) (sym s.gathered.ttys)
      (subst (λ (z : List G). Knows ready.shared (map tty_of (served_in s.backs)) z (flat_map lines_of stopped.gathered.heards.items)) (sym s.gathered.gates)
      (subst (λ (z : List Line). Knows ready.shared (map tty_of (served_in s.backs)) (map gate_of (processed_in s.backs)) z) (sym s.gathered.heard) came)))

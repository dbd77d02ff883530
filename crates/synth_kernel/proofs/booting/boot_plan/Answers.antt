use Rattle.synth_kernel.proofs.Common.{ℕ, List, flat_map, sym, subst, ◌∙◌, BootPlan, Typed, IsReported, lines_of, IsReady, HasStopped, calls}
use Rattle.boot_report.specs.Rooms.{HasAllRoom}
use Rattle.synth_kernel.proofs.Stopping.{knows}
use Rattle.synth_kernel.proofs.booting.boot_plan.Goals as goal

pub run_threads-requires-clause-ready : goal.run_threads-requires-clause-ready
run_threads-requires-clause-ready g c = λ κs within.
    let o = c.in_ok-ready.ready in let r = c.in_ok-ready.ensures in
    (c.args.turns, c.args.gates.items, c.len-processors.ensures ∙ c.args.gates.ok.0, subst (λ (z : BootPlan). IsReady z c.args.turns c.args.gates.items o) (sym r.plan_is) r)

pub shut_down-ended-requires-clause-ttys : goal.shut_down-ended-requires-clause-ttys
shut_down-ended-requires-clause-ttys g c =
    let o = c.in_ok-ready.ready in let r = c.in_ok-ready.ensures in
    let long = c.len-processors.ensures ∙ c.args.gates.ok.0 in
    let s = subst (λ (z : ℕ). HasStopped g.R.Witness.ran g.R.Witness.refused (calls g.G.Gate.observes g.G.TurnGate.learns) z o c.in_ok-stopped.stopped) long c.in_ok-stopped.ensures in
    (knows g.R.Witness.ran g.R.Witness.refused g.R.Witness.shown (calls g.G.Gate.observes g.G.TurnGate.learns) c.args.plan c.args.turns c.args.gates.items o r c.in_ok-stopped.stopped s).raws

pub shut_down-ended-requires-clause-wholes : goal.shut_down-ended-requires-clause-wholes
shut_down-ended-requires-clause-wholes g c =
    let o = c.in_ok-ready.ready in let r = c.in_ok-ready.ensures in
    let long = c.len-processors.ensures ∙ c.args.gates.ok.0 in
    let s = subst (λ (z : ℕ). HasStopped g.R.Witness.ran g.R.Witness.refused (calls g.G.Gate.observes g.G.TurnGate.learns) z o c.in_ok-stopped.stopped) long c.in_ok-stopped.ensures in
    (knows g.R.Witness.ran g.R.Witness.refused g.R.Witness.shown (calls g.G.Gate.observes g.G.TurnGate.learns) c.args.plan c.args.turns c.args.gates.items o r c.in_ok-stopped.stopped s).wholes

pub report_boot-report-requires : goal.report_boot-report-requires
report_boot-report-requires g c =
    let o = c.in_ok-ready.ready in let r = c.in_ok-ready.ensures in
    let long = c.len-processors.ensures ∙ c.args.gates.ok.0 in
    let s = subst (λ (z : ℕ). HasStopped g.R.Witness.ran g.R.Witness.refused (calls g.G.Gate.observes g.G.TurnGate.learns) z o c.in_ok-stopped.stopped) long c.in_ok-stopped.ensures in
    let k = knows g.R.Witness.ran g.R.Witness.refused g.R.Witness.shown (calls g.G.Gate.observes g.G.TurnGate.learns) c.args.plan c.args.turns c.args.gates.items o r c.in_ok-stopped.stopped s in
    let e = c.shut_down-ended.ensures in
    record {
      room = subst (λ (z : BootPlan). HasAllRoom z c.in_ok-stopped.stopped.report) (sym e.2.rest.2) k.report;
      few = k.few e.0 c.shut_down-ended.result e.1 e.2;
    }

pub returns : goal.returns
returns g c =
    let o = c.in_ok-ready.ready in let r = c.in_ok-ready.ensures in
    let long = c.len-processors.ensures ∙ c.args.gates.ok.0 in
    let s = subst (λ (z : ℕ). HasStopped g.R.Witness.ran g.R.Witness.refused (calls g.G.Gate.observes g.G.TurnGate.learns) z o c.in_ok-stopped.stopped) long c.in_ok-stopped.ensures in
    let k = knows g.R.Witness.ran g.R.Witness.refused g.R.Witness.shown (calls g.G.Gate.observes g.G.TurnGate.learns) c.args.plan c.args.turns c.args.gates.items o r c.in_ok-stopped.stopped s in
    let e = c.shut_down-ended.ensures in
    k.booted e.0 c.shut_down-ended.result e.1 e.2 c.show.ensures c.report_boot-report.result
    (subst (λ (z : List Typed). IsReported c.shut_down-ended.result (flat_map lines_of c.in_ok-stopped.stopped.gathered.heards.items) z c.report_boot-report.result) c.as_slice.ensures.value c.report_boot-report.ensures)

use Rattle.std.proofs.Common.{◌+◌, ◌∙◌, sym, ap, subst, length, take, min, arith}
use Rattle.quaject_core.specs.ShownCores.{state}
use Rattle.event_theory.specs.States.{first_state}
use Rattle.boot_script.proofs.EventScripts.Schedules.{reaches_next}
use Rattle.draw.specs.Histories.{LastRowsShow, IsNext, kept}
use Rattle.draw.proofs.Histories.{longer, last_kept, as_many_kept, refused_here}
use Rattle.draw.proofs.history.replay_rows.Goals as goal

pub returns-in-Some : goal.returns-in-Some
returns-in-Some c =
    let events = c.args.events.now in
    let numbered = c.loop-line-item.result in
    let old = first_state c.args.elements in
    let new = state c.loop-line.core in
    let ended = subst (λ end. IsNext end numbered.0 numbered.1 new (state c.apply_next.new.core)) c.in-Some.is c.in_ok-apply_next.ensures in
    record {
      new = new;
      replayed = refused_here events c.loop-line.line-index numbered old new c.in-Some.replayed c.loop-line-test.true c.loop-line-item.is c.loop-line.invariant.0 ended.1;
      within = omega (arith, c.loop-line.invariant.2, c.loop-line-test.true);
      reported = subst (λ n. LastRowsShow c.loop-line.rows.items (take n events) old new) (sym c.loop-line.invariant.2) c.loop-line.invariant.1;
      as_many = c.loop-line.invariant.3 ∙ ap (λ n. min 200 n) (sym c.loop-line.invariant.2);
    }

pub loop-line-preserved : goal.loop-line-preserved
loop-line-preserved c =
    let events = c.args.events.now in
    let index = c.loop-line.line-index in
    let numbered = c.loop-line-item.result in
    let rows = c.loop-line.rows.items in
    let row = c.in_ok-row_of.field-0 in
    let old = first_state c.args.elements in
    let before = state c.loop-line.core in
    let new = state c.apply_next.new.core in
    let stepped = subst (λ end. IsNext end numbered.0 numbered.1 before new) c.in-None.is c.in_ok-apply_next.ensures in
    let reported = last_kept rows (take index events) old before row numbered new c.loop-line.invariant.1 stepped c.in_ok-row_of.ensures in
    let front = longer events index numbered c.loop-line-test.true c.loop-line-item.is in
    let fronted = subst (λ es. LastRowsShow (kept rows row) es old new) (sym front) reported in (
      reaches_next old events index numbered before new c.loop-line-test.true c.loop-line-item.is c.loop-line.invariant.0 stepped,
      subst (λ all. LastRowsShow all (take (index + 1) events) old new) (sym c.in_ok-keep.ensures) fronted,
      ap (λ n. n + 1) c.loop-line.invariant.2,
      ap length c.in_ok-keep.ensures ∙ as_many_kept rows row index c.loop-line.invariant.3,
    )

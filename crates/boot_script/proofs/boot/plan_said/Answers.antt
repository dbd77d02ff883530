use Rattle.boot_script.proofs.Common.{◌∙◌, inl, inr, refl, sym, ap, subst, arith, Ok, nat_tests, lines_of, first_draft, plan_from, plan_only, IsPlan, Draws}
use Rattle.boot_script.proofs.EventScripts.EventsRead.{no_text}
use Rattle.boot_script.proofs.BootScripts.LinesDrawn.{silent_line, line_reported, line_fault, lines_done, is_said}
use Rattle.boot_script.proofs.Drafts.PlanLimits.{draft_within}
use Rattle.boot_script.proofs.boot.plan_said.Goals as goal
use Rattle.boot_script.proofs.boot.plan_said.Goals.{then-not-is_silent+in-Ok, else-not-is_silent}

pub loop-rest-init : goal.loop-rest-init
loop-rest-init c = record {
  so_far = record { d = first_draft; drawn = c.new-draft.ensures; all = refl };
  few = omega arith;
}

pub returns-in-Err : goal.returns-in-Err
returns-in-Err c =
    let so_far = c.loop-rest.invariant.so_far in
    let line = c.seen_line-seen.result.0.now in
    let lines = lines_of c.seen_line-seen.result.1.now in
    let here = ap (λ ls. plan_from c.args.version c.loop-rest.line_number ls so_far.d) (sym c.seen_line-seen.ensures.lines) ∙ so_far.all in
    inr (ap plan_only (line_fault c.args.version c.loop-rest.line_number line lines so_far.d c.in-Err.refusal _ c.if-not-is_silent.ensures (c.in-Err.ensures so_far.d so_far.drawn) here))

pub loop-rest-preserved : goal.loop-rest-preserved
loop-rest-preserved c =
    let so_far = c.loop-rest.invariant.so_far in
    let line = c.seen_line-seen.result.0.now in
    let lines = lines_of c.seen_line-seen.result.1.now in
    let here = ap (λ ls. plan_from c.args.version c.loop-rest.line_number ls so_far.d) (sym c.seen_line-seen.ensures.lines) ∙ so_far.all in
    elim c.if-not-is_silent.branch [
      | then-not-is_silent+in-Ok w ↦
          let next = w.in-Ok.ensures so_far.d so_far.drawn in
          record {
            so_far = record {
              d = next.0;
              drawn = subst (λ kept. Draws kept next.0) (sym w.draft-is) next.2;
              all = line_reported c.args.version c.loop-rest.line_number line lines so_far.d next.0 _ w.if-not-is_silent.ensures next.1 here;
            };
            few = omega arith;
          }
      | else-not-is_silent w ↦
          record {
            so_far = record {
              d = so_far.d;
              drawn = subst (λ kept. Draws kept so_far.d) (sym w.draft-is) so_far.drawn;
              all = silent_line c.args.version c.loop-rest.line_number line lines so_far.d _ w.if-not-is_silent.ensures here;
            };
            few = omega arith;
          }
    ]

pub plan_kept-requires : goal.plan_kept-requires
plan_kept-requires c =
    let so_far = c.loop-rest.invariant.so_far in
    let none = no_text c.loop-rest.rest.now (grind (arith, nat_tests)) in
    let said = lines_done c.args.version c.loop-rest.line_number (lines_of c.loop-rest.rest.now) so_far.d _ none so_far.all in
    subst IsPlan (sym (so_far.drawn.plan c.if-draft.true)) (draft_within c.args.version 2 (lines_of c.args.text.now) so_far.d said)

pub returns-then-draft : goal.returns-then-draft
returns-then-draft c =
    let so_far = c.loop-rest.invariant.so_far in
    let none = no_text c.loop-rest.rest.now (grind (arith, nat_tests)) in
    let said = lines_done c.args.version c.loop-rest.line_number (lines_of c.loop-rest.rest.now) so_far.d _ none so_far.all in
    ap plan_only said ∙ ap Ok (sym (c.plan_kept.ensures ∙ so_far.drawn.plan c.if-draft.true))

pub returns-else-draft : goal.returns-else-draft
returns-else-draft c =
    let so_far = c.loop-rest.invariant.so_far in
    let none = no_text c.loop-rest.rest.now (grind (arith, nat_tests)) in
    let said = lines_done c.args.version c.loop-rest.line_number (lines_of c.loop-rest.rest.now) so_far.d _ none so_far.all in
    inl (refl, is_said (plan_from c.args.version 2 (lines_of c.args.text.now) first_draft) so_far.d said)

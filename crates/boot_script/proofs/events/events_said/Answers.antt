use Rattle.boot_script.proofs.Common.{◌∷◌, ◌++◌, ◌∙◌, inl, inr, [], refl, sym, ap, subst, rules, ℕ, arith, Ok, nat_tests, Event, lines_of, line_event, events_from, Fails}
use Rattle.boot_script.proofs.Basics.Gathered.{with_front, none_yet, pushed, what_is_ok, is_ok_by}
use Rattle.boot_script.proofs.EventScripts.EventsRead.{silent_more, reported_more, reported_fault, no_text, events_done}
use Rattle.boot_script.proofs.events.events_said.Goals as goal
use Rattle.boot_script.proofs.events.events_said.Goals.{then-not-is_silent+in-Ok+then-kept, then-not-is_silent+in-Ok+else-kept, then-not-is_silent+in-Err-OutOfMemory, else-not-is_silent}

pub loop-rest-init : goal.loop-rest-init
loop-rest-init c = record {
  gathered = record { front = []; here = λ h. c.new-events.ensures.items; all = none_yet _ };
  few = omega arith;
}

pub returns-in-Err : goal.returns-in-Err
returns-in-Err c =
    let front = c.loop-rest.invariant.gathered.front in
    let here = ap (λ ls. with_front front (events_from c.args.version c.loop-rest.line_number ls)) (sym c.first_line.ensures.lines) ∙ c.loop-rest.invariant.gathered.all in
    inr (reported_fault c.args.version c.loop-rest.line_number front c.first_line.result.0.now (lines_of c.first_line.result.1.now) _ c.in-Err.refusal (λ e. search rules) c.if-not-is_silent.ensures c.in-Err.ensures here)

pub loop-rest-preserved : goal.loop-rest-preserved
loop-rest-preserved c =
    let front = c.loop-rest.invariant.gathered.front in
    let line = c.first_line.result.0.now in
    let lines = lines_of c.first_line.result.1.now in
    let here = ap (λ ls. with_front front (events_from c.args.version c.loop-rest.line_number ls)) (sym c.first_line.ensures.lines) ∙ c.loop-rest.invariant.gathered.all in
    elim c.if-not-is_silent.branch [
      | then-not-is_silent+in-Ok+then-kept w ↦
          let added : ℕ × Event = (c.loop-rest.line_number, w.in-Ok.event) in
          record {
            gathered = record {
              front = front ++ added ∷ [];
              here = pushed _ _ _ _ front added (ap (λ v. v.items) w.events-is ∙ w.push.ensures.items) (w.kept-is ∙ w.is_ok-kept.ensures.value) (c.loop-rest.invariant.gathered.here w.if-kept.true);
              all = reported_more c.args.version c.loop-rest.line_number front line lines _ w.in-Ok.event w.if-not-is_silent.ensures w.in-Ok.ensures here;
            };
            few = omega arith;
          }
      | then-not-is_silent+in-Ok+else-kept w ↦
          record {
            gathered = record {
              front = front ++ (c.loop-rest.line_number, w.in-Ok.event) ∷ [];
              here = λ h. absurd (cc (h, w.kept-is, w.if-kept.false));
              all = reported_more c.args.version c.loop-rest.line_number front line lines _ w.in-Ok.event w.if-not-is_silent.ensures w.in-Ok.ensures here;
            };
            few = omega arith;
          }
      | then-not-is_silent+in-Err-OutOfMemory w ↦
          let event = what_is_ok (line_event c.args.version line) (subst (λ x. Fails x (line_event c.args.version line)) w.in-Err-OutOfMemory.field-0-is w.in-Err-OutOfMemory.ensures) in
          record {
            gathered = record {
              front = front ++ (c.loop-rest.line_number, event.0) ∷ [];
              here = λ h. absurd (cc (h, w.kept-is));
              all = reported_more c.args.version c.loop-rest.line_number front line lines _ event.0 w.if-not-is_silent.ensures event.1 here;
            };
            few = omega arith;
          }
      | else-not-is_silent w ↦
          record {
            gathered = record {
              front = front;
              here = λ h. ap (λ v. v.items) w.events-is ∙ c.loop-rest.invariant.gathered.here (cc (h, w.kept-is));
              all = silent_more c.args.version c.loop-rest.line_number front line lines _ w.if-not-is_silent.ensures here;
            };
            few = omega arith;
          }
    ]

pub returns-then-kept-2 : goal.returns-then-kept-2
returns-then-kept-2 c =
    let front = c.loop-rest.invariant.gathered.front in
    let none = no_text c.loop-rest.rest.now (grind (arith, nat_tests)) in
    events_done c.args.version c.loop-rest.line_number front (lines_of c.loop-rest.rest.now) _ none c.loop-rest.invariant.gathered.all
    ∙ ap Ok (sym (c.loop-rest.invariant.gathered.here c.if-kept-2.true))

pub returns-else-kept-2 : goal.returns-else-kept-2
returns-else-kept-2 c =
    let front = c.loop-rest.invariant.gathered.front in
    let none = no_text c.loop-rest.rest.now (grind (arith, nat_tests)) in
    inl (refl, is_ok_by _ front (events_done c.args.version c.loop-rest.line_number front (lines_of c.loop-rest.rest.now) _ none c.loop-rest.invariant.gathered.all))

use Rattle.std.proofs.Common.{◌++◌, ◌∙◌, refl, sym, ap, subst}
use Rattle.event_theory.specs.States.{first_state}
use Rattle.boot_script.proofs.EventScripts.Faults.{memory_last}
use Rattle.draw.specs.Drawings.{IsDrawn}
use Rattle.draw.specs.Histories.{IsHistory}
use Rattle.svg.specs.Pictures.{picture_text}
use Rattle.draw.proofs.program.draw_page.Goals as goal

pub returns-in-Ok-print_picture-clause-ok : goal.returns-in-Ok-print_picture-clause-ok
returns-in-Ok-print_picture-clause-ok c =
    let past = c.in_ok-past-in-Ok.past in
    let drawn = c.in_ok-drawn-in-Ok.drawn in
    let reported = subst (λ events. IsHistory past events (first_state c.in-Ok.elements)) c.deref.ensures.value c.in_ok-past-in-Ok.ensures in
    let printed = c.in-Ok-print_picture.ensures ∙ ap (λ before. before ++ picture_text drawn) c.new-page.ensures.items in
    subst (λ said. IsDrawn said past.replayed c.print_picture.new.out.items) (sym c.in-Ok.ensures.said) (past, reported, refl, (drawn, printed))

pub returns-in-OutOfMemory-clause-fault : goal.returns-in-OutOfMemory-clause-fault
returns-in-OutOfMemory-clause-fault c = memory_last c.args.script.now c.in-Err.fault c.in-OutOfMemory.is c.in-Err.ensures.said

use Rattle.boot_script.proofs.Common.{◌≡◌, ◌∷◌, refl, sym, ap, ◌∙◌, Ok, option_copied, pieces_left, name_of}
use Rattle.boot_script.proofs.Drafts.NamesSoFar.{queue_by_part}
use Rattle.boot_script.proofs.declared_names.Names.queue.Goals as goal

pub returns-in-Some : goal.returns-in-Some
returns-in-Some c =
    let cut = c.cut.ensures.pieces ∙ ap (λ rest. c.cut.result.0.now ∷ pieces_left 46 (option_copied rest)) c.in-Some.is in
    let form : name_of c.cut.result.0.now ≡ Ok c.cut.result.0.now = rw (sym c.has_name_form.ensures.form ∙ c.if-not-has_name_form.false) refl in
    c.tty_part.ensures ∙ sym (queue_by_part c.args.heard c.args.self.now c.args.word.now c.cut.result.0.now c.in-Some.part.now c.cut.result.0.now cut form)
